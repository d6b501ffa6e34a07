-- A master of either kind: each call is that of the master which it is.
use Rattle.std.specs.Prelude.{◌≡◌, ℕ, ◌<◌, ◌≤◌, ◌⊎◌, Bool, true, false, List, length, All, Option, Some, None}
use Rattle.cosim_model.specs.declared.values.Answer.{Answer}
use Rattle.cosim_model.specs.declared.values.Bus.{Bus}
use Rattle.cosim_model.specs.declared.values.Closing.{Closing}
use Rattle.cosim_model.specs.Values.{all_on, bits_of}
use Rattle.cosim_model.specs.Parts.{MasterModel, IsMaster, IsAccess, IsByte}
use Rattle.sys_bus.specs.Units.{rv_model}
use Rattle.sys_bus.specs.MasterLaws.{rv_lawful}
use Rattle.cos_script.specs.Masters.{script_model}
use Rattle.cos_script.specs.MasterLaws.{script_lawful}
use Rattle.cos_parts.specs.declared.any_master.AnyMaster.{AnyMaster}
use Rattle.cos_parts.specs.declared.any_master.AnyMaster.TheVariants.{Rv, Script}

abbrev pub any_issue : AnyMaster → AnyMaster × Option Bus
any_issue (Rv m) = (Rv (rv_model.issue m).0, (rv_model.issue m).1)
any_issue (Script m) = (Script (script_model.issue m).0, (script_model.issue m).1)

abbrev pub any_finish : AnyMaster → Answer → AnyMaster
any_finish (Rv m) answer = Rv (rv_model.finish m answer)
any_finish (Script m) answer = Script (script_model.finish m answer)

abbrev pub any_read : AnyMaster → ℕ → ℕ → ℕ × List ℕ
any_read (Rv m) addr n = rv_model.read m addr n
any_read (Script m) addr n = script_model.read m addr n

abbrev pub any_write : AnyMaster → ℕ → List ℕ → List Bool → AnyMaster × ℕ
any_write (Rv m) addr bytes ons = (Rv (rv_model.write m addr bytes ons).0, (rv_model.write m addr bytes ons).1)
any_write (Script m) addr bytes ons =
    (Script (script_model.write m addr bytes ons).0, (script_model.write m addr bytes ons).1)

abbrev pub any_line : AnyMaster → ℕ → Bool → AnyMaster
any_line (Rv m) number level = Rv (rv_model.line m number level)
any_line (Script m) number level = Script (script_model.line m number level)

abbrev pub any_stopped : AnyMaster → Option ℕ
any_stopped (Rv m) = rv_model.stopped m
any_stopped (Script m) = script_model.stopped m

abbrev pub any_closing : AnyMaster → Closing
any_closing (Rv m) = rv_model.closing m
any_closing (Script m) = script_model.closing m

abbrev pub any_issued : AnyMaster → Option Bus
any_issued (Rv m) = rv_model.issued m
any_issued (Script m) = script_model.issued m

abbrev pub any_reach : AnyMaster → ℕ
any_reach (Rv m) = rv_model.reach m
any_reach (Script m) = script_model.reach m

abbrev pub any_full : AnyMaster → Bool
any_full (Rv m) = rv_model.full m
any_full (Script m) = script_model.full m

abbrev pub any_model : MasterModel AnyMaster
any_model = record {
  issue = any_issue;
  finish = any_finish;
  read = any_read;
  write = any_write;
  line = any_line;
  stopped = any_stopped;
  closing = any_closing;
  issued = any_issued;
  reach = any_reach;
  full = any_full;
}

abbrev pub any_ram : AnyMaster → List ℕ
any_ram (Rv m) = m.machine.ram
any_ram (Script m) = m.ram

-- The laws, master by master.

issue_access : (m : AnyMaster) (b : Bus) → (any_issue m).1 ≡ Some b → (b.port < any_reach m) × IsAccess b.access
    × (any_issued (any_issue m).0 ≡ Some b) × (any_full m ≡ true → all_on (bits_of b.access.lanes b.access.size) ≡ true)
issue_access (Rv m) = rv_lawful.issue_access m
issue_access (Script m) = script_lawful.issue_access m

issue_local : (m : AnyMaster) → (any_issue m).1 ≡ None → any_issued (any_issue m).0 ≡ None
issue_local (Rv m) = rv_lawful.issue_local m
issue_local (Script m) = script_lawful.issue_local m

finish_issued : (m : AnyMaster) (x : Answer) → any_issued (any_finish m x) ≡ None
finish_issued (Rv m) = rv_lawful.finish_issued m
finish_issued (Script m) = script_lawful.finish_issued m

issue_reach : (m : AnyMaster) → any_reach (any_issue m).0 ≤ any_reach m
issue_reach (Rv m) = rv_lawful.issue_reach m
issue_reach (Script m) = script_lawful.issue_reach m

issue_full : (m : AnyMaster) → any_full m ≡ true → any_full (any_issue m).0 ≡ true
issue_full (Rv m) = rv_lawful.issue_full m
issue_full (Script m) = script_lawful.issue_full m

finish_reach : (m : AnyMaster) (x : Answer) → any_reach (any_finish m x) ≤ any_reach m
finish_reach (Rv m) = rv_lawful.finish_reach m
finish_reach (Script m) = script_lawful.finish_reach m

finish_full : (m : AnyMaster) (x : Answer) → any_full m ≡ true → any_full (any_finish m x) ≡ true
finish_full (Rv m) = rv_lawful.finish_full m
finish_full (Script m) = script_lawful.finish_full m

read_is : (m : AnyMaster) (addr n : ℕ) → (length (any_read m addr n).1 ≡ n) × All IsByte (any_read m addr n).1
    × (((any_read m addr n).0 ≡ 0) ⊎ (((any_read m addr n).0 ≡ 2) × All (λ b. b ≡ 0) (any_read m addr n).1))
read_is (Rv m) = rv_lawful.read_is m
read_is (Script m) = script_lawful.read_is m

write_is : (m : AnyMaster) (addr : ℕ) (bytes : List ℕ) (ons : List Bool) → ((any_write m addr bytes ons).1 ≡ 0)
    ⊎ ((any_write m addr bytes ons).1 ≡ 2)
write_is (Rv m) = rv_lawful.write_is m
write_is (Script m) = script_lawful.write_is m

write_keeps : (m : AnyMaster) (addr : ℕ) (bytes : List ℕ) (ons : List Bool)
    → (any_stopped (any_write m addr bytes ons).0 ≡ any_stopped m)
    × (any_issued (any_write m addr bytes ons).0 ≡ any_issued m)
    × (any_reach (any_write m addr bytes ons).0 ≤ any_reach m)
    × (any_full m ≡ true → any_full (any_write m addr bytes ons).0 ≡ true)
write_keeps (Rv m) = rv_lawful.write_keeps m
write_keeps (Script m) = script_lawful.write_keeps m

line_keeps : (m : AnyMaster) (number : ℕ) (level : Bool) → (any_stopped (any_line m number level) ≡ any_stopped m)
    × (any_issued (any_line m number level) ≡ any_issued m) × (any_reach (any_line m number level) ≤ any_reach m)
    × (any_full m ≡ true → any_full (any_line m number level) ≡ true)
line_keeps (Rv m) = rv_lawful.line_keeps m
line_keeps (Script m) = script_lawful.line_keeps m

pub any_lawful : IsMaster any_model
any_lawful = record {
  issue_access = issue_access;
  issue_local = issue_local;
  finish_issued = finish_issued;
  issue_reach = issue_reach;
  issue_full = issue_full;
  finish_reach = finish_reach;
  finish_full = finish_full;
  read_is = read_is;
  write_is = write_is;
  write_keeps = write_keeps;
  line_keeps = line_keeps;
}
