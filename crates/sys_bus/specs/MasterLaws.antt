-- The machine keeps the laws of masters.
use Rattle.std.specs.Prelude.{◌≡◌, ℕ, ◌+◌, ◌-◌, ◌/◌, ◌^◌, ◌<◌, ◌⊎◌, Bool, true, false, ◌&&◌, nat_eq, if◌then◌else◌, List, [], ◌∷◌, length, Option, Some, None, refl}
use Rattle.std.proofs.Common.{arith, ap, sym, inl, inr, subst}
use Rattle.cosim_model.specs.declared.values.Bus.{Bus}
use Rattle.cosim_model.specs.Values.{all_on, bits_of}
use Rattle.cosim_model.specs.Parts.{IsMaster, IsAccess, IsSize}
use Rattle.rv_core.specs.declared.hart.HartAccess.{HartAccess}
use Rattle.rv_core.specs.declared.issue.Waiting.{Waiting}
use Rattle.sys_ram.specs.MemoryLaws.{read_of-is, write_of-code}
use Rattle.sys_bus.specs.declared.map.Window.{Window}
use Rattle.sys_bus.specs.declared.machine.Machine.{Machine}
use Rattle.sys_bus.specs.declared.machine.Unfinished.{Unfinished}
use Rattle.sys_bus.specs.Accesses.{IsHartAccess}
use Rattle.sys_bus.specs.Locals.{AreAccesses, local_unit-is}
use Rattle.sys_bus.specs.Maps.{MapState, holds, window_from}
use Rattle.sys_bus.specs.Units.{local_unit, bus_of, window_accessed, system_unit, accessed_beyond, beyond, unit_of, bus_awaited, rv_model}

-- What is issued goes to a window, is an access, and enables every lane.
pub record IsIssued (map : MapState) (b : Bus) : Type 0 where
  pub port : b.port < length map.windows
  pub access : IsAccess b.access
  pub lanes : all_on (bits_of b.access.lanes b.access.size) ≡ true

abbrev pub LeftIs : MapState → Option Unfinished → Type 0
LeftIs map None = Unit
LeftIs map (Some u) = IsIssued map u.bus

found-below : (here : Bool) (port count : ℕ) (w : Window) (later : Option (ℕ × Window)) (found : ℕ × Window) → (later ≡ Some found → found.0 < port + 1 + count)
    → (if here then Some (port, w) else later) ≡ Some found → found.0 < port + (count + 1)
found-below true port count w later found below e = (let same : (port, w) ≡ found = cc in let at : port ≡ found.0 = ap (λ p. p.0) same in omega (arith, at))
found-below false port count w later found below e = omega (arith, below e)

window_from-below : (port : ℕ) (ws : List Window) (addr n : ℕ) (found : ℕ × Window) → window_from port ws addr n ≡ Some found → found.0 < port + length ws
window_from-below port [] addr n found e = absurd (cc)
window_from-below port (w ∷ ws) addr n found e =
    let below = found-below (holds w addr n) port (length ws) w (window_from (port + 1) ws addr n) found (window_from-below (port + 1) ws addr n found) e in
    omega (arith, below)

lanes-of : (size : ℕ) → (size ≡ 1) ⊎ (size ≡ 2) ⊎ (size ≡ 4) → (2 ^ size - 1 < 2 ^ size) × (all_on (bits_of (2 ^ size - 1) size) ≡ true)
lanes-of size (inl e) = subst (λ n. (2 ^ n - 1 < 2 ^ n) × (all_on (bits_of (2 ^ n - 1) n) ≡ true)) (sym e) (omega arith, refl)
lanes-of size (inr (inl e)) = subst (λ n. (2 ^ n - 1 < 2 ^ n) × (all_on (bits_of (2 ^ n - 1) n) ≡ true)) (sym e) (omega arith, refl)
lanes-of size (inr (inr e)) = subst (λ n. (2 ^ n - 1 < 2 ^ n) × (all_on (bits_of (2 ^ n - 1) n) ≡ true)) (sym e) (omega arith, refl)

size-of : (size : ℕ) → (size ≡ 1) ⊎ (size ≡ 2) ⊎ (size ≡ 4) → IsSize size
size-of size (inl e) = inl e
size-of size (inr (inl e)) = inr (inl e)
size-of size (inr (inr e)) = inr (inr (inl e))

both-true : (a b : Bool) → (a && b) ≡ true → a ≡ true
both-true true b e = refl
both-true false b e = e

bus_of-is : (map : MapState) (port : ℕ) (w : Window) (a : HartAccess) → port < length map.windows → IsHartAccess a → IsIssued map (bus_of port w a)
bus_of-is map port w a below is = record {
  port = below;
  access = record {
    size = size-of a.size is.size;
    addr = (let small = is.addr in omega arith);
    value = is.value;
    lanes = (lanes-of a.size is.size).0;
    posted = λ e. both-true a.write w.posted e;
    read = is.read;
  };
  lanes = (lanes-of a.size is.size).1;
}

window_accessed-is : (map : MapState) (m : Machine) (x : Waiting) (found : Option (ℕ × Window)) → IsHartAccess x.request
    → window_from 0 map.windows x.request.addr x.request.size ≡ found → LeftIs map (window_accessed m x found).1
window_accessed-is map m x None is e = tt
window_accessed-is map m x (Some found) is e =
    bus_of-is map found.0 found.1 x.request (omega (arith, window_from-below 0 map.windows x.request.addr x.request.size found e)) is

either-left : (map : MapState) (b : Bool) (r s : Machine × Option Unfinished) → LeftIs map r.1 → LeftIs map s.1 → LeftIs map (if b then r else s).1
either-left map true r s p q = p
either-left map false r s p q = q

accessed_beyond-is : (map : MapState) (m : Machine) (x : Waiting) → IsHartAccess x.request → LeftIs map (accessed_beyond map m x).1
accessed_beyond-is map m x is =
    let found = window_from 0 map.windows x.request.addr x.request.size in
    either-left map (nat_eq (x.request.addr / 4096) 256) (system_unit m x, None) (window_accessed m x found) tt (window_accessed-is map m x found is refl)

beyond-is : (map : MapState) (m : Machine) (x : Option Waiting) → AreAccesses x → LeftIs map (beyond map m x).1
beyond-is map m None is = tt
beyond-is map m (Some x) is = accessed_beyond-is map m x is

unit_of-is : (map : MapState) (m : Machine) → LeftIs map (unit_of map m).1
unit_of-is map m = beyond-is map (local_unit m).0 (local_unit m).1 (local_unit-is m)

issued-is : (map : MapState) (u : Option Unfinished) (b : Bus) → LeftIs map u → bus_awaited u ≡ Some b → IsIssued map b
issued-is map None b is e = absurd (cc)
issued-is map (Some u) b is e = (let same : u.bus ≡ b = cc in subst (IsIssued map) same is)

pub rv_lawful : IsMaster rv_model
rv_lawful = record {
  issue_access = λ s b e. (let is = issued-is s.map (unit_of s.map s.machine).1 b (unit_of-is s.map s.machine) e in (is.port, is.access, e, λ f. is.lanes));
  issue_local = λ s e. e;
  finish_issued = λ s x. refl;
  issue_reach = λ s. omega arith;
  issue_full = λ s e. refl;
  finish_reach = λ s x. omega arith;
  finish_full = λ s x e. refl;
  read_is = λ s addr n. read_of-is s.machine.ram addr n;
  write_is = λ s addr bytes ons. write_of-code s.machine.ram addr bytes ons;
  write_keeps = λ s addr bytes ons. (refl, refl, omega arith, λ e. e);
  line_keeps = λ s number level. (refl, refl, omega arith, λ e. e);
}
