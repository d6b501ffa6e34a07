use Rattle.std.specs.Prelude.{map, is_some, option_map, option_and_then, unwrap_or, codes, nat_le, nat_eq, ◌&&◌, if◌then◌else◌, nat_lt, IsSome, ℤ, pos, negsuc}
use Rattle.std.proofs.Common.{ℕ, ◌≡◌, ◌+◌, ◌%◌, ◌<◌, ◌≤◌, suc, Bool, true, false, List, [], ◌∷◌, length, Option, Some, None, refl, sym, ap, ◌∙◌, subst, arith}
use Rattle.std.proofs.lemmas.Bool.{leb-true, eqb-true, ltb-true, ltb-false}
use Rattle.toml.specs.Data.{Data, string, integer, Members, get_member}
use Rattle.cos_config.specs.declared.config.MachineKind.{MachineKind}
use Rattle.cos_config.specs.declared.config.MachineKind.TheVariants.{Rv, Script}
use Rattle.cos_config.specs.declared.config.PortKind.{PortKind}
use Rattle.cos_config.specs.declared.config.PortKind.TheVariants.{Null, Timer, Uart, Dma, Disk}
use Rattle.cos_config.specs.declared.config.PortConfig.{PortConfig}
use Rattle.cos_config.specs.declared.config.Config.{Config}
use Rattle.cos_config.specs.declared.config.Sockets.{Sockets}
use Rattle.cos_config.specs.declared.config.Sockets.TheVariants.{Unneeded, All, Port}
use Rattle.cos_config.specs.declared.fault.TableName.{TableName}
use Rattle.cos_config.specs.declared.fault.TableName.TheVariants.{Machine, Port as PortTable}
use Rattle.cos_config.specs.declared.fault.ConfigFault.TheVariants.{TooMany}
use Rattle.cos_config.specs.First.{Found, or_else, first_of}
use Rattle.cos_config.specs.Keys.{A_word, A_number, A_text, Key, is_within, number_in, number_found, value_found, at_found, key_found, name_of, unknown_found, keys_found, table_found}
use Rattle.cos_config.specs.Tables.{as_text, text_at, machine_kind_of, port_kind_of, machine_kind_at, port_kind_at, required_key, optional_key, machine_keys, port_keys}
use Rattle.cos_config.specs.Settings.{number_at, port_with, port_of, ports_of, config_with, machine_of, machine_table, port_tables, config_of}
use Rattle.cos_map.specs.Parts.{overlap_found}
use Rattle.cos_config.specs.Rules.{needs_socket, needs_found, lines_found, served_found, port_found, each_port_found, too_many_found, top_found, tables_found, parts_found, config_found, overlap_fault, parts}
use Rattle.cosim_inputs.specs.Limits.{IsPort, ArePorts, IsMachine, IsWithinLimits, HasServed}

-- Where nothing is found by one rule or the next, both are kept.
pub or_else-none : (a b : Found) → or_else a b ≡ None → (a ≡ None) × (b ≡ None)
or_else-none None b none = (refl, none)
or_else-none (Some f) b none = absurd (cc)

-- no rule of these keys is broken
abbrev pub AreKept : TableName → Members → List Key → Type 0
AreKept name m [] = Unit {0}
AreKept name m (k ∷ ks) = (key_found name m k ≡ None) × AreKept name m ks

pub keys-kept : (name : TableName) (m : Members) (keys : List Key) → keys_found name m keys ≡ None → AreKept name m keys
keys-kept name m [] none = tt
keys-kept name m (k ∷ ks) none =
    let both = or_else-none (key_found name m k) (keys_found name m ks) none in
    (both.0, keys-kept name m ks both.1)

-- A number that is within limits.
pub record IsNumber (low high step n : ℕ) : Type 0 where
  pub least : low ≤ n
  pub most : n ≤ high
  pub steps : n % step ≡ 0

and-both : (a b c : Bool) → a && (b && c) ≡ true → (a ≡ true) × (b ≡ true) × (c ≡ true)
and-both true true true e = (refl, refl, refl)
and-both true true false e = absurd (cc)
and-both true false c e = absurd (cc)
and-both false b c e = absurd (cc)

if-none : (b : Bool) (f : Found) → (f ≡ None → ⊥) → (if b then None else f) ≡ None → b ≡ true
if-none true f some none = refl
if-none false f some none = absurd (some none)

number-within : (low high step : ℕ) (z : ℤ) (d : ℕ) → is_within low high step z ≡ true → IsNumber low high step (number_in d (Some (integer z)))
number-within low high step (pos n) d e =
    let tests = and-both (nat_le low n) (nat_le n high) (nat_eq (n % step) 0) e in
    record { least = leb-true low n tests.0; most = leb-true n high tests.1; steps = eqb-true (n % step) 0 tests.2 }
number-within low high step (negsuc n) d e = absurd (cc)

number-kept : (name : TableName) (key : List ℕ) (low high step d : ℕ) (value : Data) → number_found name key low high step value ≡ None → IsNumber low high step (number_in d (Some value))
number-kept name key low high step d (integer z) none = number-within low high step z d (if-none (is_within low high step z) _ (λ e. cc) none)
number-kept name key low high step d _ none = absurd (cc)

-- a number that has to be there
pub number-there : (name : TableName) (m : Members) (key : List ℕ) (low high step d : ℕ) → key_found name m (required_key key (A_number low high step)) ≡ None → IsNumber low high step (number_at key d m)
number-there name m key low high step d none = by (get_member key m) none
  where
    by : (v : Option Data) → at_found name (required_key key (A_number low high step)) v ≡ None → IsNumber low high step (number_in d v)
    by None e = absurd (cc)
    by (Some value) e = number-kept name key low high step d value e

-- a number that may be absent, with its default
pub number-or : (name : TableName) (m : Members) (key : List ℕ) (low high step d : ℕ) → low ≤ d → d ≤ high → d % step ≡ 0 → key_found name m (optional_key key (A_number low high step)) ≡ None
    → IsNumber low high step (number_at key d m)
number-or name m key low high step d least most steps none = by (get_member key m) none
  where
    by : (v : Option Data) → at_found name (optional_key key (A_number low high step)) v ≡ None → IsNumber low high step (number_in d v)
    by None e = record { least = least; most = most; steps = steps }
    by (Some value) e = number-kept name key low high step d value e

text-kept : (name : TableName) (key : List ℕ) (value : Data) → value_found name key A_text value ≡ None → IsSome (as_text (Some value))
text-kept name key (string s) none = refl
text-kept name key _ none = absurd (cc)

-- a text that has to be there
pub text-there : (name : TableName) (m : Members) (key : List ℕ) → key_found name m (required_key key A_text) ≡ None → IsSome (text_at key m)
text-there name m key none = by (get_member key m) none
  where
    by : (v : Option Data) → at_found name (required_key key A_text) v ≡ None → IsSome (as_text v)
    by None e = absurd (cc)
    by (Some value) e = text-kept name key value e

word-kept : (name : TableName) (key : List ℕ) (test : List ℕ → Bool) (value : Data) → value_found name key (A_word test) value ≡ None → (s : List ℕ) × (as_text (Some value) ≡ Some s) × (test s ≡ true)
word-kept name key test (string s) none = (s, refl, if-none (test s) _ (λ e. cc) none)
word-kept name key test _ none = absurd (cc)

-- one of some words that has to be there
pub word-there : (name : TableName) (m : Members) (key : List ℕ) (test : List ℕ → Bool) → key_found name m (required_key key (A_word test)) ≡ None → (s : List ℕ) × (text_at key m ≡ Some s) × (test s ≡ true)
word-there name m key test none = by (get_member key m) none
  where
    by : (v : Option Data) → at_found name (required_key key (A_word test)) v ≡ None → (s : List ℕ) × (as_text v ≡ Some s) × (test s ≡ true)
    by None e = absurd (cc)
    by (Some value) e = word-kept name key test value e

some-of : {A : Type 0} (o : Option A) → is_some o ≡ true → (k : A) × (o ≡ Some k)
some-of None e = absurd (cc)
some-of (Some k) e = (k, refl)

-- The tables say their kinds.
pub port-says : (name : TableName) (m : Members) → key_found name m (required_key (codes "kind") (A_word (λ s. is_some (port_kind_of s)))) ≡ None → (k : PortKind) × (port_kind_at m ≡ Some k)
port-says name m none =
    let word = word-there name m (codes "kind") (λ s. is_some (port_kind_of s)) none in
    let kind = some-of (port_kind_of word.0) word.2 in
    (kind.0, ap (λ o. option_and_then port_kind_of o) word.1 ∙ kind.1)

pub machine-says : (name : TableName) (m : Members) → key_found name m (required_key (codes "kind") (A_word (λ s. is_some (machine_kind_of s)))) ≡ None → (k : MachineKind) × (machine_kind_at m ≡ Some k)
machine-says name m none =
    let word = word-there name m (codes "kind") (λ s. is_some (machine_kind_of s)) none in
    let kind = some-of (machine_kind_of word.0) word.2 in
    (kind.0, ap (λ o. option_and_then machine_kind_of o) word.1 ∙ kind.1)

-- A port that keeps the rules of its kind is within limits.
port-within : (name : TableName) (needs : Bool) (m : Members) (k : PortKind) → AreKept name m (port_keys (Some k) needs) → IsPort (port_with k m)
port-within name needs m Null kept =
    let base = number-there name m (codes "base") 4096 4294963200 4096 0 kept.1.0 in
    let size = number-there name m (codes "size") 4096 1048576 4096 0 kept.1.1.0 in
    record { base = base.steps; some = size.least; size = size.steps; line = omega arith; gaps = omega arith; near = omega arith; disk = λ e. absurd (cc e) }
port-within name needs m Timer kept =
    let base = number-there name m (codes "base") 4096 4294963200 4096 0 kept.1.0 in
    let size = number-there name m (codes "size") 4096 1048576 4096 0 kept.1.1.0 in
    let line = number-there name m (codes "line") 0 31 1 0 kept.1.1.1.0 in
    record { base = base.steps; some = size.least; size = size.steps; line = line.most; gaps = omega arith; near = omega arith; disk = λ e. absurd (cc e) }
port-within name needs m Dma kept =
    let base = number-there name m (codes "base") 4096 4294963200 4096 0 kept.1.0 in
    let size = number-there name m (codes "size") 4096 1048576 4096 0 kept.1.1.0 in
    let line = number-there name m (codes "line") 0 31 1 0 kept.1.1.1.0 in
    record { base = base.steps; some = size.least; size = size.steps; line = line.most; gaps = omega arith; near = omega arith; disk = λ e. absurd (cc e) }
port-within name needs m Uart kept =
    let base = number-there name m (codes "base") 4096 4294963200 4096 0 kept.1.0 in
    let size = number-there name m (codes "size") 4096 1048576 4096 0 kept.1.1.0 in
    let line = number-there name m (codes "line") 0 31 1 0 kept.1.1.1.0 in
    let gap = number-or name m (codes "gap") 1 1000000 1 1 (omega arith) (omega arith) refl kept.1.1.1.1.1.1.1.1.1.0 in
    record { base = base.steps; some = size.least; size = size.steps; line = line.most; gaps = gap.least; near = gap.most; disk = λ e. absurd (cc e) }
port-within name needs m Disk kept =
    let base = number-there name m (codes "base") 4096 4294963200 4096 0 kept.1.0 in
    let size = number-there name m (codes "size") 4096 1048576 4096 0 kept.1.1.0 in
    let line = number-there name m (codes "line") 0 31 1 0 kept.1.1.1.0 in
    record { base = base.steps; some = size.least; size = size.steps; line = line.most; gaps = omega arith; near = omega arith; disk = λ e. text-there name m (codes "disk") kept.1.1.1.1.1.1.1.1.1.0 }

abbrev pub KindKey : Key
KindKey = required_key (codes "kind") (A_word (λ s. is_some (port_kind_of s)))

-- a port's table, by the kind that it says
port-said : (name : TableName) (needs : Bool) (m : Members) (o : Option PortKind) → port_kind_at m ≡ o → AreKept name m (port_keys o needs) → IsPort (port_with (unwrap_or o Null) m)
port-said name needs m None said kept = let says = port-says name m kept.0 in absurd (cc (said, says.1))
port-said name needs m (Some k) said kept = port-within name needs m k kept

port-kept : (sockets : Sockets) (p : ℕ) (m : Members) → port_found sockets p m ≡ None → IsPort (port_of m)
port-kept sockets p m none =
    let keys = port_keys (port_kind_at m) (needs_socket sockets p) in
    let both = or_else-none (unknown_found (PortTable p) (map name_of keys) m) (keys_found (PortTable p) m keys) none in
    port-said (PortTable p) (needs_socket sockets p) m (port_kind_at m) refl (keys-kept (PortTable p) m keys both.1)

ports-kept : (sockets : Sockets) (p : ℕ) (ms : List Members) → each_port_found sockets p ms ≡ None → ArePorts (ports_of ms)
ports-kept sockets p [] none = tt
ports-kept sockets p (m ∷ ms) none =
    let both = or_else-none (port_found sockets p m) (each_port_found sockets (p + 1) ms) none in
    (port-kept sockets p m both.0, ports-kept sockets (p + 1) ms both.1)

length-ports_of : (ms : List Members) → length (ports_of ms) ≡ length ms
length-ports_of [] = refl
length-ports_of (m ∷ ms) = ap suc (length-ports_of ms)

few-kept : (n : ℕ) → too_many_found n ≡ None → n ≤ 16
few-kept n none = by (nat_lt 16 n) refl none
  where
    by : (b : Bool) → nat_lt 16 n ≡ b → (if b then Some (TooMany n) else None) ≡ None → n ≤ 16
    by true e h = absurd (cc h)
    by false e h = ltb-false 16 n e

-- The machine's table.
machine-within : (m : Members) (k : MachineKind) (ports : List PortConfig) → AreKept Machine m (machine_keys (Some k)) → IsMachine (config_with k m ports)
machine-within m Rv ports kept =
    let ram = number-there Machine m (codes "ram") 4096 67108864 4096 0 kept.1.1.0 in
    let quantum = number-there Machine m (codes "quantum") 1 1000000000 1 0 kept.1.1.1.0 in
    let units = number-there Machine m (codes "units") 0 4294967295 1 0 kept.1.1.1.1.0 in
    record {
      ram = ram.steps;
      least = ram.least;
      most = ram.most;
      quantum = quantum.least;
      units = omega (arith, units.most);
      image = λ e. text-there Machine m (codes "image") kept.1.0;
      script = λ e. absurd (cc e);
    }
machine-within m Script ports kept =
    let ram = number-there Machine m (codes "ram") 4096 67108864 4096 0 kept.1.1.1.0 in
    let quantum = number-there Machine m (codes "quantum") 1 1000000000 1 0 kept.1.1.1.1.0 in
    let units = number-there Machine m (codes "units") 0 4294967295 1 0 kept.1.1.1.1.1.0 in
    record {
      ram = ram.steps;
      least = ram.least;
      most = ram.most;
      quantum = quantum.least;
      units = omega (arith, units.most);
      image = λ e. absurd (cc e);
      script = λ e. text-there Machine m (codes "script") kept.1.1.0;
    }

machine-said : (m : Members) (o : Option MachineKind) (ports : List PortConfig) → machine_kind_at m ≡ o → AreKept Machine m (machine_keys o) → IsMachine (config_with (unwrap_or o Rv) m ports)
machine-said m None ports said kept = let says = machine-says Machine m kept.0 in absurd (cc (said, says.1))
machine-said m (Some k) ports said kept = machine-within m k ports kept

machine-kept : (m : Members) (ports : List PortConfig) → table_found Machine (machine_keys (machine_kind_at m)) m ≡ None → IsMachine (machine_of m ports)
machine-kept m ports none =
    let keys = machine_keys (machine_kind_at m) in
    let both = or_else-none (unknown_found Machine (map name_of keys) m) (keys_found Machine m keys) none in
    machine-said m (machine_kind_at m) ports refl (keys-kept Machine m keys both.1)

unmapped : (o : Option (ℕ × ℕ)) → option_map overlap_fault o ≡ None → o ≡ None
unmapped None none = refl
unmapped (Some p) none = absurd (cc)

-- A configuration that breaks no rule is within limits.
pub kept-within : (sockets : Sockets) (m : Members) → config_found sockets m ≡ None → IsWithinLimits (config_of m)
kept-within sockets m none =
    let top = or_else-none (top_found m) (first_of (tables_found sockets m ∷ parts_found sockets (config_of m) ∷ [])) none in
    let rest = or_else-none (tables_found sockets m) (first_of (parts_found sockets (config_of m) ∷ [])) top.1 in
    let machine = or_else-none (table_found Machine (machine_keys (machine_kind_at (machine_table m))) (machine_table m)) (first_of (too_many_found (length (port_tables m)) ∷ each_port_found sockets 0 (port_tables m) ∷ [])) rest.0 in
    let few = or_else-none (too_many_found (length (port_tables m))) (first_of (each_port_found sockets 0 (port_tables m) ∷ [])) machine.1 in
    let each = or_else-none (each_port_found sockets 0 (port_tables m)) None few.1 in
    let whole = or_else-none (parts_found sockets (config_of m)) None rest.1 in
    let apart = or_else-none (option_map overlap_fault (overlap_found 0 (parts (config_of m)))) _ whole.0 in
    let lines = or_else-none (lines_found 0 (config_of m).ports) _ apart.1 in
    let needs = or_else-none (needs_found 0 (config_of m).ports) _ lines.1 in
    record {
      machine = machine-kept (machine_table m) (ports_of (port_tables m)) machine.0;
      few = subst (λ n. n ≤ 16) (sym (length-ports_of (port_tables m))) (few-kept (length (port_tables m)) few.0);
      ports = ports-kept sockets 0 (port_tables m) each.0;
      apart = unmapped (overlap_found 0 (parts (config_of m))) apart.0;
      needs = needs.0;
    }

there-kept : (p count : ℕ) → served_found (Port p) count ≡ None → p < count
there-kept p count none = ltb-true p count (if-none (nat_lt p count) _ (λ e. cc) none)

served-kept : (sockets : Sockets) (c : Config) → served_found sockets (length c.ports) ≡ None → HasServed sockets c
served-kept Unneeded c none = tt
served-kept All c none = tt
served-kept (Port p) c none = there-kept p (length c.ports) none

-- It has the port that is to be served.
pub kept-served : (sockets : Sockets) (m : Members) → config_found sockets m ≡ None → HasServed sockets (config_of m)
kept-served sockets m none =
    let c = config_of m in
    let top = or_else-none (top_found m) (first_of (tables_found sockets m ∷ parts_found sockets c ∷ [])) none in
    let rest = or_else-none (tables_found sockets m) (first_of (parts_found sockets c ∷ [])) top.1 in
    let whole = or_else-none (parts_found sockets c) None rest.1 in
    let lines = or_else-none (option_map overlap_fault (overlap_found 0 (parts c))) _ whole.0 in
    let needs = or_else-none (lines_found 0 c.ports) _ lines.1 in
    let served = or_else-none (needs_found 0 c.ports) _ needs.1 in
    served-kept sockets c (or_else-none (served_found sockets (length c.ports)) None served.1).0
