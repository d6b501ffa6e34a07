-- The windows of a configuration that breaks no rule make a map.
use Rattle.std.specs.Prelude.{nat_eq, not, ◌||◌, if◌then◌else◌, option_map}
use Rattle.std.proofs.Common.{ℕ, ◌≡◌, ◌+◌, ◌%◌, Bool, true, false, List, [], ◌∷◌, Option, Some, None, refl, ap, sym, ◌∙◌, arith, eq-eqb}
use Rattle.std.proofs.lemmas.Bool.{ne_eqb}
use Rattle.cos_config.specs.declared.config.Config.{Config}
use Rattle.cos_config.specs.declared.config.PortConfig.{PortConfig}
use Rattle.cos_config.specs.Rules as rules
use Rattle.sys_bus.specs.declared.map.MapFault.{MapFault}
use Rattle.sys_bus.specs.declared.map.MapFault.TheVariants.{Misaligned}
use Rattle.cos_map.specs.Parts.{overlap_found, with_windows}
use Rattle.sys_bus.specs.Maps.{or_else, misaligned, misaligned_found, overlap_fault, window_parts, parts_of, fault_found}
use Rattle.cosim_inputs.specs.Fresh.{window_of, windows_of}
use Rattle.cosim_inputs.specs.Limits.{IsPort, ArePorts, IsWithinLimits}

both-none : (a b : Option MapFault) → a ≡ None → b ≡ None → or_else a b ≡ None
both-none a b first later = ap (λ x. or_else x b) first ∙ later

windows-are : (ports : List PortConfig) → rules.windows ports ≡ window_parts (windows_of ports)
windows-are [] = refl
windows-are (p ∷ ps) = ap (λ l. record { base = p.base; size = p.size } ∷ l) (windows-are ps)

parts-are : (c : Config) → rules.parts c ≡ parts_of (windows_of c.ports) c.ram
parts-are c = ap (with_windows c.ram) (windows-are c.ports)

tests-aligned : (a b e : Bool) → a ≡ true → b ≡ true → e ≡ false → not a || not b || e ≡ false
tests-aligned true true false x y z = refl
tests-aligned true true true x y z = absurd (cc z)
tests-aligned true false e x y z = absurd (cc y)
tests-aligned false b e x y z = absurd (cc x)

aligned-at : (p : PortConfig) → IsPort p → misaligned (window_of p) ≡ false
aligned-at p is =
    let some = is.some in
    tests-aligned (nat_eq (p.base % 4096) 0) (nat_eq (p.size % 4096) 0) (nat_eq p.size 0) (eq-eqb (p.base % 4096) 0 is.base) (eq-eqb (p.size % 4096) 0 is.size) (ne_eqb p.size 0 (λ e. omega (arith, e, some)))

aligned-none : (k : ℕ) (ports : List PortConfig) → ArePorts ports → misaligned_found k (windows_of ports) ≡ None
aligned-none k [] are = refl
aligned-none k (p ∷ ps) are =
    ap (λ (t : Bool). if t then Some (Misaligned k) else misaligned_found (k + 1) (windows_of ps)) (aligned-at p are.0) ∙ aligned-none (k + 1) ps are.1

pub makes-map : (c : Config) (ram : ℕ) → IsWithinLimits c → ram ≡ c.ram → fault_found (windows_of c.ports) ram ≡ None
makes-map c ram is same =
    let apart : overlap_found 0 (parts_of (windows_of c.ports) ram) ≡ None =
    ap (λ n. overlap_found 0 (parts_of (windows_of c.ports) n)) same ∙ ap (overlap_found 0) (sym (parts-are c)) ∙ is.apart in
    both-none (misaligned_found 0 (windows_of c.ports)) (option_map overlap_fault (overlap_found 0 (parts_of (windows_of c.ports) ram))) (aligned-none 0 c.ports is.ports) (ap (option_map overlap_fault) apart)
