use Rattle.std.proofs.Common.{◌≡◌, ◌⊎◌, ◌∙◌, List, ℕ, false, map, string_bytes, refl, sym, ap, rules}
use Rattle.cos_config.specs.declared.fault.ConfigFault.TheVariants.{Unknown, NoMemory}
use Rattle.cos_config.specs.Keys.{is_among}
use Rattle.cos_config.proofs.Members.{first_unknown, of_members, stops, refuses}
use Rattle.cos_config.proofs.keys.Keys.only.Goals as goal

pub returns-then-not-is_among : goal.returns-then-not-is_among
returns-then-not-is_among c =
    let name = c.args.self.now.name in
    let names : List (List ℕ) = map (λ s. s.now) c.args.names.now in
    let left = c.in-Some.ensures.steps in
    let unknown : is_among (string_bytes c.in-Some.key.now) names ≡ false = search (rules, c.is_among.ensures, c.as_str.ensures.value, c.if-not-is_among.true) in
    let answer : (c.unknown.result ≡ NoMemory) ⊎ (c.unknown.result ≡ Unknown name (string_bytes c.in-Some.key.now)) = rw (← c.as_str-then-not-is_among.ensures.value) c.unknown.ensures in
    refuses _ name _ _ (sym (of_members name names c.args.self.now.table.now.entries) ∙ c.loop-key.invariant.2 ∙ ap (first_unknown name names) left ∙ stops name names c.in-Some.key.now _ unknown) answer

pub returns : goal.returns
returns c =
    let name = c.args.self.now.name in
    let names : List (List ℕ) = map (λ s. s.now) c.args.names.now in
    (sym (of_members name names c.args.self.now.table.now.entries) ∙ c.loop-key.invariant.2 ∙ ap (first_unknown name names) c.in-None.ensures.steps.0, refl)
