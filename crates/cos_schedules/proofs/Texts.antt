-- What a line that spells a step looks like, and that it spells one step only.
use Rattle.std.proofs.Common.{◌≡◌, ℕ, ◌^◌, ◌<◌, ◌≤◌, ◌==◌, Bool, true, false, cond, List, [], ◌∷◌, ◌++◌, length, get_or}
use Rattle.std.proofs.Common.{drop, Some, decimal, refl, sym, ap, ap₂, ◌∙◌, arith}
use Rattle.std.specs.Char.{digit_value}
use Rattle.std.specs.Str.Parse.{AllDigits}
use Rattle.std.proofs.lemmas.Bool.{ne_eqb, eqb-true}
use Rattle.std.proofs.lemmas.Option.{none-some, same_Some}
use Rattle.std.proofs.lemmas.Fmt.{decimal_is_IsNumeral, decimal_injective}
use Rattle.cos_text.specs.Lines.{lines, before, after}
use Rattle.cos_schedules.specs.declared.step.Step.{Step}
use Rattle.cos_schedules.specs.declared.step.Step.TheVariants.{Machine, Device, Deliver}
use Rattle.cos_schedules.specs.declared.step.Way.{Way}
use Rattle.cos_schedules.specs.declared.step.Way.TheVariants.{Out, Back}
use Rattle.cos_schedules.specs.Texts.{delivery_name, Spells, AllSpell}

-- Two words round a blank.

digits-cut : (ds more : List ℕ) → AllDigits 10 ds
    → (before 32 (ds ++ 32 ∷ more) ≡ ds) × (after 32 (ds ++ 32 ∷ more) ≡ Some more)
digits-cut [] more all = (refl, refl)
digits-cut (c ∷ ds) more all =
    let digit = all.0 in
    let rest = digits-cut ds more all.1 in
    let value = λ (e : c ≡ 32). (let v : digit_value c ≡ digit_value 32 = ap digit_value e in v) in
    let is_other : c ≡ 32 → ⊥ = λ e. omega (arith, value e, digit) in
    let other : (c == 32) ≡ false = ne_eqb c 32 is_other in (
      ap (λ b. cond b [] (c ∷ before 32 (ds ++ 32 ∷ more))) other ∙ ap (λ x. c ∷ x) rest.0,
      ap (λ b. cond b (Some (ds ++ 32 ∷ more)) (after 32 (ds ++ 32 ∷ more))) other ∙ rest.1,
    )

number-cut : (n : ℕ) (more : List ℕ) → n < 2 ^ 64
    → (before 32 (decimal n ++ 32 ∷ more) ≡ decimal n) × (after 32 (decimal n ++ 32 ∷ more) ≡ Some more)
number-cut n more small = digits-cut (decimal n) more (decimal_is_IsNumeral n small).0.1

joined-at : (t : Bool) (c : ℕ) (cs rest : List ℕ) → (c == 32) ≡ t
    → (after 32 cs ≡ Some rest → cs ≡ before 32 cs ++ 32 ∷ rest) → cond t (Some cs) (after 32 cs) ≡ Some rest
    → c ∷ cs ≡ cond t [] (c ∷ before 32 cs) ++ 32 ∷ rest
joined-at true c cs rest is more e = ap₂ ◌∷◌ (eqb-true c 32 is) (same_Some cs rest e)
joined-at false c cs rest is more e = ap (λ x. c ∷ x) (more e)

pub joined : (text rest : List ℕ) → after 32 text ≡ Some rest → text ≡ before 32 text ++ 32 ∷ rest
joined [] rest e = absurd (none-some rest e)
joined (c ∷ cs) rest e = joined-at (c == 32) c cs rest refl (joined cs rest) e

-- The words of a delivery.

pub record IsDelivery (ports : ℕ) (way : Way) (text : List ℕ) (step : Step) : Type 0 where
  pub port : ℕ
  pub count : ℕ
  pub step_is : step ≡ Deliver port way count
  pub port_fits : port < ports
  pub count_fits : count < 2 ^ 32
  pub front : before 32 text ≡ decimal port
  pub back : after 32 text ≡ Some (decimal count)

delivery-words : (ports port count : ℕ) (way : Way) (text : List ℕ) → ports ≤ 2 ^ 32
    → text ≡ decimal port ++ 32 ∷ decimal count → port < ports → count < 2 ^ 32
    → IsDelivery ports way text (Deliver port way count)
delivery-words ports port count way text few is fits small =
    let cut = number-cut port (decimal count) (omega arith) in
    record {
      port = port;
      count = count;
      step_is = refl;
      port_fits = fits;
      count_fits = small;
      front = ap (before 32) is ∙ cut.0;
      back = ap (after 32) is ∙ cut.1;
    }

-- lines with two beginnings are not the same
heads : (xs ys : List ℕ) → xs ≡ ys → get_or xs 0 0 ≡ get_or ys 0 0
heads xs ys e = ap (λ t. get_or t 0 0) e

pub delivery-of : (ports : ℕ) (way : Way) (text : List ℕ) (step : Step) → ports ≤ 2 ^ 32
    → Spells ports (delivery_name way ++ text) step → IsDelivery ports way text step
delivery-of ports Out text (Deliver port Out count) few is =
    delivery-words ports port count Out text few (ap (drop 2) is.0) is.1.0 is.1.1
delivery-of ports Back text (Deliver port Back count) few is =
    delivery-words ports port count Back text few (ap (drop 2) is.0) is.1.0 is.1.1
delivery-of ports Out text (Deliver port Back count) few is = absurd (omega (arith, heads _ _ is.0))
delivery-of ports Back text (Deliver port Out count) few is = absurd (omega (arith, heads _ _ is.0))
delivery-of ports Out text Machine few is = absurd (omega (arith, heads _ _ is.0))
delivery-of ports Back text Machine few is = absurd (omega (arith, heads _ _ is.0))
delivery-of ports Out text (Device port) few is = absurd (omega (arith, heads _ _ is.0))
delivery-of ports Back text (Device port) few is = absurd (omega (arith, heads _ _ is.0))

-- A line spells one step.

same-delivery : (ports : ℕ) (way : Way) (p k : ℕ) (text : List ℕ) (step : Step) → text ≡ decimal p ++ 32 ∷ decimal k
    → p < ports → k < 2 ^ 32 → ports ≤ 2 ^ 32 → IsDelivery ports way text step → step ≡ Deliver p way k
same-delivery ports way p k text step is fits small few d =
    let cut = number-cut p (decimal k) (omega arith) in
    let front = sym d.front ∙ ap (before 32) is ∙ cut.0 in
    let back = same_Some _ _ (sym d.back ∙ ap (after 32) is ∙ cut.1) in
    let port = decimal_injective d.port p (omega (arith, d.port_fits)) (omega arith) front in
    let count = decimal_injective d.count k (omega (arith, d.count_fits)) (omega arith) back in
    d.step_is ∙ ap₂ (λ x y. Deliver x way y) port count

pub one-step : (ports : ℕ) (line : List ℕ) (s t : Step) → ports ≤ 2 ^ 32 → Spells ports line s → Spells ports line t
    → t ≡ s
one-step ports line Machine Machine few a b = refl
one-step ports line Machine (Device q) few a b = absurd (omega (arith, heads _ _ (sym a.0 ∙ b.0)))
one-step ports line Machine (Deliver q Out l) few a b = absurd (omega (arith, heads _ _ (sym a.0 ∙ b.0)))
one-step ports line Machine (Deliver q Back l) few a b = absurd (omega (arith, heads _ _ (sym a.0 ∙ b.0)))
one-step ports line (Device p) Machine few a b = absurd (omega (arith, heads _ _ (sym a.0 ∙ b.0)))
one-step ports line (Device p) (Device q) few a b =
    ap Device (decimal_injective q p (omega (arith, b.1)) (omega (arith, a.1)) (ap (drop 2) (sym b.0 ∙ a.0)))
one-step ports line (Device p) (Deliver q Out l) few a b = absurd (omega (arith, heads _ _ (sym a.0 ∙ b.0)))
one-step ports line (Device p) (Deliver q Back l) few a b = absurd (omega (arith, heads _ _ (sym a.0 ∙ b.0)))
one-step ports line (Deliver p Out k) t few a b =
    same-delivery ports Out p k _ t refl a.1.0 a.1.1 few (delivery-of ports Out _ t few (sym a.0 ∙ b.0, b.1))
one-step ports line (Deliver p Back k) t few a b =
    same-delivery ports Back p k _ t refl a.1.0 a.1.1 few (delivery-of ports Back _ t few (sym a.0 ∙ b.0, b.1))

pub one-list : (ports : ℕ) (ls : List (List ℕ)) (ss ts : List Step) → ports ≤ 2 ^ 32 → AllSpell ports ls ss
    → AllSpell ports ls ts → ts ≡ ss
one-list ports [] [] [] few a b = refl
one-list ports [] [] (t ∷ ts) few a b = absurd b
one-list ports [] (s ∷ ss) ts few a b = absurd a
one-list ports (l ∷ ls) [] ts few a b = absurd a
one-list ports (l ∷ ls) (s ∷ ss) [] few a b = absurd b
one-list ports (l ∷ ls) (s ∷ ss) (t ∷ ts) few a b =
    ap₂ ◌∷◌ (one-step ports l s t few a.0 b.0) (one-list ports ls ss ts few a.1 b.1)

-- A line more, and no more lines.

pub spelled-more : (ports : ℕ) (ls : List (List ℕ)) (ss : List Step) (l : List ℕ) (s : Step) → AllSpell ports ls ss
    → Spells ports l s → AllSpell ports (ls ++ l ∷ []) (ss ++ s ∷ [])
spelled-more ports [] [] l s all one = (one, tt)
spelled-more ports [] (t ∷ ss) l s all one = absurd all
spelled-more ports (k ∷ ls) [] l s all one = absurd all
spelled-more ports (k ∷ ls) (t ∷ ss) l s all one = (all.0, spelled-more ports ls ss l s all.1 one)

pub no-lines : (text : List ℕ) → true ≡ (length text == 0) → lines text ≡ []
no-lines [] e = refl
no-lines (c ∷ cs) e = absurd (omega (arith, eqb-true (length (c ∷ cs)) 0 (sym e)))
