-- What stands against the text of a script.
use Rattle.std.specs.Prelude.{IfSome}
use Rattle.std.proofs.Common.{ℕ, ◌≡◌, Bool, true, false, List, [], ◌∷◌, Result, refl, ap, ◌∙◌, subst}
use Rattle.std.specs.declared.option.Option.{Option}
use Rattle.std.specs.declared.option.Option.TheVariants.{Some, None}
use Rattle.std.specs.Str.{is_utf8, IsUtf8}
use Rattle.std.proofs.lemmas.Str.{IsUtf8-from_is_utf8}
use Rattle.cos_base.specs.Stores.{Store}
use Rattle.cos_script.specs.declared.step.ScriptStep.{ScriptStep}
use Rattle.cos_script.specs.Scripts.{script_of}
use Rattle.outcomes.specs.Seen.{Seen}
use Rattle.outcomes.specs.Steps.{IsRead}
use Rattle.cosim_inputs.specs.Inputs.{Asked, AsScript, script_refusal, or_refused, trouble_at, trouble}

pub no-utf8 : (bytes : List ℕ) → (IsUtf8 bytes → ⊥) → is_utf8 bytes ≡ false
no-utf8 bytes not = by (is_utf8 bytes) refl
  where
    by : (b : Bool) → is_utf8 bytes ≡ b → b ≡ false
    by false e = refl
    by true e = absurd (not (IsUtf8-from_is_utf8 bytes e))

abbrev pub the_script : List ℕ → ℕ → List Asked
the_script name ports = record { name = name; role = AsScript ports } ∷ []

stands-of : (old : Option Store) (name bytes : List ℕ) (ports : ℕ) (b : Bool) (r : Result (List ScriptStep) ℕ) → IfSome old (λ m. m name ≡ Some bytes) → is_utf8 bytes ≡ b → script_of ports bytes ≡ r
    → IfSome old (λ m. trouble m (the_script name ports) ≡ or_refused (script_refusal b r) None)
stands-of None name bytes ports b r found utf8 is = tt
stands-of (Some m) name bytes ports b r found utf8 is =
    ap (λ x. trouble_at (record { name = name; role = AsScript ports }) x None) found
    ∙ ap (λ x. or_refused (script_refusal x (script_of ports bytes)) None) utf8 ∙ ap (λ x. or_refused (script_refusal b x) None) is

-- What stands against a script that was read, by its bytes.
pub script-stands : (f : Seen Store) (said name bytes : List ℕ) (ports : ℕ) (b : Bool) (r : Result (List ScriptStep) ℕ) → said ≡ name → IsRead f said bytes → is_utf8 bytes ≡ b → script_of ports bytes ≡ r
    → IfSome f.old (λ m. trouble m (the_script name ports) ≡ or_refused (script_refusal b r) None)
script-stands f said name bytes ports b r same read utf8 is =
    stands-of f.old name bytes ports b r (subst (λ n. IfSome f.old (λ m. m n ≡ Some bytes)) same read.found) utf8 is
