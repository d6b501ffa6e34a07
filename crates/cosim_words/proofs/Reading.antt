-- Reading words from the front, form by form.
use Rattle.std.proofs.Common.{ℕ, ◌≡◌, ◌+◌, List, [], ◌∷◌, ◌++◌, Bool, true, false, cond, take, map, refl, ap, sym, ◌∙◌, subst, arith, inl, inr, add-one}
use Rattle.std.specs.Str.{bytes_eq}
use Rattle.std.proofs.lemmas.Slice.Eq.{bytes_eq-Decides}
use Rattle.cosim_words.specs.Forms.{Word, Exact, Any, IsWord, FitsSome, BeginsSome, FaultyIn}

-- what of these forms stands behind a first word
pub record Behind (w : List ℕ) (forms tails : List (List Word)) : Type 0 where
  pub to : (ws : List (List ℕ)) → FitsSome forms (w ∷ ws) → FitsSome tails ws
  pub from : (ws : List (List ℕ)) → FitsSome tails ws → FitsSome forms (w ∷ ws)

pub behind-none : (w : List ℕ) → Behind w [] []
behind-none w = record { to = λ ws fits. fits; from = λ ws fits. fits }

-- a form that goes on with the word, and one that doesn't
pub behind-on : (w : List ℕ) (p : Word) (form : List Word) (forms tails : List (List Word)) → IsWord p w → Behind w forms tails → Behind w ((p ∷ form) ∷ forms) (form ∷ tails)
behind-on w p form forms tails is behind = record {
  to = λ ws fits. elim fits [ inl here ↦ inl here.1 | inr there ↦ inr (behind.to ws there) ];
  from = λ ws fits. elim fits [ inl here ↦ inl (is, here) | inr there ↦ inr (behind.from ws there) ];
}

pub behind-off : (w : List ℕ) (p : Word) (form : List Word) (forms tails : List (List Word)) → (IsWord p w → ⊥) → Behind w forms tails → Behind w ((p ∷ form) ∷ forms) tails
behind-off w p form forms tails differs behind = record {
  to = λ ws fits. elim fits [ inl here ↦ absurd (differs here.0) | inr there ↦ behind.to ws there ];
  from = λ ws fits. inr (behind.from ws fits);
}

pub behind-any : (w : List ℕ) (forms : List (List Word)) → Behind w (map (λ form. Any ∷ form) forms) forms
behind-any w [] = behind-none w
behind-any w (form ∷ forms) = behind-on w Any form (map (λ form. Any ∷ form) forms) forms tt (behind-any w forms)

-- Of forms that all begin with words of their own: what stands behind a word.
abbrev pub tails_of : List ℕ → List (List Word) → List (List Word)
tails_of w [] = []
tails_of w ((Exact text ∷ form) ∷ forms) = cond (bytes_eq w text) (form ∷ tails_of w forms) (tails_of w forms)
tails_of w (other ∷ forms) = tails_of w forms

abbrev pub are_exact : List (List Word) → Bool
are_exact [] = true
are_exact ((Exact text ∷ form) ∷ forms) = are_exact forms
are_exact (other ∷ forms) = false

pub behind-test : (b : Bool) (w text : List ℕ) (form : List Word) (forms tails : List (List Word)) → (b ≡ true → w ≡ text) → (w ≡ text → b ≡ true) → Behind w forms tails → Behind w ((Exact text ∷ form) ∷ forms) (cond b (form ∷ tails) tails)
behind-test true w text form forms tails told shown behind = behind-on w (Exact text) form forms tails (told refl) behind
behind-test false w text form forms tails told shown behind = behind-off w (Exact text) form forms tails (λ same. absurd (cc (shown same))) behind

pub behind-exact : (w : List ℕ) (forms : List (List Word)) → are_exact forms ≡ true → Behind w forms (tails_of w forms)
behind-exact w [] exact = behind-none w
behind-exact w ((Exact text ∷ form) ∷ forms) exact =
    behind-test (bytes_eq w text) w text form forms (tails_of w forms) (bytes_eq-Decides w text).0 (bytes_eq-Decides w text).1 (behind-exact w forms exact)
behind-exact w (other ∷ forms) exact = absurd (cc)

-- no form begins with this word
abbrev pub AllOff : List ℕ → List (List Word) → Type 0
AllOff w [] = Unit {0}
AllOff w ([] ∷ forms) = ⊥
AllOff w ((p ∷ form) ∷ forms) = (IsWord p w → ⊥) × AllOff w forms

pub behind-others : (w : List ℕ) (forms : List (List Word)) → AllOff w forms → Behind w forms []
behind-others w [] off = behind-none w
behind-others w ([] ∷ forms) off = absurd off
behind-others w ((p ∷ form) ∷ forms) off = behind-off w p form forms [] off.0 (behind-others w forms off.1)

-- A fault behind the first word is one of the whole, one further.
pub faulty-behind : (forms tails : List (List Word)) (w : List ℕ) (ws : List (List ℕ)) (i : ℕ) → Behind w forms tails → FaultyIn tails ws i → FaultyIn forms (w ∷ ws) (i + 1)
faulty-behind forms tails w ws i behind faulty =
    let front : take (i + 1) (w ∷ ws) ≡ w ∷ take i ws = rw add-one refl in
    let further : take ((i + 1) + 1) (w ∷ ws) ≡ w ∷ take (i + 1) ws = rw (add-one (i + 1)) refl in
    record {
      no_form = λ fits. faulty.no_form (behind.to ws fits);
      before = subst (BeginsSome forms) (sym front) (faulty.before.0, behind.from (take i ws ++ faulty.before.0) faulty.before.1);
      at = elim (faulty.at) [
        | inl never ↦ inl (λ begins. let same : BeginsSome forms (w ∷ take (i + 1) ws) = subst (BeginsSome forms) further begins in never (same.0, behind.to (take (i + 1) ws ++ same.0) same.1))
        | inr end ↦ inr (omega (arith, end))
      ];
      within = let within = faulty.within in omega (arith, within);
    }

-- the same of words that are given by an equation
pub faulty-word : (forms tails : List (List Word)) (w : List ℕ) (ws rest : List (List ℕ)) (i : ℕ) → ws ≡ w ∷ rest → Behind w forms tails → FaultyIn tails rest i → FaultyIn forms ws (i + 1)
faulty-word forms tails w ws rest i is behind faulty =
    subst (λ x. FaultyIn forms x (i + 1)) (sym is) (faulty-behind forms tails w rest i behind faulty)

-- and of a word that is known, where all forms begin with words of their own
pub faulty-verb : (forms tails : List (List Word)) (verb w : List ℕ) (ws rest : List (List ℕ)) (i : ℕ) → ws ≡ w ∷ rest → w ≡ verb → are_exact forms ≡ true → tails_of verb forms ≡ tails → FaultyIn tails rest i → FaultyIn forms ws (i + 1)
faulty-verb forms tails verb w ws rest i is same exact are faulty =
    faulty-word forms (tails_of w forms) w ws rest i is (behind-exact w forms exact)
    (subst (λ fs. FaultyIn fs rest i) (sym (ap (λ x. tails_of x forms) same ∙ are)) faulty)

-- no form is empty
abbrev pub is_long : List (List Word) → Bool
is_long [] = true
is_long ([] ∷ forms) = false
is_long ((p ∷ form) ∷ forms) = is_long forms

pub long-none : (forms : List (List Word)) → is_long forms ≡ true → FitsSome forms [] → ⊥
long-none [] long fits = fits
long-none ([] ∷ forms) long fits = absurd (cc)
long-none ((p ∷ form) ∷ forms) long (inl fits) = fits
long-none ((p ∷ form) ∷ forms) long (inr fits) = long-none forms long fits

-- Where words are missing, the fault is at their end.
pub faulty-end : (forms : List (List Word)) (ws : List (List ℕ)) → ws ≡ [] → is_long forms ≡ true → BeginsSome forms [] → FaultyIn forms ws 0
faulty-end forms ws is long begins = subst (λ x. FaultyIn forms x 0) (sym is) (record {
  no_form = long-none forms long;
  before = begins;
  at = inr refl;
  within = omega arith;
})

-- Where no form goes on with the first word, the fault is at it.
pub faulty-here : (forms : List (List Word)) (w : List ℕ) (ws rest : List (List ℕ)) → ws ≡ w ∷ rest → Behind w forms [] → BeginsSome forms [] → FaultyIn forms ws 0
faulty-here forms w ws rest is behind begins = subst (λ x. FaultyIn forms x 0) (sym is) (record {
  no_form = λ fits. behind.to rest fits;
  before = begins;
  at = inl (λ begun. behind.to begun.0 begun.1);
  within = omega arith;
})

-- A fault of words that are there is one too where no words would do.
pub faulty-more : (forms : List (List Word)) (w : List ℕ) (ws : List (List ℕ)) (i : ℕ) → FaultyIn forms (w ∷ ws) i → FaultyIn ([] ∷ forms) (w ∷ ws) i
faulty-more forms w ws i faulty =
    let further : take (i + 1) (w ∷ ws) ≡ w ∷ take i ws = rw add-one refl in
    record {
      no_form = λ fits. elim fits [ inl none ↦ none | inr some ↦ faulty.no_form some ];
      before = (faulty.before.0, inr faulty.before.1);
      at = elim (faulty.at) [
        | inl never ↦ inl (λ begins. let same : BeginsSome ([] ∷ forms) (w ∷ take i ws) = subst (BeginsSome ([] ∷ forms)) further begins in
            elim (same.1) [
              | inl none ↦ none
              | inr some ↦ never (subst (BeginsSome forms) (sym further) (same.0, some))
            ])
        | inr end ↦ inr end
      ];
      within = faulty.within;
    }
