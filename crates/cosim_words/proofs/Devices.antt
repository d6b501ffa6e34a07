-- What may stand behind the socket of a device, read from the front.
use Rattle.std.proofs.Common.{ℕ, ◌≡◌, ◌+◌, List, [], ◌∷◌, codes, Bool, true, false, refl, sym, ◌∙◌}
use Rattle.std.specs.Str.{bytes_eq}
use Rattle.std.proofs.lemmas.Slice.Eq.{bytes_eq-Decides}
use Rattle.cosim_words.specs.Forms.{Word, Exact, Other, Number, FaultyIn, kinds}
use Rattle.cosim_words.proofs.Reading.{Behind, behind-none, behind-on, behind-off, faulty-word, faulty-more}

timer-never-null : codes "timer" ≡ codes "null" → ⊥
timer-never-null same = absurd (cc)

null-never-timer : codes "null" ≡ codes "timer" → ⊥
null-never-timer same = absurd (cc)

-- behind `timer` stands a line, and behind any other word a port
abbrev pub timer-tails : List (List Word)
timer-tails = (Number 31 ∷ []) ∷ []

abbrev pub port-tails : List (List Word)
port-tails = (Number 4294967295 ∷ []) ∷ []

behind-port : (w : List ℕ) → (w ≡ codes "timer" → ⊥) → Behind w ((Other (codes "timer") ∷ Number 4294967295 ∷ []) ∷ []) port-tails
behind-port w differs = behind-on w (Other (codes "timer")) (Number 4294967295 ∷ []) [] [] differs (behind-none w)

pub behind-timer : (w : List ℕ) → w ≡ codes "timer" → Behind w kinds timer-tails
behind-timer w is =
    behind-off w (Exact (codes "null")) [] _ timer-tails (λ same. timer-never-null (sym is ∙ same))
    (behind-on w (Exact (codes "timer")) (Number 31 ∷ []) _ [] is
    (behind-off w (Other (codes "timer")) (Number 4294967295 ∷ []) [] [] (λ differs. differs is) (behind-none w)))

-- behind `null` may stand no more too
behind-null : (w : List ℕ) → w ≡ codes "null" → (w ≡ codes "timer" → ⊥) → Behind w kinds ([] ∷ port-tails)
behind-null w is differs =
    behind-on w (Exact (codes "null")) [] _ port-tails is
    (behind-off w (Exact (codes "timer")) (Number 31 ∷ []) _ port-tails differs (behind-port w differs))

behind-config : (w : List ℕ) → (w ≡ codes "null" → ⊥) → (w ≡ codes "timer" → ⊥) → Behind w kinds port-tails
behind-config w other differs =
    behind-off w (Exact (codes "null")) [] _ port-tails other
    (behind-off w (Exact (codes "timer")) (Number 31 ∷ []) _ port-tails differs (behind-port w differs))

faulty-null : (w : List ℕ) (ws rest : List (List ℕ)) (i : ℕ) → ws ≡ w ∷ rest → w ≡ codes "null" → (w ≡ codes "timer" → ⊥) → (rest ≡ [] → ⊥) → FaultyIn port-tails rest i → FaultyIn kinds ws (i + 1)
faulty-null w ws [] i is null differs more faulty = absurd (more refl)
faulty-null w ws (v ∷ rest) i is null differs more faulty =
    faulty-word kinds ([] ∷ port-tails) w ws (v ∷ rest) i is (behind-null w null differs) (faulty-more port-tails v rest i faulty)

faulty-by : (b : Bool) (w : List ℕ) (ws rest : List (List ℕ)) (i : ℕ) → (b ≡ true → w ≡ codes "null") → (w ≡ codes "null" → b ≡ true) → ws ≡ w ∷ rest → (w ≡ codes "timer" → ⊥) → ((w ≡ codes "null") × (rest ≡ []) → ⊥) → FaultyIn port-tails rest i → FaultyIn kinds ws (i + 1)
faulty-by true w ws rest i told shown is differs never faulty = faulty-null w ws rest i is (told refl) differs (λ end. never (told refl, end)) faulty
faulty-by false w ws rest i told shown is differs never faulty = faulty-word kinds port-tails w ws rest i is (behind-config w (λ same. absurd (cc (shown same))) differs) faulty

-- A fault in the port is one of the kind, where the kind isn't `timer` and isn't `null` alone.
pub faulty-kind : (w : List ℕ) (ws rest : List (List ℕ)) (i : ℕ) → ws ≡ w ∷ rest → (w ≡ codes "timer" → ⊥) → ((w ≡ codes "null") × (rest ≡ []) → ⊥) → FaultyIn port-tails rest i → FaultyIn kinds ws (i + 1)
faulty-kind w ws rest i = faulty-by (bytes_eq w (codes "null")) w ws rest i (bytes_eq-Decides w (codes "null")).0 (bytes_eq-Decides w (codes "null")).1
