-- A program assembles to one thing alone.
use Rattle.std.proofs.Common.{◌≡◌, ℕ, List, [], ◌∷◌, ◌++◌, map, Option, option_to_list, Result, Ok, Err, refl, ap, sym, ◌∙◌}
use Rattle.std.specs.List.{flat_map}
use Rattle.rv_asm.specs.declared.fault.AsmFault.{AsmFault}
use Rattle.rv_asm.specs.declared.fault.AsmFault.TheVariants.{Line, NoMemory}
use Rattle.rv_asm.specs.declared.fault.Cause.{Cause}
use Rattle.rv_asm.specs.Programs.{Placed}
use Rattle.rv_asm.specs.Statements.{Assembled, word_of_line}

-- the words of lines, or the first fault, line by line
abbrev judged_at : ℕ → Result (Option ℕ) Cause → Result (List ℕ) AsmFault → Result (List ℕ) AsmFault
judged_at number (Err cause) rest = Err (Line number cause)
judged_at number (Ok o) (Err fault) = Err fault
judged_at number (Ok o) (Ok words) = Ok (option_to_list o ++ words)

abbrev pub judged : (Placed → Result (Option ℕ) Cause) → List Placed → Result (List ℕ) AsmFault
judged f [] = Ok []
judged f (line ∷ lines) = judged_at line.number (f line) (judged f lines)

sound-judged : (f : Placed → Result (Option ℕ) Cause) (some : List Placed) (each : List (Option ℕ)) → map f some ≡ map (λ o. Ok o) each → judged f some ≡ Ok (flat_map option_to_list each)
sound-judged f [] [] e = refl
sound-judged f [] (o ∷ os) e = cc
sound-judged f (line ∷ lines) [] e = cc
sound-judged f (line ∷ lines) (o ∷ os) e =
    let h : f line ≡ Ok o = cc in
    let t : map f lines ≡ map (λ o. Ok o) os = cc in
    ap (λ r. judged_at line.number r (judged f lines)) h ∙ ap (judged_at line.number (Ok o)) (sound-judged f lines os t)

fault-judged : (f : Placed → Result (Option ℕ) Cause) (before : List Placed) (line : Placed) (after : List Placed) (each : List (Option ℕ)) (cause : Cause) → map f before ≡ map (λ o. Ok o) each → f line ≡ Err cause → judged f (before ++ line ∷ after) ≡ Err (Line line.number cause)
fault-judged f [] line after each cause e h = ap (λ r. judged_at line.number r (judged f after)) h
fault-judged f (b ∷ bs) line after [] cause e h = cc
fault-judged f (b ∷ bs) line after (o ∷ os) cause e h =
    let k : f b ≡ Ok o = cc in
    let t : map f bs ≡ map (λ o. Ok o) os = cc in
    ap (λ r. judged_at b.number r (judged f (bs ++ line ∷ after))) k ∙ ap (judged_at b.number (Ok o)) (fault-judged f bs line after os cause t h)

pub one-meaning : (lines : List Placed) (r : Result (List ℕ) AsmFault) → (r ≡ Err NoMemory → ⊥) → Assembled lines r → judged (word_of_line lines) lines ≡ r
one-meaning lines (Ok words) h a = sound-judged (word_of_line lines) lines a.0 a.1 ∙ ap (λ ws. Ok ws) (sym a.2)
one-meaning lines (Err (Line number cause)) h (before, line, after, words, split, sound, numbered, faulty) =
    ap (judged (word_of_line lines)) split
    ∙ fault-judged (word_of_line lines) before line after sound.0 cause sound.1 faulty
    ∙ ap (λ n. Err (Line n cause)) numbered
one-meaning lines (Err NoMemory) h a = absurd (h refl)
