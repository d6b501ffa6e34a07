-- The words of bytes and their lines, word by word.
use Rattle.std.proofs.Common.{◌≡◌, ℕ, ◌<◌, ◌≤◌, List, [], ◌∷◌, ◌++◌, Option, length, drop, get_or, refl, ap, ◌∙◌, append_assoc, arith}
use Rattle.std.specs.Int.{w32, from_le_bytes}
use Rattle.std.proofs.lemmas.List.{append-nil}
use Rattle.rv_table.specs.declared.instr.Instr.{Instr}
use Rattle.rv_table.specs.Coding.{Decodes}
use Rattle.rv_table.proofs.Decoding.{decoded_is}
use Rattle.rv_asm.specs.Listings.{line_text}
use Rattle.cosim_assembly.specs.Images.{words_of}
use Rattle.cosim_assembly.specs.Listings.{lines_of}

pub words-first : (bs : List ℕ) → 4 ≤ length bs → words_of bs ≡ from_le_bytes w32 (get_or bs 0 0 ∷ get_or bs 1 0 ∷ get_or bs 2 0 ∷ get_or bs 3 0 ∷ []) ∷ words_of (drop 4 bs)
words-first [] h = absurd (omega arith)
words-first (a ∷ []) h = absurd (omega arith)
words-first (a ∷ b ∷ []) h = absurd (omega arith)
words-first (a ∷ b ∷ c ∷ []) h = absurd (omega arith)
words-first (a ∷ b ∷ c ∷ d ∷ rest) h = refl

-- fewer than four bytes are no word
pub words-none : (bs : List ℕ) → length bs < 4 → words_of bs ≡ []
words-none [] h = refl
words-none (a ∷ []) h = refl
words-none (a ∷ b ∷ []) h = refl
words-none (a ∷ b ∷ c ∷ []) h = refl
words-none (a ∷ b ∷ c ∷ d ∷ rest) h = absurd (omega arith)

-- one more line
pub lines-more : (old new : List ℕ) (word : ℕ) (instr : Option Instr) (words : List ℕ) → Decodes word instr → new ≡ old ++ line_text word instr → new ++ lines_of words ≡ old ++ lines_of (word ∷ words)
lines-more old new word instr words d e =
    ap (λ t. t ++ lines_of words) e
    ∙ append_assoc old (line_text word instr) (lines_of words)
    ∙ ap (λ i. old ++ (line_text word i ++ lines_of words)) (decoded_is word instr d)

pub lines-all : (text : List ℕ) (rest : List ℕ) → length rest < 4 → text ++ lines_of (words_of rest) ≡ text
lines-all text rest h = ap (λ ws. text ++ lines_of ws) (words-none rest h) ∙ append-nil text
