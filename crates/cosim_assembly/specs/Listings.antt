-- What `dis` comes to, by the bytes of the file that it reads.
use Rattle.std.specs.Prelude.{ℕ, ◌≡◌, ◌==◌, ◌%◌, List, [], length, cond}
use Rattle.std.specs.declared.option.Option.{Option}
use Rattle.std.specs.List.{flat_map}
use Rattle.cos_base.specs.Stores.{Store}
use Rattle.rv_table.specs.Decoded.{decoded}
use Rattle.rv_asm.specs.Listings.{line_text}
use Rattle.outcomes.specs.Outcomes.{Outcome, Refuses, Works, OfFile}
use Rattle.cosim_assembly.specs.declared.refusals.DisRefusal.{DisRefusal}
use Rattle.cosim_assembly.specs.declared.refusals.DisRefusal.TheVariants.{Words}
use Rattle.cosim_assembly.specs.Images.{words_of}

-- a line for each word, by what it decodes to
abbrev pub lines_of : List ℕ → List ℕ
lines_of words = flat_map (λ word. line_text word (decoded word)) words

-- the lines of the words are printed, and bytes that aren't whole words are refused
abbrev pub listed : List ℕ → Outcome DisRefusal
listed bytes = cond (length bytes % 4 == 0) (Works [] (lines_of (words_of bytes))) (Refuses (Words (length bytes)) [])

-- what `dis` comes to over files: the file is lacking, or its bytes are listed
abbrev pub DisComes : List ℕ → Option Store → Outcome DisRefusal → Type 0
DisComes file told o = OfFile file (λ bytes p. p ≡ listed bytes) told o
