-- How long a generated image is: a word of 4 bytes for each of its 4,019 instructions.
use Rattle.std.proofs.Common.{◌≡◌, ℕ, zero, suc, ◌+◌, ◌*◌, List, [], ◌∷◌, ◌++◌, length, refl, sym, ap, ◌∙◌, arith, length-append}
use Rattle.std.specs.Int.{w32, to_le_bytes}
use Rattle.rv_table.specs.declared.instr.Instr.{Instr}
use Rattle.rv_table.specs.Coding.{encoded}
use Rattle.cosim_generator.specs.Programs.{draw, drawn_blocks, block, ending, image_of, program_of, program_after, after}

words-size : (instrs : List Instr) → length (image_of instrs) ≡ 4 * length instrs
words-size [] = refl
words-size (i ∷ is) =
    let first = length-append (to_le_bytes w32 (encoded i)) (image_of is) in
    let later = words-size is in
    omega (arith, first, later)

blocks-size : (n x : ℕ) → length (drawn_blocks n x) ≡ n
unfolding drawn_blocks
blocks-size zero x = refl
blocks-size (suc n) x =
    let all = length-append (drawn_blocks n x) (block (draw (2 * n) x) (draw (2 * n + 1) x) ∷ []) in
    let front = blocks-size n x in
    omega (arith, all, front)

program-size : (x : ℕ) → length (program_after x) ≡ 4019
program-size x =
    let blocks = blocks-size 4000 x in
    let all = length-append (drawn_blocks 4000 x) ending in
    omega (arith, blocks, all)

pub image-size : (number : ℕ) → length (image_of (program_of number)) ≡ 16076
image-size number =
    let words = words-size (program_of number) in
    let instrs = program-size (after 66 number) in
    omega (arith, words, instrs)
