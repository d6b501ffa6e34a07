use Rattle.std.proofs.Common.{ℕ, List, ◌≡◌, ◌==◌, ◌%◌, [], ◌∷◌, length, refl, ap, sym, ◌∙◌}
use Rattle.std.proofs.lemmas.Bool.{cond-true, cond-false, eq-eqb, ne_eqb}
use Rattle.std.proofs.lemmas.Result.{err_from_is_err_and}
use Rattle.std.specs.declared.result.Result.TheVariants.{Ok, Err}
use Rattle.outcomes.specs.Outcomes.{Outcome, Refuses, Works}
use Rattle.outcomes.proofs.Commands.{IsOne}
use Rattle.cos_base.specs.Octets.{Held}
use Rattle.outcomes.proofs.Asking.{unread-asks, all-begin}
use Rattle.outcomes.proofs.Performing.{file-unread, file-refused, file-printed}
use Rattle.outcomes.specs.declared.failures.JudgeFault.TheVariants as judge
use Rattle.cosim_assembly.specs.declared.refusals.DisRefusal.{DisRefusal}
use Rattle.cosim_assembly.specs.declared.refusals.DisRefusal.TheVariants.{Words}
use Rattle.cosim_assembly.specs.Images.{words_of}
use Rattle.cosim_assembly.specs.Listings.{lines_of, listed}
use Rattle.cosim_assembly.proofs.listing.dis.Goals as goal

-- what a file's bytes come to
abbrev Listed : List ℕ → Outcome DisRefusal → Type 0
Listed bytes o = o ≡ listed bytes

whole : (bytes slice text : List ℕ) (n : ℕ) → n ≡ length bytes → n % 4 ≡ 0 → slice ≡ bytes → text ≡ lines_of (words_of slice) → Listed bytes (Works [] text)
whole bytes slice text n e h same is =
    ap (λ t. Works [] t) is
    ∙ ap (λ b. Works [] (lines_of (words_of b))) same
    ∙ sym (cond-true (length bytes % 4 == 0) (Works [] (lines_of (words_of bytes))) (Refuses (Words (length bytes)) []) (eq-eqb (length bytes % 4) 0 (ap (λ m. m % 4) (sym e) ∙ h)))

cut : (bytes : List ℕ) (n len : ℕ) → n ≡ length bytes → (n % 4 ≡ 0 → ⊥) → len ≡ length bytes → Listed bytes (Refuses (Words len) [])
cut bytes n len e h is =
    ap (λ m. Refuses (Words m) []) is
    ∙ sym (cond-false (length bytes % 4 == 0) (Works [] (lines_of (words_of bytes))) (Refuses (Words (length bytes)) []) (ne_eqb (length bytes % 4) 0 (λ q. h (ap (λ m. m % 4) e ∙ q))))

one-listed : (bytes : List ℕ) → IsOne (Listed bytes)
one-listed bytes o p first then = first ∙ sym then

pub returns-in_err-image-clause-performs : goal.returns-in_err-image-clause-performs
returns-in_err-image-clause-performs g c =
    let p = err_from_is_err_and c.from_residual.result c.from_residual.ensures.1 in
    rw (p.1, p.2)
    (file-unread c.args.file.now Listed _ _ _ _ _ one-listed c.in_err-image.ensures.err (record { count = refl; same = refl })
    (λ sound. (c.in_err-image.ensures.is_sound sound.0).1) (λ sound. g.met.F.Files.sound_tells c.args.files.now sound.0))

pub returns-then-len-ne0-clause-performs : goal.returns-then-len-ne0-clause-performs
returns-then-len-ne0-clause-performs g c =
    file-refused c.args.file.now Listed _ _ _ _ _ (judge.Refused (Words c.len-then-len-ne0.result)) one-listed c.in_ok-image.ensures.ok
    (cut _ _ c.len-then-len-ne0.result c.len.ensures c.if-len-ne0.true c.len-then-len-ne0.ensures) (record { count = refl; same = refl })
    (λ sound. g.met.F.Files.sound_tells c.args.files.now sound.0)

pub returns-in_err-put_text-clause-performs : goal.returns-in_err-put_text-clause-performs
returns-in_err-put_text-clause-performs g c =
    let p = err_from_is_err_and c.from_residual-in_err-put_text.result c.from_residual-in_err-put_text.ensures.1 in
    rw (p.1, p.2)
    (file-printed c.args.file.now Listed _ _ _ _ _ _ (Err c.in_err-put_text.field-0.0) one-listed c.in_ok-image.ensures.ok
    (whole _ _ _ _ c.len.ensures c.if-len-ne0.false c.as_slice.ensures c.in_ok-text.ensures)
    (rw c.as_slice-2.ensures at c.in_err-put_text.ensures.puts) (λ sound. rw c.as_slice-2.ensures at (c.in_err-put_text.ensures.is_sound sound.1))
    (λ sound. g.met.F.Files.sound_tells c.args.files.now sound.0))

pub returns-clause-performs : goal.returns-clause-performs
returns-clause-performs g c =
    file-printed c.args.file.now Listed _ _ _ _ _ _ (Ok tt) one-listed c.in_ok-image.ensures.ok
    (whole _ _ _ _ c.len.ensures c.if-len-ne0.false c.as_slice.ensures c.in_ok-text.ensures)
    (rw c.as_slice-2.ensures at c.in_ok-put_text.ensures.puts) (λ sound. rw c.as_slice-2.ensures at (c.in_ok-put_text.ensures.is_sound sound.1))
    (λ sound. g.met.F.Files.sound_tells c.args.files.now sound.0)

pub returns-in_err-image-clause-asks : goal.returns-in_err-image-clause-asks
returns-in_err-image-clause-asks g c =
    let p = err_from_is_err_and c.from_residual.result c.from_residual.ensures.1 in
    rw (p.1, p.2) (unread-asks Held _ c.args.file.now (λ m. []) _ c.in_err-image.field-0.0 c.in_err-image.ensures.asks)

pub returns-in_err-text-clause-asks : goal.returns-in_err-text-clause-asks
returns-in_err-text-clause-asks g c =
    let p = err_from_is_err_and c.from_residual-in_err-text.result c.from_residual-in_err-text.ensures.1 in
    rw (p.1, p.2) (all-begin _ (λ m. c.args.file.now ∷ []) (λ m. []) c.in_ok-image.ensures.asks)

pub returns-in_err-put_text-clause-asks : goal.returns-in_err-put_text-clause-asks
returns-in_err-put_text-clause-asks g c =
    let p = err_from_is_err_and c.from_residual-in_err-put_text.result c.from_residual-in_err-put_text.ensures.1 in
    rw (p.1, p.2) c.in_ok-image.ensures.asks
