use Rattle.std.proofs.Common.{[], ◌∷◌, refl, subst}
use Rattle.std.proofs.lemmas.Result.{err_from_is_err_and}
use Rattle.std.specs.declared.result.Result.TheVariants.{Err}
use Rattle.outcomes.specs.Outcomes.{Written}
use Rattle.outcomes.specs.Seen.{seen}
use Rattle.outcomes.specs.Steps.{IsWritten}
use Rattle.outcomes.proofs.Commands.{comes-read, one-of-file}
use Rattle.outcomes.specs.Asked.{asking}
use Rattle.cos_base.specs.Octets.{Held}
use Rattle.outcomes.proofs.Asking.{unread-asks, judge-asks, write-asks, unwritten-asks}
use Rattle.cosim_assembly.specs.declared.refusals.AsmRefusal.{AsmRefusal}
use Rattle.outcomes.proofs.Performing.{file-unread, file-refused, written-performs, unwritten-performs}
use Rattle.outcomes.proofs.Writing.{nothing-written, one-more-written}
use Rattle.cosim_assembly.specs.Assemblies.{Judges}
use Rattle.cosim_assembly.proofs.OneImage.{one-judged, image-judges, fault-judges}
use Rattle.cosim_assembly.proofs.assembly.asm.Goals as goal

pub returns-in_err-text-clause-performs : goal.returns-in_err-text-clause-performs
returns-in_err-text-clause-performs g c = λ out room same.
    let p = err_from_is_err_and c.from_residual.result c.from_residual.ensures.1 in
    rw (p.1, p.2)
    (file-unread c.args.file.now (Judges c.args.target.now) _ out _ room _ (one-judged c.args.target.now) c.in_err-text.ensures.err same
    (λ sound. (c.in_err-text.ensures.is_sound sound).1) (λ sound. g.met.F.Files.sound_tells c.args.files.now sound))

pub returns-in_err-image-clause-performs : goal.returns-in_err-image-clause-performs
returns-in_err-image-clause-performs g c = λ out room same.
    let p = err_from_is_err_and c.from_residual-in_err-image.result c.from_residual-in_err-image.ensures.1 in
    rw (p.1, p.2)
    (file-refused c.args.file.now (Judges c.args.target.now) _ out _ room _ c.in_err-image.field-0.0 (one-judged c.args.target.now) c.in_ok-text.ensures.ok
    (fault-judges c.args.target.now _ _ _ c.as_slice.ensures c.in_err-image.ensures.err) same (λ sound. g.met.F.Files.sound_tells c.args.files.now sound))

pub returns-in_err-write_file-clause-performs : goal.returns-in_err-write_file-clause-performs
returns-in_err-write_file-clause-performs g c = λ out room same.
    let p = err_from_is_err_and c.from_residual-in_err-write_file.result c.from_residual-in_err-write_file.ensures.1 in
    let by = image-judges c.args.target.now _ _ _ c.as_slice.ensures c.in_ok-image.ensures.ok in
    let one : Written = record { name = c.args.target.now; bytes = c.in_ok-image.image.bytes } in
    let after = seen g.F.Files.count g.F.Files.told c.read_file.new.files c.write_file.new.files in
    rw (p.1, p.2)
    (unwritten-performs _ _ _ out _ room [] one [] [] c.in_err-write_file.field-0.0 (comes-read c.args.file.now (Judges c.args.target.now) _ _ _ c.in_ok-text.ensures.ok by)
    (nothing-written _ c.in_ok-text.ensures.ok.stands) refl refl (subst (λ b. IsWritten after c.args.target.now b (Err c.in_err-write_file.field-0.0)) c.as_slice-2.ensures c.in_err-write_file.ensures.writes) same
    (λ sound. (c.in_err-write_file.ensures.is_sound (c.in_ok-text.ensures.is_sound sound).0).1))

pub returns-clause-performs : goal.returns-clause-performs
returns-clause-performs g c = λ out room same.
    let by = image-judges c.args.target.now _ _ _ c.as_slice.ensures c.in_ok-image.ensures.ok in
    let one : Written = record { name = c.args.target.now; bytes = c.in_ok-image.image.bytes } in
    written-performs _ _ out _ room _ (comes-read c.args.file.now (Judges c.args.target.now) _ _ _ c.in_ok-text.ensures.ok by)
    (one-more-written _ _ [] one (nothing-written _ c.in_ok-text.ensures.ok.stands) refl refl (rw c.as_slice-2.ensures at c.in_ok-write_file.ensures.writes)) same
    (λ sound. one-of-file c.args.file.now (Judges c.args.target.now) _ (g.met.F.Files.sound_tells c.args.files.now sound) (one-judged c.args.target.now))

pub returns-in_err-text-clause-asks : goal.returns-in_err-text-clause-asks
returns-in_err-text-clause-asks g c =
    let p = err_from_is_err_and c.from_residual.result c.from_residual.ensures.1 in
    rw (p.1, p.2) (unread-asks Held _ c.args.file.now (λ m. c.args.target.now ∷ []) _ c.in_err-text.field-0.0 c.in_err-text.ensures.asks)

pub returns-in_err-image-clause-asks : goal.returns-in_err-image-clause-asks
returns-in_err-image-clause-asks g c =
    let p = err_from_is_err_and c.from_residual-in_err-image.result c.from_residual-in_err-image.ensures.1 in
    rw (p.1, p.2) (judge-asks (λ m. c.args.file.now ∷ []) (λ m. c.args.target.now ∷ []) _ c.in_err-image.field-0.0 c.in_ok-text.ensures.asks)

pub returns-in_err-write_file-clause-asks : goal.returns-in_err-write_file-clause-asks
returns-in_err-write_file-clause-asks g c =
    let p = err_from_is_err_and c.from_residual-in_err-write_file.result c.from_residual-in_err-write_file.ensures.1 in
    let a = asking g.F.Files.told g.F.Files.asked c.args.files.now c.read_file.new.files in
    let b = asking g.F.Files.told g.F.Files.asked c.read_file.new.files c.write_file.new.files in
    rw (p.1, p.2)
    (unwritten-asks _ c.args.file.now c.args.target.now a b c.in_err-write_file.field-0.0 (c.in_ok-text.ensures.ok.stands.told, refl) c.in_ok-text.ensures.asks c.in_err-write_file.ensures.asks)

pub returns-clause-asks : goal.returns-clause-asks
returns-clause-asks g c =
    let a = asking g.F.Files.told g.F.Files.asked c.args.files.now c.read_file.new.files in
    let b = asking g.F.Files.told g.F.Files.asked c.read_file.new.files c.write_file.new.files in
    write-asks AsmRefusal c.args.file.now c.args.target.now a b (c.in_ok-text.ensures.ok.stands.told, refl) c.in_ok-text.ensures.asks c.in_ok-write_file.ensures.asks
