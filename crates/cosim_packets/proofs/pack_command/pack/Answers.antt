use Rattle.std.proofs.Common.{[], ◌∷◌, refl}
use Rattle.std.proofs.lemmas.Result.{err_from_is_err_and}
use Rattle.std.specs.declared.result.Result.TheVariants.{Ok, Err}
use Rattle.cos_base.specs.Octets.{Held}
use Rattle.outcomes.proofs.Asking.{unread-asks, judge-asks}
use Rattle.outcomes.proofs.Performing.{file-unread, file-refused, file-printed}
use Rattle.cosim_packets.specs.Packed.{Packed}
use Rattle.cosim_packets.proofs.PackLaws.{one-packed}
use Rattle.cosim_packets.proofs.pack_command.pack.Goals as goal

pub returns-in_err-text-clause-performs : goal.returns-in_err-text-clause-performs
returns-in_err-text-clause-performs g c =
    let p = err_from_is_err_and c.from_residual.result c.from_residual.ensures.1 in
    rw (p.1, p.2)
    (file-unread c.args.name.now Packed _ _ _ _ _ one-packed c.in_err-text.ensures.err (record { count = refl; same = refl })
    (λ sound. (c.in_err-text.ensures.is_sound sound.0).1) (λ sound. g.met.F.Files.sound_tells c.args.files.now sound.0))

pub returns-in_err-pack_text-clause-performs : goal.returns-in_err-pack_text-clause-performs
returns-in_err-pack_text-clause-performs g c =
    let p = err_from_is_err_and c.from_residual-in_err-pack_text.result c.from_residual-in_err-pack_text.ensures.1 in
    rw (p.1, p.2)
    (file-refused c.args.name.now Packed _ _ _ _ _ c.in_err-pack_text.field-0.0 one-packed c.in_ok-text.ensures.ok (rw c.as_slice.ensures at c.in_err-pack_text.ensures) (record { count = refl; same = refl })
    (λ sound. g.met.F.Files.sound_tells c.args.files.now sound.0))

pub returns-in_err-put_text-clause-performs : goal.returns-in_err-put_text-clause-performs
returns-in_err-put_text-clause-performs g c =
    let p = err_from_is_err_and c.from_residual-in_err-put_text.result c.from_residual-in_err-put_text.ensures.1 in
    rw (p.1, p.2)
    (file-printed c.args.name.now Packed _ _ _ _ _ _ (Err c.in_err-put_text.field-0.0) one-packed c.in_ok-text.ensures.ok (rw c.as_slice.ensures at c.in_ok-pack_text.ensures)
    (rw c.as_slice-2.ensures at c.in_err-put_text.ensures.puts) (λ sound. rw c.as_slice-2.ensures at (c.in_err-put_text.ensures.is_sound sound.1))
    (λ sound. g.met.F.Files.sound_tells c.args.files.now sound.0))

pub returns-clause-performs : goal.returns-clause-performs
returns-clause-performs g c =
    file-printed c.args.name.now Packed _ _ _ _ _ _ (Ok tt) one-packed c.in_ok-text.ensures.ok (rw c.as_slice.ensures at c.in_ok-pack_text.ensures)
    (rw c.as_slice-2.ensures at c.in_ok-put_text.ensures.puts) (λ sound. rw c.as_slice-2.ensures at (c.in_ok-put_text.ensures.is_sound sound.1))
    (λ sound. g.met.F.Files.sound_tells c.args.files.now sound.0)

pub returns-in_err-text-clause-asks : goal.returns-in_err-text-clause-asks
returns-in_err-text-clause-asks g c =
    let p = err_from_is_err_and c.from_residual.result c.from_residual.ensures.1 in
    rw (p.1, p.2) (unread-asks Held _ c.args.name.now (λ m. []) _ c.in_err-text.field-0.0 c.in_err-text.ensures.asks)

pub returns-in_err-pack_text-clause-asks : goal.returns-in_err-pack_text-clause-asks
returns-in_err-pack_text-clause-asks g c =
    let p = err_from_is_err_and c.from_residual-in_err-pack_text.result c.from_residual-in_err-pack_text.ensures.1 in
    rw (p.1, p.2) (judge-asks (λ m. c.args.name.now ∷ []) (λ m. []) _ c.in_err-pack_text.field-0.0 c.in_ok-text.ensures.asks)

pub returns-in_err-put_text-clause-asks : goal.returns-in_err-put_text-clause-asks
returns-in_err-put_text-clause-asks g c =
    let p = err_from_is_err_and c.from_residual-in_err-put_text.result c.from_residual-in_err-put_text.ensures.1 in
    rw (p.1, p.2) c.in_ok-text.ensures.asks
