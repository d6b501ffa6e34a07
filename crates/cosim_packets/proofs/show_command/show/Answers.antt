use Rattle.std.proofs.Common.{[], refl}
use Rattle.std.proofs.lemmas.Result.{err_from_is_err_and}
use Rattle.std.specs.declared.result.Result.TheVariants.{Ok, Err}
use Rattle.outcomes.proofs.Commands.{comes-read, one-of-file}
use Rattle.cos_base.specs.Octets.{Held}
use Rattle.outcomes.proofs.Asking.{unread-asks}
use Rattle.outcomes.proofs.Performing.{file-unread, file-printed, refused-performs}
use Rattle.cosim_packets.specs.Shown.{Shown, Whole}
use Rattle.cosim_packets.proofs.ListLaws.{one-shown}
use Rattle.cosim_packets.proofs.ShowLaws.{refused-shown}
use Rattle.cosim_packets.proofs.show_command.show.Goals as goal

pub returns-in_err-bytes-clause-performs : goal.returns-in_err-bytes-clause-performs
returns-in_err-bytes-clause-performs g c =
    let p = err_from_is_err_and c.from_residual.result c.from_residual.ensures.1 in
    rw (p.1, p.2)
    (file-unread c.args.name.now Shown _ _ _ _ _ one-shown c.in_err-bytes.ensures.err (record { count = refl; same = refl })
    (λ sound. (c.in_err-bytes.ensures.is_sound sound.0).1) (λ sound. g.met.F.Files.sound_tells c.args.files.now sound.0))

pub returns-in_err-put_text-in-Ok-clause-performs : goal.returns-in_err-put_text-in-Ok-clause-performs
returns-in_err-put_text-in-Ok-clause-performs g c =
    let p = err_from_is_err_and c.from_residual-in_err-put_text-in-Ok.result c.from_residual-in_err-put_text-in-Ok.ensures.1 in
    rw (p.1, p.2)
    (file-printed c.args.name.now Shown _ _ _ _ _ _ (Err c.in_err-put_text-in-Ok.field-0.0) one-shown c.in_ok-bytes.ensures.ok (Whole (rw c.as_slice.ensures at c.in-Ok.ensures))
    (rw c.as_slice-in-Ok.ensures at c.in_err-put_text-in-Ok.ensures.puts) (λ sound. rw c.as_slice-in-Ok.ensures at (c.in_err-put_text-in-Ok.ensures.is_sound sound.1))
    (λ sound. g.met.F.Files.sound_tells c.args.files.now sound.0))

pub returns-in-Ok-clause-performs : goal.returns-in-Ok-clause-performs
returns-in-Ok-clause-performs g c =
    file-printed c.args.name.now Shown _ _ _ _ _ _ (Ok tt) one-shown c.in_ok-bytes.ensures.ok (Whole (rw c.as_slice.ensures at c.in-Ok.ensures))
    (rw c.as_slice-in-Ok.ensures at c.in_ok-put_text-in-Ok.ensures.puts) (λ sound. rw c.as_slice-in-Ok.ensures at (c.in_ok-put_text-in-Ok.ensures.is_sound sound.1))
    (λ sound. g.met.F.Files.sound_tells c.args.files.now sound.0)

pub returns-in-Err-Refused-clause-performs : goal.returns-in-Err-Refused-clause-performs
returns-in-Err-Refused-clause-performs g c =
    let lists = rw c.in-Err-Refused.field-0-is at c.in-Err-Refused.ensures in
    let ends = rw c.as_slice.ensures at lists in
    refused-performs _ _ _ _ _ c.in-Err-Refused.refusal c.list.new.text.bytes (comes-read c.args.name.now Shown _ _ _ c.in_ok-bytes.ensures.ok (refused-shown _ _ c.in-Err-Refused.refusal ends))
    c.in_ok-bytes.ensures.ok.stands (rw c.as_slice-in-Err-Refused.ensures at c.put_before.ensures.puts) (λ sound. rw c.as_slice-in-Err-Refused.ensures at (c.put_before.ensures.is_sound sound.1))
    (λ sound. one-of-file c.args.name.now Shown _ (g.met.F.Files.sound_tells c.args.files.now sound.0) one-shown)

pub returns-in_err-bytes-clause-asks : goal.returns-in_err-bytes-clause-asks
returns-in_err-bytes-clause-asks g c =
    let p = err_from_is_err_and c.from_residual.result c.from_residual.ensures.1 in
    rw (p.1, p.2) (unread-asks Held _ c.args.name.now (λ m. []) _ c.in_err-bytes.field-0.0 c.in_err-bytes.ensures.asks)

pub returns-in_err-put_text-in-Ok-clause-asks : goal.returns-in_err-put_text-in-Ok-clause-asks
returns-in_err-put_text-in-Ok-clause-asks g c =
    let p = err_from_is_err_and c.from_residual-in_err-put_text-in-Ok.result c.from_residual-in_err-put_text-in-Ok.ensures.1 in
    rw (p.1, p.2) c.in_ok-bytes.ensures.asks
