use Rattle.std.proofs.Common.{sym, ap, ◌∙◌, map}
use Rattle.world.specs.Stars.{sent_links}
use Rattle.world.proofs.Rooming.{sent-leaves, sent-on}
use Rattle.world.proofs.ends.send.Goals as goal

pub returns-in-Sent-clause-leaves : goal.returns-in-Sent-clause-leaves
returns-in-Sent-clause-leaves g c =
    let fits = rw c.in-Sent.is at c.requires.fits in
    sent-leaves _ _ _ _ c.args.piece.now fits.0 c.index_mut-seat.ensures.value c.send.ensures.end

pub returns-in-Sent-clause-links : goal.returns-in-Sent-clause-links
returns-in-Sent-clause-links g c =
    let fits = rw c.in-Sent.is at c.requires.fits in
    sent-on c.args.seats.now.items c.in-Sent.port _ c.send.new.self c.args.piece.now fits.0 c.index_mut-seat.ensures.value
    c.send.ensures.link
    ∙ ap (λ t. sent_links (map (λ s. s.link) c.args.seats.now.items) t c.args.piece.now) (sym c.in-Sent.is)
