use Rattle.std.proofs.Common.{[], ◌∷◌, ◌++◌}
use Rattle.std.proofs.lemmas.List.Elements.{All-push, All-same}
use Rattle.port_children.proofs.Parts.{first-sound}
use Rattle.port_children.proofs.opening.accept.Goals as goal

pub returns-clause-is_sound : goal.returns-clause-is_sound
returns-clause-is_sound g c = λ is.
    let first = first-sound g.N.Link.Link.sound _ _ _ _ (g.met.N.Network.sound_tells c.args.net.now is) c.in-Ok.ensures.tells in (
      (c.in-Ok.ensures.is_sound is).0,
      λ all. All-same g.N.Link.Link.sound c.push_spare.new.list.items (c.args.links.now.items ++ c.in-Ok.link ∷ [])
          c.push_spare.ensures (All-push g.N.Link.Link.sound c.args.links.now.items c.in-Ok.link all first),
      tt,
    )
