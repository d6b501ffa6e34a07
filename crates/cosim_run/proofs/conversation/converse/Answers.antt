use Rattle.std.proofs.Common.{◌≡◌, ◌≤◌, ◌∙◌, Ok, Err, ap, arith, length, map, refl, subst, sym}
use Rattle.std.proofs.lemmas.List.{length-map}
use Rattle.cos_parts.specs.AnyMasters as masters
use Rattle.configured_machine.proofs.Sides.{sides-each}
use Rattle.cosim_ends.specs.Sides.{sides_of}
use Rattle.cosim_serve.specs.Serves.{NetView}
use Rattle.end_machine.specs.Driving.{DriveCounts}
use Rattle.outcomes.specs.Seen.{seen}
use Rattle.port_children.specs.Opened.{Opens, OpensSoundly}
use Rattle.port_children.specs.Peers.{sockets_of}
use Rattle.cosim_run.specs.Conversations.{start_end}
use Rattle.cosim_run.proofs.Conversing.{all-fresh, all-had, driven-over, finished-lines, nothing-talks, opened-talks}
use Rattle.cosim_run.proofs.Conversing.{started, undriven-converses, unopened-soundly, unopened-talks}
use Rattle.cosim_run.proofs.conversation.converse.Goals as goal

pub make-requires-clause-reach : goal.make-requires-clause-reach
make-requires-clause-reach g c =
    let p = c.args.parts in
    let xs = sides_of p.config.ports p.machine.devices.items in
    let reach : masters.any_reach p.machine.master ≤ length xs = c.requires.may_run.fit.reach in
    let each : length xs ≡ length p.config.ports =
    sides-each p.config.ports p.machine.devices.items c.requires.may_run.each in
    let size : c.len.result ≡ length p.config.ports = c.len.ensures in
    omega (arith, reach, each, size)

pub returns-in-Err-clause-err : goal.returns-in-Err-clause-err
returns-in-Err-clause-err g c = record {
  left = start_end c.args.parts;
  talks = nothing-talks c.args.program.now c.args.config.now
      (record { told = g.N.Link.Link.told; count = g.N.Link.Link.count; is_sound = g.N.Network.sound c.args.net.now })
      c.args.parts (seen g.N.Network.count g.N.Network.told c.args.net.now c.args.net.now)
      (seen g.S.Spawner.count g.S.Spawner.told c.args.children.now c.args.children.now) c.args.numbers.now.items
      refl refl refl refl c.requires.no_numbers (start_end c.args.parts);
}

pub returns-in-Err-open_links-clause-err : goal.returns-in-Err-open_links-clause-err
returns-in-Err-open_links-clause-err g c =
    let net = seen g.N.Network.count g.N.Network.told c.args.net.now c.open_links.new.net in
    let children = seen g.S.Spawner.count g.S.Spawner.told c.args.children.now c.open_links.new.children in
    let opens = subst (λ ports. Opens c.args.program.now c.args.config.now (sockets_of ports) net children
    c.open_links.new.links.items c.open_links.new.numbers.items (Err c.in-Err-open_links.fault)) c.as_slice-ports.ensures
    c.in-Err-open_links.ensures.opens in
    rw c.unopened.ensures (record {
      left = start_end c.args.parts;
      talks = unopened-talks c.args.program.now c.args.config.now
          (record { told = g.N.Link.Link.told; count = g.N.Link.Link.count; is_sound = g.N.Network.sound c.args.net.now })
          c.args.parts net children c.open_links.new.numbers.items c.open_links.new.links.items
          c.in-Err-open_links.fault opens (start_end c.args.parts);
    })

pub returns-in-Err-open_links-clause-soundly : goal.returns-in-Err-open_links-clause-soundly
returns-in-Err-open_links-clause-soundly g c = λ of_net of_children.
    let soundly = subst (λ ports. OpensSoundly (sockets_of ports) (g.N.Network.told c.args.net.now)
    (Err c.in-Err-open_links.fault)) c.as_slice-ports.ensures (c.in-Err-open_links.ensures.soundly of_net of_children) in
    rw c.unopened.ensures
    (unopened-soundly c.args.program.now c.args.config.now
    (record { told = g.N.Link.Link.told; count = g.N.Link.Link.count; is_sound = g.N.Network.sound c.args.net.now })
    c.args.parts (seen g.N.Network.count g.N.Network.told c.args.net.now c.open_links.new.net)
    (seen g.S.Spawner.count g.S.Spawner.told c.args.children.now c.open_links.new.children)
    c.open_links.new.numbers.items c.in-Err-open_links.fault soundly)

pub drive-requires-clause-unused : goal.drive-requires-clause-unused
drive-requires-clause-unused g c =
    rw c.as_mut_slice.ensures.value
    (all-fresh g.N.Link.Link.told c.open_links.new.links.items c.in-Ok-open_links.ensures.fresh)

pub returns-in-Ok-drive-clause-ok : goal.returns-in-Ok-drive-clause-ok
returns-in-Ok-drive-clause-ok g c =
    let net = seen g.N.Network.count g.N.Network.told c.args.net.now c.open_links.new.net in
    let children = seen g.S.Spawner.count g.S.Spawner.told c.args.children.now c.open_links.new.children in
    let view : NetView g.row.N-Link.Denot = record { told = g.N.Link.Link.told; count = g.N.Link.Link.count; is_sound = g.N.Network.sound c.args.net.now } in
    let links = c.open_links.new.links.items in
    let numbers = c.open_links.new.numbers.items in
    let opens = subst (λ ports. Opens c.args.program.now c.args.config.now (sockets_of ports) net children links numbers (Ok tt))
    c.as_slice-ports.ensures c.in-Ok-open_links.ensures.opens in
    record {
      settings = refl;
      talks = opened-talks c.args.program.now c.args.config.now view c.args.parts net children numbers links opens
          c.drive.new.end.clear (Ok tt) (
            all-had c.args.program.now c.args.config.now view c.args.parts net children numbers links opens,
            driven-over g.N.Link.Link.told c.args.parts links c.as_mut_slice.result.now c.in-Ok.end.clear
                c.drive.new.end.clear (Ok tt) c.as_mut_slice.ensures.value
                (started c.args.parts c.in-Ok.end c.len.result c.in-Ok.ensures c.len.ensures) c.in-Ok-drive.ensures.talk
                c.in-Ok-drive.ensures.honest,
            opens.net_stands,
            opens.children_stand,
          );
    }

pub returns-in-Ok-drive-clause-lines : goal.returns-in-Ok-drive-clause-lines
returns-in-Ok-drive-clause-lines g c =
    let net = seen g.N.Network.count g.N.Network.told c.args.net.now c.open_links.new.net in
    let children = seen g.S.Spawner.count g.S.Spawner.told c.args.children.now c.open_links.new.children in
    let links = c.open_links.new.links.items in
    let numbers = c.open_links.new.numbers.items in
    let opens = subst (λ ports. Opens c.args.program.now c.args.config.now (sockets_of ports) net children links numbers (Ok tt))
    c.as_slice-ports.ensures c.in-Ok-open_links.ensures.opens in
    finished-lines c.args.parts c.in-Ok.end.clear c.drive.new.end.clear (length c.as_mut_slice.result.now)
    (started c.args.parts c.in-Ok.end c.len.result c.in-Ok.ensures c.len.ensures)
    (ap length c.as_mut_slice.ensures.value ∙ opens.each_link ∙ length-map c.args.parts.config.ports _)
    c.in-Ok-drive.ensures.ran

pub returns-in-Err-drive-clause-err : goal.returns-in-Err-drive-clause-err
returns-in-Err-drive-clause-err g c =
    let net = seen g.N.Network.count g.N.Network.told c.args.net.now c.open_links.new.net in
    let children = seen g.S.Spawner.count g.S.Spawner.told c.args.children.now c.open_links.new.children in
    let view : NetView g.row.N-Link.Denot = record { told = g.N.Link.Link.told; count = g.N.Link.Link.count; is_sound = g.N.Network.sound c.args.net.now } in
    let links = c.open_links.new.links.items in
    let numbers = c.open_links.new.numbers.items in
    let opens = subst (λ ports. Opens c.args.program.now c.args.config.now (sockets_of ports) net children links numbers (Ok tt))
    c.as_slice-ports.ensures c.in-Ok-open_links.ensures.opens in
    let counts = subst (λ ls. DriveCounts {A = Unit {0}} (map g.N.Link.Link.count ls) (map g.N.Link.Link.count c.drive.new.links)
    (Err c.in-Err-drive.fault)) c.as_mut_slice.ensures.value c.in-Err-drive.ensures.counts in
    rw c.undriven.ensures (record {
      left = c.drive.new.end.clear;
      talks = opened-talks c.args.program.now c.args.config.now view c.args.parts net children numbers links opens
          c.drive.new.end.clear _ (undriven-converses c.args.program.now c.args.config.now view c.args.parts net children
          numbers links (map g.N.Link.Link.count c.drive.new.links) c.drive.new.end.clear c.in-Err-drive.fault
          (all-had c.args.program.now c.args.config.now view c.args.parts net children numbers links opens) counts
          (driven-over g.N.Link.Link.told c.args.parts links c.as_mut_slice.result.now c.in-Ok.end.clear
          c.drive.new.end.clear (Err c.in-Err-drive.fault) c.as_mut_slice.ensures.value
          (started c.args.parts c.in-Ok.end c.len.result c.in-Ok.ensures c.len.ensures) c.in-Err-drive.ensures.talk
          c.in-Err-drive.ensures.honest) opens.net_stands opens.children_stand);
    })
