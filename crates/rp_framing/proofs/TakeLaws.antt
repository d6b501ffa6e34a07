-- Taking the packet at the front.
use Rattle.std.proofs.Common.{◌≡◌, ℕ, ◌+◌, List, drop, sym, ap, ◌∙◌, subst, arith}
use Rattle.std.specs.Prelude.{Option, Some, None, Ok}
use Rattle.std.proofs.lemmas.List.{drop-drop}
use Rattle.rp_packet.specs.declared.packet.Packet.{Packet}
use Rattle.rp_packet.specs.declared.fault.PacketFault.{PacketFault}
use Rattle.rp_framing.specs.Framing.{Frames, IsFront, Nexts, NextAt, counted}

same-frames : (held other : List ℕ) (taken count room more : ℕ) (kept : Option PacketFault) → held ≡ other → taken ≡ count → room ≡ more → kept ≡ None →
    ◌≡◌ {A = Frames} (record { held = held; taken = taken; room = room; kept = kept }) (record { held = other; taken = count; room = more; kept = None })
same-frames held other taken count room more kept a b c d =
    ap (λ x. record { held = x; taken = taken; room = room; kept = kept }) a
    ∙ ap (λ x. record { held = other; taken = x; room = room; kept = kept }) b
    ∙ ap (λ x. record { held = other; taken = count; room = x; kept = kept }) c
    ∙ ap (λ x. record { held = other; taken = count; room = more; kept = x }) d

-- the front of the list grows by a packet
pub next-packet : (old : Frames) (bytes held : List ℕ) (begin spare taken count size : ℕ) (kept : Option PacketFault) (packet : Packet) →
    ◌≡◌ {A = Frames} (record { held = drop begin bytes; taken = taken; room = spare + begin; kept = kept }) old → old.kept ≡ None → held ≡ drop begin bytes →
    IsFront held (Ok (Some (packet, size))) → count ≡ counted (taken + size) →
    Nexts old (record { held = drop (begin + size) bytes; taken = count; room = spare + (begin + size); kept = kept }) (Ok (Some packet))
next-packet old bytes held begin spare taken count size kept packet view none is front counts =
    let inside : Frames = record { held = drop begin bytes; taken = taken; room = spare + begin; kept = kept } in
    let new : Frames = record { held = drop (begin + size) bytes; taken = count; room = spare + (begin + size); kept = kept } in
    let there = subst (λ (h : List ℕ). IsFront h (Ok (Some (packet, size)))) is front in
    let room : spare + (begin + size) ≡ spare + begin + size = omega arith in
    let clear : kept ≡ None = ap (λ f. f.kept) view ∙ none in
    subst (λ (f : Frames). Nexts f new (Ok (Some packet))) view
    (subst (λ (k : Option PacketFault). NextAt k inside new (Ok (Some packet))) (sym clear)
    (size, there.0, there.1, same-frames _ (drop size (drop begin bytes)) _ (counted (taken + size)) _ (spare + begin + size) kept (sym (drop-drop size begin bytes)) counts room clear))
