-- What a framer answers of the bytes held is what the whole stream says.
use Rattle.std.proofs.Common.{◌≡◌, ◌⊎◌, inl, inr, ℕ, ◌+◌, ◌-◌, ◌<◌, ◌≤◌, List, [], ◌∷◌, ◌++◌, length, take, drop, refl, sym, ap, ◌∙◌, arith, subst}
use Rattle.std.specs.Prelude.{false, is_some, ◌||◌, Option, Some, None, Result, Ok, Err}
use Rattle.std.proofs.lemmas.List.{append_assoc, append-nil, length-append, length-take, nil_from_length, take-append-drop}
use Rattle.cosim_model.specs.Packets.{Packet, Decoded}
use Rattle.cosim_model.specs.Packets.Decoded.{Valid, Malformed as MalformedPacket}
use Rattle.rp_header.specs.Numbers.{AreBytes}
use Rattle.rp_header.specs.NumberLaws.{AreBytes-drop}
use Rattle.rp_packet.specs.declared.fault.Cause.{Cause}
use Rattle.rp_packet.specs.declared.fault.PacketFault.{PacketFault}
use Rattle.rp_packet.specs.declared.packet.Packet.{Packet as HeldPacket}
use Rattle.rp_packet.specs.Values.{value_of}
use Rattle.rp_packet.specs.Spelling.{Spells}
use Rattle.rp_packet.specs.Refusals.{first, place_of}
use Rattle.rp_packet.specs.Reading.{fault_at}
use Rattle.rp_packet.specs.Streams.{Spelled, Spelled_none, Spelled_one, Stream, Faulty, IsStream, IsFaulty}
use Rattle.rp_packet.specs.StreamLaws.{first-decided}
use Rattle.rp_packet.specs.WalkLaws.{Stream-front, Stream-none, Faulty-front, Faulty-none, one-stream, one-faulty, never-both, every-list, first-nothing, first-refused, Spelled-more}
use Rattle.rp_framing.specs.declared.fault.FrameFault.{FrameFault}
use Rattle.rp_framing.specs.declared.fault.FrameFault.TheVariants.{Malformed, NoMemory}
use Rattle.rp_framing.specs.declared.fault.Truncated.{Truncated}
use Rattle.rp_framing.specs.Framing.{Frames, Feeds, FedAt, Nexts, NextAt, WaitsForMore, fault_in, is_ready, counted}
use Rattle.rp_framing.specs.FrontLaws.{first-few}
use Rattle.rp_framing.specs.Cuts.{Taken, NextOf, StaysAfter, GrowsBy, EndOf, EndsWith}

-- What stands in front of a stream or a faulty list, and so the whole.
stream-behind : {given vs : List Packet} {b more rest : List ℕ} → Spelled given b → Stream vs more rest
    → Stream (given ++ vs) (b ++ more) rest
stream-behind Spelled_none is = is
stream-behind {vs = vs} {more = more} {rest = rest} (Spelled_one {v = v} {vs = ws} {b = b} {more = others} one behind)
    is =
    subst (λ (x : List ℕ). Stream (v ∷ (ws ++ vs)) x rest) (sym (append_assoc b others more))
    (Stream-front one (stream-behind behind is))

faulty-behind : {given vs : List Packet} {b more : List ℕ} {start place : ℕ} {cause : Cause} → Spelled given b
    → Faulty vs more start place cause → Faulty (given ++ vs) (b ++ more) (length b + start) place cause
faulty-behind {vs = vs} {more = more} {start = start} {place = place} {cause = cause} Spelled_none is =
    let same : start ≡ 0 + start = omega arith in
    subst (λ (n : ℕ). Faulty vs more n place cause) same is
faulty-behind {vs = vs} {more = more} {start = start} {place = place} {cause = cause}
    (Spelled_one {v = v} {vs = ws} {b = b} {more = others} one behind) is =
    let size : length b + (length others + start) ≡ length (b ++ others)
    + start = omega (arith, length-append b others) in
    subst (λ (n : ℕ). Faulty (v ∷ (ws ++ vs)) ((b ++ others) ++ more) n place cause) size
    (subst (λ (x : List ℕ). Faulty (v ∷ (ws ++ vs)) x (length b + (length others + start)) place cause)
    (sym (append_assoc b others more)) (Faulty-front one (faulty-behind behind is)))

-- what is left of a stream where no packet is whole, and of a faulty one where it is refused
pub stream-left : (given : List Packet) (b held : List ℕ) → Spelled given b → first held ≡ None
    → Stream given (b ++ held) held
stream-left given b held are nothing =
    subst (λ (vs : List Packet). Stream vs (b ++ held) held) (append-nil given)
    (stream-behind are (Stream-none held (first-nothing held nothing)))

faulty-left : (given : List Packet) (b held : List ℕ) (cause : Cause) (size : ℕ) → Spelled given b → first held
    ≡ Some (MalformedPacket cause, size) → Faulty given (b ++ held) (length b) (place_of cause) cause
faulty-left given b held cause size are refused =
    let n : length b + 0 ≡ length b = omega arith in
    subst (λ (m : ℕ). Faulty given (b ++ held) m (place_of cause) cause) n
    (subst (λ (vs : List Packet). Faulty vs (b ++ held) (length b + 0) (place_of cause) cause) (append-nil given)
    (faulty-behind are (Faulty-none held (place_of cause) cause (first-refused held cause size refused))))

-- by what the whole is
next-none : (given : List Packet) (b rest : List ℕ) → Stream given b rest → NextOf given b (Ok None)
next-none given b rest is = record {
  stream = λ vs other also. (one-stream b vs given other rest also is).0;
  faulty = λ vs start place cause also. never-both b given vs rest start place cause is also;
}

next-refused : (given : List Packet) (b : List ℕ) (start place : ℕ) (cause : Cause) → Faulty given b start place cause
    → NextOf given b (Err (Malformed (record { start = counted start; place = place; cause = cause })))
next-refused given b start place cause is = record {
  stream = λ vs rest also. never-both b vs given rest start place cause also is;
  faulty = λ vs other elsewhere another also.
      let one = one-faulty b vs given other start elsewhere place another cause also is in (
        one.0,
        ap (λ n. record { start = counted n; place = place; cause = cause }) (sym one.1)
            ∙ ap (λ n. record { start = counted other; place = n; cause = cause }) (sym one.2)
            ∙ ap (λ x. record { start = counted other; place = elsewhere; cause = x }) (sym one.3),
      );
}

next-memory : (given : List Packet) (b : List ℕ) → NextOf given b (Err NoMemory)
next-memory given b = record { stream = λ vs rest also. tt; faulty = λ vs start place cause also. tt }

next-stream : (given more : List Packet) (b rest : List ℕ) (packet : HeldPacket)
    → Stream (given ++ (value_of packet ∷ more)) b rest → NextOf given b (Ok (Some packet))
next-stream given more b rest packet is = record {
  stream = λ vs other also. (more, (one-stream b vs (given ++ (value_of packet ∷ more)) other rest also is).0);
  faulty = λ vs start place cause also. absurd
      (never-both b (given ++ (value_of packet ∷ more)) vs rest start place cause is also);
}

next-faulty : (given more : List Packet) (b : List ℕ) (start place : ℕ) (cause : Cause) (packet : HeldPacket)
    → Faulty (given ++ (value_of packet ∷ more)) b start place cause → NextOf given b (Ok (Some packet))
next-faulty given more b start place cause packet is = record {
  stream = λ vs rest also. absurd (never-both b vs (given ++ (value_of packet ∷ more)) rest start place cause also is);
  faulty = λ vs other elsewhere another also. (
    more,
    (one-faulty b vs (given ++ (value_of packet ∷ more)) other start elsewhere place another cause also is).0,
  );
}

next-some : (given : List Packet) (b held : List ℕ) (packet : HeldPacket) → Spelled (given ++ (value_of packet ∷ [])) b
    → IsStream held ⊎ IsFaulty held → NextOf given (b ++ held) (Ok (Some packet))
next-some given b held packet are (inl is) =
    next-stream given is.values (b ++ held) is.rest packet
    (subst (λ (vs : List Packet). Stream vs (b ++ held) is.rest) (append_assoc given (value_of packet ∷ []) is.values)
    (stream-behind are is.is))
next-some given b held packet are (inr is) =
    next-faulty given is.values (b ++ held) (length b + is.start) is.place is.cause packet
    (subst (λ (vs : List Packet). Faulty vs (b ++ held) (length b + is.start) is.place is.cause)
    (append_assoc given (value_of packet ∷ []) is.values) (faulty-behind are is.is))

-- bytes that were held, of which some are taken
all-there : (b part held rest : List ℕ) → held ≡ part ++ rest → (b ++ part) ++ rest ≡ b ++ held
all-there b part held rest is = append_assoc b part rest ∙ ap (λ x. b ++ x) (sym is)

-- a packet that is whole has as many bytes as it says
spelled-size : (b : List ℕ) (v : Packet) (size : ℕ) → first b ≡ Some (Valid v, size) → length (take size b) ≡ size
spelled-size b v size front = let within = (first-decided b [] (Valid v, size) front).1
    in omega (arith, length-take size b, within)

counts-more : (m n taken : ℕ) → counted m ≡ taken → counted (m + n) ≡ counted (taken + n)
counts-more m n taken is = omega arith

taken-more : (given : List Packet) (b : List ℕ) (old new : Frames) (v : Packet) (part : List ℕ) (size : ℕ)
    → Taken given b old → Spells v part → length part ≡ size → new.taken ≡ counted (old.taken + size)
    → Taken (given ++ (v ∷ [])) (b ++ part) new
taken-more given b old new v part size are is long taken = record {
  spelled = Spelled-more given b v part are.spelled is;
  size = ap counted (length-append b part ∙ ap (λ n. length b + n) long)
      ∙ counts-more (length b) size old.taken are.size ∙ sym taken;
}

-- the answer of a framer that keeps no fault
cut-at : (given : List Packet) (b : List ℕ) (old new : Frames) (result : Result (Option HeldPacket) FrameFault)
    → AreBytes old.held → NextAt None old new result → Taken given b old → NextOf given (b ++ old.held) result
cut-at given b old new (Ok None) bytes is are =
    next-none given (b ++ old.held) old.held (stream-left given b old.held are.spelled is.0)
cut-at given b old new (Ok (Some packet)) bytes (size, front, spelled, there) are =
    let part = take size old.held in
    let rest = drop size old.held in
    subst (λ (x : List ℕ). NextOf given x (Ok (Some packet)))
    (all-there b part old.held rest (sym (take-append-drop size old.held)))
    (next-some given (b ++ part) rest packet (Spelled-more given b (value_of packet) part are.spelled spelled)
    (every-list rest (AreBytes-drop size old.held bytes)))
cut-at given b old new (Err (Malformed fault)) bytes (is, (size, front), there) are =
    let start : counted (length b) ≡ old.taken = are.size in
    subst (λ (f : PacketFault). NextOf given (b ++ old.held) (Err (Malformed f)))
    (ap (λ n. record { start = n; place = place_of fault.cause; cause = fault.cause }) start ∙ sym is)
    (next-refused given (b ++ old.held) (length b) (place_of fault.cause) fault.cause
    (faulty-left given b old.held fault.cause size are.spelled front))
cut-at given b old new (Err NoMemory) bytes is are = next-memory given (b ++ old.held)

pub cut-front : (given : List Packet) (b : List ℕ) (old new : Frames) (result : Result (Option HeldPacket) FrameFault)
    → old.kept ≡ None → AreBytes old.held → Nexts old new result → Taken given b old
    → NextOf given (b ++ old.held) result
cut-front given b old new result none bytes is are =
    cut-at given b old new result bytes (subst (λ (k : Option PacketFault). NextAt k old new result) none is) are

-- the answer of one that keeps a fault
kept-cause : (taken : ℕ) (front : Option (Decoded Cause × ℕ)) (fault : PacketFault) → fault_in taken front ≡ Some fault
    → (size : ℕ) × (front ≡ Some (MalformedPacket fault.cause, size)) × (fault ≡ fault_at taken fault.cause)
kept-cause taken None fault e = absurd (cc e)
kept-cause taken (Some (Valid v, size)) fault e = absurd (cc e)
kept-cause taken (Some (MalformedPacket cause, size)) fault e =
    let there : fault_at taken cause ≡ fault = cc in
    let same : cause ≡ fault.cause = ap (λ f. f.cause) there in
    (size, ap (λ x. Some (MalformedPacket x, size)) same, sym there ∙ ap (fault_at taken) same)

pub cut-kept : (given : List Packet) (b : List ℕ) (old : Frames) (fault : PacketFault)
    → fault_in old.taken (first old.held) ≡ Some fault → Taken given b old
    → NextOf given (b ++ old.held) (Err (Malformed fault))
cut-kept given b old fault kept are =
    let (size, front, is) = kept-cause old.taken (first old.held) fault kept in
    let start : counted (length b) ≡ old.taken = are.size in
    subst (λ (f : PacketFault). NextOf given (b ++ old.held) (Err (Malformed f)))
    (ap (λ n. record { start = n; place = place_of fault.cause; cause = fault.cause }) start ∙ sym is)
    (next-refused given (b ++ old.held) (length b) (place_of fault.cause) fault.cause
    (faulty-left given b old.held fault.cause size are.spelled front))

-- what is taken after an answer
stays-same : (given : List Packet) (b : List ℕ) (old new : Frames) → new ≡ old → Taken given b old → Taken given b new
    × (new.held ≡ old.held)
stays-same given b old new same are = (subst (λ (f : Frames). Taken given b f) (sym same) are, ap (λ f. f.held) same)

stays-at : (given : List Packet) (b : List ℕ) (old new : Frames) (result : Result (Option HeldPacket) FrameFault)
    → NextAt None old new result → Taken given b old → StaysAfter given b old new result
stays-at given b old new (Ok None) is are = stays-same given b old new is.1 are
stays-at given b old new (Ok (Some packet)) (size, front, spelled, there) are =
    let part = take size old.held in
    let rest = drop size old.held in
    let left : new.held ≡ rest = ap (λ f. f.held) there in
    let count : new.taken ≡ counted (old.taken + size) = ap (λ f. f.taken) there in (
      part,
      taken-more given b old new (value_of packet) part size are spelled
          (spelled-size old.held (value_of packet) size front) count,
      ap (λ x. (b ++ part) ++ x) left ∙ all-there b part old.held rest (sym (take-append-drop size old.held)),
    )
stays-at given b old new (Err (Malformed fault)) (is, front, there) are =
    (record { spelled = are.spelled; size = are.size ∙ sym (ap (λ f. f.taken) there) }, ap (λ f. f.held) there)
stays-at given b old new (Err NoMemory) is are = stays-same given b old new is are

pub stays-front : (given : List Packet) (b : List ℕ) (old new : Frames) (result : Result (Option HeldPacket) FrameFault)
    → old.kept ≡ None → Nexts old new result → Taken given b old → StaysAfter given b old new result
stays-front given b old new result none is are =
    stays-at given b old new result (subst (λ (k : Option PacketFault). NextAt k old new result) none is) are

few-at : (old new : Frames) (result : Result (Option HeldPacket) FrameFault) → NextAt None old new result
    → WaitsForMore new result
few-at old new (Ok None) is = subst (λ (f : Frames). length f.held < 65556) (sym is.1) (first-few old.held is.0)
few-at old new (Ok (Some packet)) is = tt
few-at old new (Err fault) is = tt

pub few-front : (old new : Frames) (result : Result (Option HeldPacket) FrameFault) → old.kept ≡ None
    → Nexts old new result → WaitsForMore new result
few-front old new result none is =
    few-at old new result (subst (λ (k : Option PacketFault). NextAt k old new result) none is)

-- bytes that come
grows-at : (k : Option PacketFault) (more b : List ℕ) (old new : Frames) → old.kept ≡ k → FedAt k more old new
    → GrowsBy more b old new
grows-at None more b old new kept (held, taken, after, room) =
    record {
      stream = λ none. ap (λ x. b ++ x) held ∙ sym (append_assoc b old.held more);
      kept = after ∙ sym kept;
      taken = taken;
    }
grows-at (Some fault) more b old new kept same =
    record {
      stream = λ none. absurd (cc (sym kept ∙ none));
      kept = ap (λ f. f.kept) same;
      taken = ap (λ f. f.taken) same;
    }

pub grows-by : (more b : List ℕ) (old new : Frames) → Feeds more old new → GrowsBy more b old new
grows-by more b old new is = grows-at old.kept more b old new refl is

-- the end of the stream
waits-at : (k : Option PacketFault) (front : Option (Decoded Cause × ℕ)) → (is_some k || is_some front) ≡ false
    → (k ≡ None) × (front ≡ None)
waits-at None None e = (refl, refl)
waits-at None (Some p) e = absurd (cc e)
waits-at (Some fault) front e = absurd (cc e)

-- a framer that isn't ready
pub waits : (f : Frames) → is_ready f ≡ false → (f.kept ≡ None) × (first f.held ≡ None)
waits f e = waits-at f.kept (first f.held) e

-- an answer that tells of the bytes held
abbrev pub Tells : Frames → Result Unit Truncated → Type 0
Tells f (Ok u) = length f.held ≡ 0
Tells f (Err t) = (t.start ≡ f.taken) × (t.held ≡ length f.held) × (1 ≤ t.held)

end-of : (b : List ℕ) (f : Frames) (result : Result Unit Truncated) → counted (length b) ≡ f.taken → Tells f result
    → EndOf (b ++ f.held) f.held result
end-of b f (Ok u) size tells = nil_from_length f.held tells
end-of b f (Err t) size (start, left, some) =
    let front : length (b ++ f.held) - length f.held ≡ length b = omega (arith, length-append b f.held) in
    (omega (arith, left, some), start ∙ sym size ∙ sym (ap counted front), left)

pub ends-with : (given : List Packet) (b : List ℕ) (f : Frames) (result : Result Unit Truncated) → is_ready f ≡ false
    → Tells f result → Taken given b f → EndsWith given (b ++ f.held) result
ends-with given b f result ready tells are =
    let is = stream-left given b f.held are.spelled (waits f ready).1 in
    record {
      stream = (f.held, is);
      ends = λ vs rest also.
          let one = one-stream (b ++ f.held) vs given rest f.held also is in
          (one.0, subst (λ (x : List ℕ). EndOf (b ++ f.held) x result) (sym one.1) (end-of b f result are.size tells));
    }
