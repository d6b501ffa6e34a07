-- What the ends write fits into packets.
use Rattle.std.proofs.Common.{◌≡◌, ℕ, zero, suc, ◌^◌, ◌<◌, ◌≤◌, ◌⊎◌, inl, inr, Bool, true, false, ◌&&◌, List, [], ◌∷◌, ◌++◌, length, take, map, refl, sym, ap, ◌∙◌, subst, arith}
use Rattle.std.specs.Prelude.{if◌then◌else◌, All}
use Rattle.std.proofs.lemmas.List.{length-map}
use Rattle.cosim_model.specs.declared.values.Access.{Access}
use Rattle.cosim_model.specs.declared.values.Answer.{Answer}
use Rattle.cosim_model.specs.declared.values.Want.{Want}
use Rattle.cosim_model.specs.declared.values.Caps.{Caps}
use Rattle.cosim_model.specs.Values.{all_on, bits_of, bytes_of, padded, plain, plain_of, plain_read, plain_code}
use Rattle.cosim_model.specs.declared.values.Want.TheVariants.{Fetch, Store, Line}
use Rattle.cosim_model.specs.Parts.{MasterModel, IsAccess, IsWant, IsMaster, IsSize, IsByte, served}
use Rattle.cosim_model.specs.Packets.{FitsLayout, Packet, IsBus, IsWritable, is_response, attributes_of, is_extended, enables_of, enables_if, enable_byte}
use Rattle.cosim_model.specs.Packets.Body.{Sync}
use Rattle.cosim_model.specs.Sessions.{request_flags, next_number}
use Rattle.ends_model.specs.DeviceTurn.{want_body, request_fields, answer_fields, with_code, level_of}
use Rattle.ends_model.specs.MachineTurn.{access_body, access_fields, payload_of}
use Rattle.every_schedule.specs.Wires.{Wire, answer_body}
use Rattle.ends_model.specs.Traffic.{reply_body}
use Rattle.every_schedule.proofs.Lists.{Each}
use Rattle.every_schedule.proofs.Bytes.{length_bytes, each_byte, length_flags, take_padded}
use Rattle.every_schedule.proofs.Takes.{packet}
use Rattle.every_schedule.proofs.PacketFacts.{small_code}
use Rattle.every_schedule.proofs.Tails.{IsReplyBody}
use Rattle.every_schedule.proofs.Gathers.{request_packet}

pub each_all : {A : Type 0} (P : A → Type 0) (xs : List A) → Each P xs → All P xs
each_all P [] a k d l = absurd (omega arith)
each_all P (x ∷ xs) a zero d l = a.0
each_all P (x ∷ xs) a (suc k) d l = each_all P xs a.1 k d (omega arith)

all_each : {A : Type 0} (P : A → Type 0) (xs : List A) → All P xs → Each P xs
all_each P [] a = tt
all_each P (x ∷ xs) a = (a 0 x (omega arith), all_each P xs (λ k d l. a (suc k) d (omega arith)))

each_take : {A : Type 0} (P : A → Type 0) (n : ℕ) (xs : List A) → Each P xs → Each P (take n xs)
each_take P zero xs a = tt
each_take P (suc n) [] a = tt
each_take P (suc n) (x ∷ xs) a = (a.0, each_take P n xs a.1)

len_take : {A : Type 0} (n : ℕ) (xs : List A) → n ≤ length xs → length (take n xs) ≡ n
len_take zero xs l = refl
len_take (suc n) [] l = absurd (omega arith)
len_take (suc n) (x ∷ xs) l = ap suc (len_take n xs (omega arith))

each_on : (ons : List Bool) → Each (λ b. b < 256) (map enable_byte ons)
each_on [] = tt
each_on (true ∷ ons) = ((omega arith), each_on ons)
each_on (false ∷ ons) = ((omega arith), each_on ons)

enables_fit : (common : Caps) (ons : List Bool) (b : Bool) → Each (λ b. b < 256) (enables_of common ons b) × (length (enables_of common ons b) ≤ length ons)
enables_fit common ons true = (tt, (omega arith))
enables_fit common ons false = go (common.base && common.enables)
  where
    go : (c : Bool) → Each (λ b. b < 256) (enables_if ons c) × (length (enables_if ons c) ≤ length ons)
    go true = (each_on ons, (let e = length-map ons enable_byte in omega arith))
    go false = (tt, (omega arith))

not_extended : (common : Caps) (time addr len : ℕ) (payload : List ℕ) (ons : List Bool) → is_extended (request_fields common time addr len payload ons) ≡ false → enables_of common ons (all_on ons) ≡ []
not_extended common time addr len payload ons e = go common.base common.enables (all_on ons) e
  where
    go : (b en c : Bool) → is_extended (record (request_fields common time addr len payload ons) { attributes = if b then 4 else 0 }) ≡ false → enables_of (record { base = b; enables = en; posted = common.posted }) ons c ≡ []
    go b en true e = refl
    go false en false e = refl
    go true en false e = absurd (true_false e)
      where
        true_false : true ≡ false → ⊥
        true_false e = cc

attributes_fit : (common : Caps) → attributes_of common < 2 ^ 64
attributes_fit common = go common.base
  where
    go : (b : Bool) → ◌<◌ (if b then 4 else 0) (2 ^ 64)
    go true = omega arith
    go false = omega arith

coded_fit : (common : Caps) (c : ℕ) → c ≤ 15 → with_code (attributes_of common) c < 2 ^ 64
coded_fit common c l = go common.base
  where
    go : (b : Bool) → with_code (if b then 4 else 0) c < 2 ^ 64
    go true = omega arith
    go false = omega arith

bus_request : (c : Bool) (common : Caps) (time addr len : ℕ) (payload : List ℕ) (ons : List Bool) → time < 2 ^ 64 → addr < 2 ^ 64 → len ≤ 64 → length payload ≡ (if c then len else 0) → Each (λ b. b < 256) payload → length payload ≤ 64 → length ons ≤ 64 → IsBus c (request_fields common time addr len payload ons)
bus_request c common time addr len payload ons t a l p b pl o =
    let e = enables_fit common ons (all_on ons) in
    (t, attributes_fit common, a, (omega arith), (omega arith), (omega arith), (omega arith), p, each_all (λ b. b < 256) payload b, each_all (λ b. b < 256) (enables_of common ons (all_on ons)) e.0, layout (is_extended (request_fields common time addr len payload ons)) refl)
  where
    layout : (x : Bool) → is_extended (request_fields common time addr len payload ons) ≡ x → FitsLayout x (request_fields common time addr len payload ons)
    layout true e = let n = (enables_fit common ons (all_on ons)).1 in omega arith
    layout false e = ((omega arith), not_extended common time addr len payload ons e, (omega arith))

bus_answer : (c : Bool) (common : Caps) (time addr len : ℕ) (payload : List ℕ) (ons : List Bool) (code : ℕ) (back : List ℕ) → time < 2 ^ 64 → addr < 2 ^ 64 → len ≤ 64 → code ≤ 15 → length back ≡ (if c then len else 0) → Each (λ b. b < 256) back → length back ≤ 64 → IsBus c (answer_fields (request_fields common time addr len payload ons) code len back)
bus_answer c common time addr len payload ons code back t a l cd p b pl =
    (t, coded_fit common code cd, a, (omega arith), (omega arith), (omega arith), (omega arith), p, each_all (λ b. b < 256) back b, each_all (λ b. b < 256) [] tt, layout (is_extended (answer_fields (request_fields common time addr len payload ons) code len back)))
  where
    layout : (x : Bool) → FitsLayout x (answer_fields (request_fields common time addr len payload ons) code len back)
    layout true = omega arith
    layout false = ((omega arith), refl, (omega arith))

size_fits : (n : ℕ) → IsSize n → n ≤ 8
size_fits n (inl e) = omega arith
size_fits n (inr (inl e)) = omega arith
size_fits n (inr (inr (inl e))) = omega arith
size_fits n (inr (inr (inr e))) = omega arith

pub request_fits : (wr po : Bool) (common : Caps) (id t : ℕ) (b : Access) → id < 2 ^ 32 → t < 2 ^ 64 → IsAccess (record b { write = wr; posted = po }) → IsWritable (packet id (request_flags po) (access_body common t (record b { write = wr; posted = po })))
request_fits true true common id t b i u la = (i, (omega arith), (omega arith), bus_request true common t b.addr b.size (bytes_of b.value b.size) (bits_of b.lanes b.size) u la.addr (let s = size_fits b.size la.size in omega arith) (length_bytes b.size b.value) (each_byte b.size b.value) (let s = size_fits b.size la.size in let n = length_bytes b.size b.value in omega arith) (let s = size_fits b.size la.size in let n = length_flags b.size b.lanes in omega arith))
request_fits true false common id t b i u la = (i, (omega arith), (omega arith), bus_request true common t b.addr b.size (bytes_of b.value b.size) (bits_of b.lanes b.size) u la.addr (let s = size_fits b.size la.size in omega arith) (length_bytes b.size b.value) (each_byte b.size b.value) (let s = size_fits b.size la.size in let n = length_bytes b.size b.value in omega arith) (let s = size_fits b.size la.size in let n = length_flags b.size b.lanes in omega arith))
request_fits false po common id t b i u la = by po
  where
    by : (po : Bool) → IsWritable (packet id (request_flags po) (access_body common t (record b { write = false; posted = po })))
    by true = (i, (omega arith), (omega arith), bus_request false common t b.addr b.size [] (bits_of b.lanes b.size) u la.addr (let s = size_fits b.size la.size in omega arith) refl tt (omega arith) (let s = size_fits b.size la.size in let n = length_flags b.size b.lanes in omega arith))
    by false = (i, (omega arith), (omega arith), bus_request false common t b.addr b.size [] (bits_of b.lanes b.size) u la.addr (let s = size_fits b.size la.size in omega arith) refl tt (omega arith) (let s = size_fits b.size la.size in let n = length_flags b.size b.lanes in omega arith))

code_fits : (a : Access) (x : Answer) → (plain a x).code ≤ 15
code_fits a x = go a.write a.posted
  where
    reads : (c : ℕ) → c ≤ 15 → (plain_read a c x.value).code ≤ 15
    reads zero l = omega arith
    reads (suc c) l = l

    go : (w p : Bool) → (plain_of a w p x).code ≤ 15
    go true true = omega arith
    go true false = small_code x.code
    go false p = reads (plain_code x.code) (small_code x.code)

pub answer_fits : (wr : Bool) (common : Caps) (id t : ℕ) (a : Access) (x : Answer) → id < 2 ^ 32 → t < 2 ^ 64 → IsAccess a → IsWritable (packet id 2 (answer_body (access_fields common t a) wr (plain a x)))
answer_fits true common id t a x i u la = (i, (omega arith), (omega arith), bus_answer false common t a.addr a.size (payload_of a a.write) (bits_of a.lanes a.size) (plain a x).code [] u la.addr (let s = size_fits a.size la.size in omega arith) (code_fits a x) refl tt (omega arith))
answer_fits false common id t a x i u la = (i, (omega arith), (omega arith), bus_answer true common t a.addr a.size (payload_of a a.write) (bits_of a.lanes a.size) (plain a x).code (bytes_of (plain a x).value a.size) u la.addr (let s = size_fits a.size la.size in omega arith) (code_fits a x) (length_bytes a.size (plain a x).value) (each_byte a.size (plain a x).value) (let s = size_fits a.size la.size in let n = length_bytes a.size (plain a x).value in omega arith))

pub sync_fits : (id flags t : ℕ) → id < 2 ^ 32 → flags < 2 ^ 32 → t < 2 ^ 64 → IsWritable (packet id flags (Sync t))
sync_fits id flags t i f u = (i, f, (omega arith), u)

pub want_fits : (common needs : Caps) (id due : ℕ) (v : Want) (a : Bool) → id < 2 ^ 32 → due < 2 ^ 64 → IsWant needs v → IsWritable (request_packet common id due v a)
want_fits common needs id due (Fetch addr size) true i u w = (i, (omega arith), (omega arith), bus_request false common due addr size [] [] u w.2 w.1 refl tt (omega arith) (omega arith))
want_fits common needs id due (Fetch addr size) false i u w = (i, (omega arith), (omega arith), bus_request false common due addr size [] [] u w.2 w.1 refl tt (omega arith) (omega arith))
want_fits common needs id due (Store addr size bytes mask) a i u w = by a
  where
    len : length (take size bytes) ≡ size
    len = len_take size bytes (let e = w.4 in let l = w.1 in omega arith)

    fits : IsBus true (request_fields common due addr size (take size bytes) (bits_of mask size))
    fits = bus_request true common due addr size (take size bytes) (bits_of mask size) u w.2 w.1 len (each_take IsByte size bytes (all_each IsByte bytes w.6)) (let e = len in let l = w.1 in omega arith) (let e = length_flags size mask in let l = w.1 in omega arith)

    by : (a : Bool) → IsWritable (request_packet common id due (Store addr size bytes mask) a)
    by true = (i, (omega arith), (omega arith), fits)
    by false = (i, (omega arith), (omega arith), fits)
want_fits common needs id due (Line number level) a i u w = by a
  where
    level_fits : (b : Bool) → level_of b < 2 ^ 8
    level_fits true = omega arith
    level_fits false = omega arith

    by : (a : Bool) → IsWritable (request_packet common id due (Line number level) a)
    by true = (i, (omega arith), (omega arith), (u, (omega arith), w, level_fits level))
    by false = (i, (omega arith), (omega arith), (u, (omega arith), w, level_fits level))

pub reply_fits : {M : Type 0} (k : MasterModel M) → IsMaster k → (m : M) (common needs : Caps) (id due : ℕ) (v : Want) → id < 2 ^ 32 → due < 2 ^ 64 → IsWant needs v → IsWritable (packet id 2 (reply_body (served k m v).1 (want_body common due v)))
reply_fits k laws m common needs id due (Fetch addr size) i u w = (i, (omega arith), (omega arith), bus_answer true common due addr size [] [] (k.read m addr size).0 (take size (padded bs)) u w.2 w.1 (small is.2) (ap length same ∙ is.0) (subst (Each (λ b. b < 256)) (sym same) (all_each IsByte bs is.1)) (let e = ap length same in let n = is.0 in let l = w.1 in omega arith))
  where
    bs : List ℕ
    bs = (k.read m addr size).1

    is : (length (k.read m addr size).1 ≡ size) × All IsByte (k.read m addr size).1 × (((k.read m addr size).0 ≡ 0) ⊎ (((k.read m addr size).0 ≡ 2) × All (λ b. b ≡ 0) (k.read m addr size).1))
    is = laws.read_is m addr size

    same : take size (padded bs) ≡ bs
    same = take_padded bs size is.0 w.1

    small : ((k.read m addr size).0 ≡ 0) ⊎ (((k.read m addr size).0 ≡ 2) × All (λ b. b ≡ 0) (k.read m addr size).1) → (k.read m addr size).0 ≤ 15
    small (inl e) = omega arith
    small (inr e) = let f = e.0 in omega arith
reply_fits k laws m common needs id due (Store addr size bytes mask) i u w = (i, (omega arith), (omega arith), bus_answer false common due addr size (take size bytes) (bits_of mask size) (k.write m addr (take size bytes) (bits_of mask size)).1 [] u w.2 w.1 (small (laws.write_is m addr (take size bytes) (bits_of mask size))) refl tt (omega arith))
  where
    small : ((k.write m addr (take size bytes) (bits_of mask size)).1 ≡ 0) ⊎ ((k.write m addr (take size bytes) (bits_of mask size)).1 ≡ 2) → (k.write m addr (take size bytes) (bits_of mask size)).1 ≤ 15
    small (inl e) = omega arith
    small (inr e) = omega arith
reply_fits k laws m common needs id due (Line number level) i u w = (i, (omega arith), (omega arith), (u, (omega arith), w, level_fits level))
  where
    level_fits : (b : Bool) → level_of b < 2 ^ 8
    level_fits true = omega arith
    level_fits false = omega arith

pub number_fits : (n : ℕ) → next_number n < 2 ^ 32
number_fits n = omega arith

-- What goes out ends with a sync and answers of the device's requests.
abbrev pub IsSyncPacket : Packet → Type 0
IsSyncPacket p = (is_response p ≡ false) × ((t : ℕ) × (p.body ≡ Sync t))

abbrev pub IsReplyPacket : Packet → Type 0
IsReplyPacket p = (is_response p ≡ true) × IsReplyBody p.body

abbrev pub HasTail : {S : Type 0} → Wire S → Type 0
HasTail w = (pre : List Packet) × (s : Packet) × (reps : List Packet) × (w.out ≡ pre ++ s ∷ reps) × IsSyncPacket s × Each IsReplyPacket reps

-- What crosses a port can be written.
abbrev pub IsSpelt : {S : Type 0} → Wire S → Type 0
IsSpelt w = Each IsWritable w.out × Each IsWritable w.back × (w.next < 2 ^ 32) × (w.asks < 2 ^ 32) × (w.sync_id < 2 ^ 32)

pub one_more : (ps : List Packet) (m : Packet) → Each IsWritable ps → IsWritable m → Each IsWritable (ps ++ m ∷ [])
one_more [] m a w = (w, tt)
one_more (p ∷ ps) m a w = (a.0, one_more ps m a.1 w)
