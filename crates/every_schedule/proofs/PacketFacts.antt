-- What a packet that an end writes says to the other end.
use Rattle.std.proofs.Common.{◌≡◌, ℕ, zero, suc, ◌/◌, ◌%◌, ◌<◌, ◌≤◌, ◌⊎◌, inl, inr, Bool, true, false, ◌&&◌, ◌||◌, List, [], ◌∷◌, length, take, map, refl, sym, ap, ap₂, ◌∙◌, subst, arith}
use Rattle.std.specs.Prelude.{nat_eq, nat_le, if◌then◌else◌, All}
use Rattle.std.proofs.lemmas.Bool.{or_right, le-leb, leb-true}
use Rattle.cosim_model.specs.declared.values.Access.{Access}
use Rattle.cosim_model.specs.declared.values.Answer.{Answer}
use Rattle.cosim_model.specs.declared.values.Want.{Want}
use Rattle.cosim_model.specs.declared.values.Caps.{Caps}
use Rattle.cosim_model.specs.Values.{all_on, bits_of, bytes_of, le, from_bits, masked, padded, plain, plain_of, plain_read, plain_code}
use Rattle.cosim_model.specs.declared.values.Want.TheVariants.{Fetch, Store, Line}
use Rattle.cosim_model.specs.declared.values.Call.TheVariants as call
use Rattle.cosim_model.specs.Parts.{MasterModel, IsAccess, IsWant, IsMaster, IsSize, served}
use Rattle.cosim_model.specs.Packets.{BusFields, code_of, enabled, enables_of, is_enabled, count_from}
use Rattle.cosim_model.specs.Packets.Body.{Read, Write}
use Rattle.ends_model.specs.DeviceTurn.{is_device_size, access_from, want_body, reply_from, request_fields, answer_fields, with_code, fetched, bare_reply}
use Rattle.ends_model.specs.MachineTurn.{Service, access_fields, answer_from, serve_body, serve_read, serve_write, payload_of, if_call}
use Rattle.every_schedule.specs.Wires.{answer_body}
use Rattle.ends_model.specs.Traffic.{reply_body}
use Rattle.every_schedule.proofs.Base.{same_number}
use Rattle.every_schedule.proofs.Bytes.{le_bytes, bits_flags, length_flags, length_bytes, each_byte, bytes_le, length_kept, each_kept, kept_twice, enabled_same, take_padded, kept_all, all_enabled, padded_zeros}

-- No lane is disabled, or enables can be written.
abbrev pub IsClear : Caps → Access → Type 0
IsClear common a = (all_on (bits_of a.lanes a.size) ≡ true) ⊎ (common.base && common.enables ≡ true)

abbrev size_test : ℕ → Bool
size_test n = (nat_eq n 1 || (nat_eq n 2 || (nat_eq n 4 || nat_eq n 8))) && (nat_eq n 0 || nat_eq n n)

pub device_size : (common : Caps) (t : ℕ) (a : Access) → IsAccess a → is_device_size (access_fields common t a) ≡ true
device_size common t a la = go la.size
  where
    go : IsSize a.size → size_test a.size ≡ true
    go (inl e) = ap size_test e
    go (inr (inl e)) = ap size_test e
    go (inr (inr (inl e))) = ap size_test e
    go (inr (inr (inr e))) = ap size_test e

pub same_access : (common : Caps) (t : ℕ) (a : Access) → IsAccess a → IsClear common a → access_from a.write a.posted (access_fields common t a) ≡ a
same_access common t a la clear = λ d. record { write = a.write; posted = a.posted; addr = a.addr; size = a.size; value = value a.write refl d; lanes = lanes d }
  where
    value : (wr : Bool) → a.write ≡ wr → le (payload_of a a.write) ≡ a.value
    value true e = ap (λ w. le (payload_of a w)) e ∙ le_bytes a.size a.value la.value
    value false e = ap (λ w. le (payload_of a w)) e ∙ sym (la.read e)

    ons : List Bool
    ons = bits_of a.lanes a.size

    lanes : from_bits (enabled (access_fields common t a)) ≡ a.lanes
    lanes = ap from_bits (ap (λ n. map (is_enabled (enables_of common ons (all_on ons))) (count_from 0 n)) (sym (length_flags a.size a.lanes)) ∙ enabled_same common ons clear) ∙ bits_flags a.size a.lanes la.lanes

-- Codes within 4 bits.

pub small_code : (c : ℕ) → plain_code c ≤ 15
small_code c = go (nat_le c 15) refl
  where
    go : (b : Bool) → nat_le c 15 ≡ b → plain_code c ≤ 15
    go true e = subst (λ b. (if b then c else 1) ≤ 15) (sym e) (leb-true c 15 e)
    go false e = subst (λ b. (if b then c else 1) ≤ 15) (sym e) (omega arith)

kept_code : (c : ℕ) → c ≤ 15 → plain_code c ≡ c
kept_code c l = ap (λ b. if b then c else 1) (le-leb c 15 l)

pub code_written : (common : Caps) (time addr len n : ℕ) (payload payload' : List ℕ) (ons : List Bool) (c : ℕ) → c ≤ 15 → code_of (answer_fields (request_fields common time addr len payload ons) c n payload') ≡ c
code_written common time addr len n payload payload' ons c l = go common.base
  where
    go : (b : Bool) → ((with_code (if b then 4 else 0) c) / 256) % 16 ≡ c
    go true = omega arith
    go false = omega arith

pub same_answer : (common : Caps) (t : ℕ) (a : Access) (x : Answer) → IsAccess a → a.posted ≡ false → plain a (answer_from (answer_body (access_fields common t a) a.write (plain a x))) ≡ plain a x
same_answer common t a x la posted = by a.write refl
  where
    f : BusFields
    f = access_fields common t a

    writes : plain_of a true false (answer_from (answer_body f true (plain_of a true false x))) ≡ plain_of a true false x
    writes = ap (λ c. record { code = c; value = 0 }) (ap plain_code (code_written common t a.addr a.size a.size (payload_of a a.write) [] (bits_of a.lanes a.size) (plain_code x.code) (small_code x.code)) ∙ kept_code (plain_code x.code) (small_code x.code))

    ons : List Bool
    ons = bits_of a.lanes a.size

    bs : List ℕ
    bs = masked ons (bytes_of x.value a.size)

    len : length bs ≡ a.size
    len = length_kept ons (bytes_of x.value a.size) (length_flags a.size a.lanes ∙ sym (length_bytes a.size x.value)) ∙ length_bytes a.size x.value

    back : bytes_of (le bs) a.size ≡ bs
    back = ap (bytes_of (le bs)) (sym len) ∙ bytes_le bs (each_kept ons (bytes_of x.value a.size) (each_byte a.size x.value))

    value_back : le (masked ons (bytes_of (le (bytes_of (le bs) a.size)) a.size)) ≡ le bs
    value_back = ap (λ (v : List ℕ). le (masked ons (bytes_of (le v) a.size))) back ∙ ap (λ (v : List ℕ). le (masked ons v)) back ∙ ap le (kept_twice ons (bytes_of x.value a.size))

    codes : (y : Answer) → y.code ≤ 15 → plain_code (code_of (answer_fields f y.code f.len (bytes_of y.value f.len))) ≡ y.code
    codes y l = ap plain_code (code_written common t a.addr a.size a.size (payload_of a a.write) (bytes_of y.value a.size) (bits_of a.lanes a.size) y.code l) ∙ kept_code y.code l

    reads_by : (c : ℕ) → c ≤ 15 → plain_of a false false (answer_from (answer_body f false (plain_read a c x.value))) ≡ plain_read a c x.value
    reads_by zero l = ap (λ c. plain_read a c (le (bytes_of (le bs) a.size))) (codes (plain_read a zero x.value) (omega arith)) ∙ ap (λ v. record { code = 0; value = v }) value_back
    reads_by (suc c) l = ap (λ c'. plain_read a c' (le (bytes_of 0 a.size))) (codes (plain_read a (suc c) x.value) l)

    by : (wr : Bool) → a.write ≡ wr → plain a (answer_from (answer_body f a.write (plain a x))) ≡ plain a x
    by true e = ap₂ (λ w p. plain_of a w p (answer_from (answer_body f w (plain_of a w p x)))) e posted ∙ writes ∙ sym (ap₂ (λ w p. plain_of a w p x) e posted)
    by false e = ap₂ (λ w p. plain_of a w p (answer_from (answer_body f w (plain_of a w p x)))) e posted ∙ reads_by (plain_code x.code) (small_code x.code) ∙ sym (ap₂ (λ w p. plain_of a w p x) e posted)

-- A want that can be written in full.
abbrev pub IsClearWant : Caps → Want → Type 0
IsClearWant common v = (needs : Caps) × IsWant needs v × (needs.base && needs.enables ≡ true → common.base && common.enables ≡ true)

abbrev served_size : ℕ → Bool
served_size n = (nat_le 1 n && nat_le n 4096) && (nat_eq n 0 || nat_eq n n)

master_size : (n : ℕ) → 0 < n → n ≤ 64 → served_size n ≡ true
master_size n l l' = ap₂ ◌&&◌ (ap₂ ◌&&◌ (le-leb 1 n l) (le-leb n 4096 (omega arith))) (or_right (nat_eq n 0) (nat_eq n n) (same_number n))

pub same_service : {M : Type 0} (k : MasterModel M) → IsMaster k → (m : M) (common : Caps) (tick p due : ℕ) (v : Want) → IsClearWant common v → serve_body k m tick p (want_body common due v) ≡ record { master = (served k m v).0; calls = call.Served tick p due v (served k m v).1 ∷ []; answer = reply_body (served k m v).1 (want_body common due v) }
same_service {M} k laws m common tick p due (Fetch addr size) clear =
    ap (serve_read k m tick p f) (master_size size clear.1.0 clear.1.1)
    ∙ ap₂ (λ (b : Bool) (ps : List ℕ). reads b ps)
    (ap₂ ◌&&◌ (le-leb size 64 clear.1.1) (all_enabled size 0))
    (ap (λ n. masked (map (is_enabled []) (count_from 0 n)) bs) (sym len) ∙ kept_all bs 0 ∙ sym (take_padded bs size len clear.1.1))
  where
    f : BusFields
    f = request_fields common due addr size [] []

    bs : List ℕ
    bs = (k.read m addr size).1

    len : length bs ≡ size
    len = (laws.read_is m addr size).0

    reads : Bool → List ℕ → Service M
    reads b ps = record { master = m; calls = if_call b (call.Served tick p due (Fetch addr size) (record { code = (k.read m addr size).0; size = size; bytes = padded bs })); answer = Read (answer_fields f (k.read m addr size).0 size ps) }
same_service {M} k laws m common tick p due (Store addr size bytes mask) clear =
    ap (serve_write k m tick p f) (master_size size clear.1.0 clear.1.1)
    ∙ ap (λ (es : List Bool). writes (nat_le size 64) (padded (take size bytes)) (from_bits es) es) enabled_is
    ∙ (λ i. writes (le-leb size 64 clear.1.1 i) (sym clear.1.5 i) (bits_flags size mask clear.1.3 i) ons)
  where
    ons : List Bool
    ons = bits_of mask size

    f : BusFields
    f = request_fields common due addr size (take size bytes) ons

    writes : Bool → List ℕ → ℕ → List Bool → Service M
    writes b ps n es = record { master = (k.write m addr (take size bytes) es).0; calls = if_call b (call.Served tick p due (Store addr size ps n) (bare_reply (k.write m addr (take size bytes) es).1)); answer = Write (answer_fields f (k.write m addr (take size bytes) es).1 size []) }

    full : ((all_on ons ≡ true) ⊎ (clear.0.base && clear.0.enables ≡ true)) → (all_on ons ≡ true) ⊎ (common.base && common.enables ≡ true)
    full (inl e) = inl e
    full (inr e) = inr (clear.2 e)

    enabled_is : enabled f ≡ ons
    enabled_is = ap (λ n. map (is_enabled (enables_of common ons (all_on ons))) (count_from 0 n)) (sym (length_flags size mask)) ∙ enabled_same common ons (full clear.1.7)
same_service k laws m common tick p due (Line number true) clear = refl
same_service k laws m common tick p due (Line number false) clear = refl

pub same_reply : {M : Type 0} (k : MasterModel M) → IsMaster k → (m : M) (common : Caps) (due : ℕ) (v : Want) → IsClearWant common v → reply_from v (reply_body (served k m v).1 (want_body common due v)) ≡ (served k m v).1
same_reply k laws m common due (Fetch addr size) clear = by (laws.read_is m addr size).2
  where
    bs : List ℕ
    bs = (k.read m addr size).1

    c : ℕ
    c = (k.read m addr size).0

    len : length bs ≡ size
    len = (laws.read_is m addr size).0

    tb : List ℕ
    tb = take size (padded bs)

    code : c ≤ 15 → code_of (answer_fields (request_fields common due addr size [] []) c size tb) ≡ c
    code l = code_written common due addr size size [] tb [] c l

    by : (c ≡ 0) ⊎ ((c ≡ 2) × All (λ b. b ≡ 0) bs) → fetched size (code_of (answer_fields (request_fields common due addr size [] []) c size tb)) tb ≡ record { code = c; size = size; bytes = padded bs }
    by (inl e) = ap (λ n. fetched size n tb) (code (omega arith) ∙ e) ∙ (λ i. record { code = sym e i; size = size; bytes = padded (take_padded bs size len clear.1.1 i) })
    by (inr e) = ap (λ n. fetched size n tb) (code (let e0 = e.0 in omega arith) ∙ e.0) ∙ (λ i. record { code = sym e.0 i; size = size; bytes = sym (padded_zeros bs (let l = clear.1.1 in let e1 = len in omega arith) e.1) i })
same_reply k laws m common due (Store addr size bytes mask) clear = ap bare_reply (code_written common due addr size size (take size bytes) [] (bits_of mask size) (k.write m addr (take size bytes) (bits_of mask size)).1 (small (laws.write_is m addr (take size bytes) (bits_of mask size))))
  where
    small : ((k.write m addr (take size bytes) (bits_of mask size)).1 ≡ 0) ⊎ ((k.write m addr (take size bytes) (bits_of mask size)).1 ≡ 2) → (k.write m addr (take size bytes) (bits_of mask size)).1 ≤ 15
    small (inl e) = omega arith
    small (inr e) = omega arith
same_reply k laws m common due (Line number level) clear = refl
