-- How long the written bodies are, and that no rule stands for want of memory.
use Rattle.std.proofs.Common.{◌≡◌, inl, inr, ℕ, ◌+◌, ◌*◌, ◌/◌, ◌%◌, ◌<◌, ◌≤◌, Bool, true, false, List, [], ◌∷◌, ◌++◌, length, refl, ap, ◌∙◌, arith}
use Rattle.std.specs.Prelude.{not, ◌&&◌, nat_lt, nat_eq, if◌then◌else◌, Some, None}
use Rattle.std.proofs.lemmas.List.{length-append, append_assoc}
use Rattle.std.proofs.lemmas.Bool.Decides.{nat_tests, leb_tells}
use Rattle.cosim_model.specs.Packets.{BusFields, is_extended}
use Rattle.std.specs.List.{concat}
use Rattle.rp_header.specs.Numbers.{be}
use Rattle.rp_header.specs.NumberLaws.{length-be}
use Rattle.rp_header.specs.Headers.{header_bytes}
use Rattle.rp_control.specs.Controls.{hello_bytes, caps_bytes}
use Rattle.rp_control.specs.ControlLaws.{length-caps_bytes}
use Rattle.rp_busaccess.specs.Buses.{data_count}
use Rattle.rp_busaccess.specs.Writing.{start_bytes, more_bytes, bus_bytes, bus_size, enables_place, write_fault}
use Rattle.rp_busaccess.specs.declared.fault.WriteFault.{WriteFault}
use Rattle.rp_busaccess.specs.declared.fault.WriteFault.TheVariants as write
use Rattle.rp_packet.specs.Writing.{IsWriteFault}

piece : (a b : List ℕ) (m n : ℕ) → length a ≡ m → length b ≡ n → length (a ++ b) ≡ m + n
piece a b m n is_a is_b = length-append a b ∙ ap (λ x. x + length b) is_a ∙ ap (λ x. m + x) is_b

pub length-hello_bytes : (major minor : ℕ) (caps : List ℕ) → length (hello_bytes major minor caps) ≡ 12 + 4 * length caps
length-hello_bytes major minor caps =
    let caps_size : length (caps_bytes caps ++ []) ≡ 4 * length caps + 0 = piece (caps_bytes caps) [] _ 0 (length-caps_bytes caps) refl in
    let all = piece (be major 2) _ 2 _ (length-be major 2) (piece (be minor 2) _ 2 _ (length-be minor 2) (piece (be 32 4) _ 4 _ (length-be 32 4)
    (piece (be (length caps) 2) _ 2 _ (length-be (length caps) 2) (piece (be 0 2) _ 2 _ (length-be 0 2) caps_size)))) in
    omega (arith, all)

pub length-start : (f : BusFields) → length (start_bytes f) ≡ 38
length-start f =
    piece (be f.time 8) _ 8 30 (length-be f.time 8) (piece (be f.attributes 8) _ 8 22 (length-be f.attributes 8) (piece (be f.addr 8) _ 8 14 (length-be f.addr 8)
    (piece (be f.len 4) _ 4 10 (length-be f.len 4) (piece (be f.width 4) _ 4 6 (length-be f.width 4) (piece (be f.stream_width 4) _ 4 2 (length-be f.stream_width 4)
    (piece (be (f.master % 65536) 2) [] 2 0 (length-be (f.master % 65536) 2) refl))))))

pub length-more : (f : BusFields) → length (more_bytes f) ≡ 22
length-more f =
    piece (be (f.master / 65536 % 65536) 2) _ 2 20 (length-be (f.master / 65536 % 65536) 2) (piece (be (f.master / 4294967296) 4) _ 4 16 (length-be (f.master / 4294967296) 4)
    (piece (be 80 4) _ 4 12 (length-be 80 4) (piece (be 0 4) _ 4 8 (length-be 0 4) (piece (be (enables_place f) 4) _ 4 4 (length-be (enables_place f) 4)
    (piece (be (length f.enables) 4) [] 4 0 (length-be (length f.enables) 4) refl)))))

length-laid : (x : Bool) (f : BusFields) →
    length (if x then concat (start_bytes f ∷ more_bytes f ∷ f.payload ∷ f.enables ∷ []) else concat (start_bytes f ∷ f.payload ∷ []))
    ≡ (if x then 60 + length f.payload + length f.enables else 38 + length f.payload)
length-laid true f =
    let all = piece (start_bytes f) _ 38 _ (length-start f) (piece (more_bytes f) _ 22 _ (length-more f) (piece f.payload _ (length f.payload) _ refl (piece f.enables [] (length f.enables) 0 refl refl))) in
    omega (arith, all)
length-laid false f =
    let all = piece (start_bytes f) _ 38 _ (length-start f) (piece f.payload [] (length f.payload) 0 refl refl) in
    omega (arith, all)

pub length-bus_bytes : (f : BusFields) → length (bus_bytes f) ≡ bus_size f
length-bus_bytes f = length-laid (is_extended f) f

pub length-header : (cmd len id flags dev : ℕ) → length (header_bytes cmd len id flags dev) ≡ 20
length-header cmd len id flags dev =
    piece (be cmd 4 ++ be len 4 ++ be id 4 ++ be flags 4) (be dev 4) 16 4 (piece (be cmd 4 ++ be len 4 ++ be id 4) (be flags 4) 12 4
    (piece (be cmd 4 ++ be len 4) (be id 4) 8 4 (piece (be cmd 4) (be len 4) 4 4 (length-be cmd 4) (length-be len 4)) (length-be id 4)) (length-be flags 4)) (length-be dev 4)

pub length-packet : (cmd len id flags dev : ℕ) (body : List ℕ) → length (header_bytes cmd len id flags dev ++ body) ≡ 20 + length body
length-packet cmd len id flags dev body = piece (header_bytes cmd len id flags dev) body 20 (length body) (length-header cmd len id flags dev) refl

-- a reserve that failed had not the room
not-both : {A : Type 0} → false ≡ true → A
not-both e = absurd (cc (e))

pub no-room : {X : Type 0} (need spare : ℕ) → (need ≤ spare → (false ≡ true) × X) → spare < need
no-room need spare fits =
    elim (leb_tells need spare) as (λ _. spare < need) [ inl enough ↦ not-both (fits enough.1).0 | inr lacks ↦ lacks.1 ]

pub appended : (old reserved pushed written header put body : List ℕ) → written ≡ pushed ++ body → pushed ≡ reserved ++ put → put ≡ header → reserved ≡ old → written ≡ old ++ (header ++ body)
appended old reserved pushed written header put body is_written is_pushed is_put is_reserved =
    is_written ∙ ap (λ x. x ++ body) (is_pushed ∙ ap (λ x. reserved ++ x) is_put ∙ ap (λ x. x ++ header) is_reserved) ∙ append_assoc old header body

few-enough : (count : ℕ) → count ≤ 16381 → nat_lt 16381 count ≡ false
few-enough count few = grind (arith, nat_tests)

pub short-hello : (count : ℕ) (f : WriteFault) → count ≤ 16381 → (if nat_lt 16381 count then Some f else None) ≡ None
short-hello count f few = ap (λ t. if t then Some f else None) (few-enough count few)

chain-fault : (a b d g : Bool) (m w o n l : ℕ) (bytes : List ℕ) (spare : ℕ) (e : WriteFault) →
    (if a then Some (write.MasterTooWide m) else (if b then Some (write.DataCount w o) else (if d then Some (write.EnablesInOld n) else (if g then Some (write.TooLong l) else None)))) ≡ Some e →
    IsWriteFault bytes (if a then Some (write.MasterTooWide m) else (if b then Some (write.DataCount w o) else (if d then Some (write.EnablesInOld n) else (if g then Some (write.TooLong l) else None)))) spare e
chain-fault a b d g m w o n l bytes spare (write.MasterTooWide x) is = is
chain-fault a b d g m w o n l bytes spare (write.DataCount x y) is = is
chain-fault a b d g m w o n l bytes spare (write.EnablesInOld x) is = is
chain-fault a b d g m w o n l bytes spare (write.TooLong x) is = is
chain-fault true b d g m w o n l bytes spare write.NoMemory is = absurd (cc (is))
chain-fault false true d g m w o n l bytes spare write.NoMemory is = absurd (cc (is))
chain-fault false false true g m w o n l bytes spare write.NoMemory is = absurd (cc (is))
chain-fault false false false true m w o n l bytes spare write.NoMemory is = absurd (cc (is))
chain-fault false false false false m w o n l bytes spare write.NoMemory is = absurd (cc (is))

pub bus-fault : (carries : Bool) (f : BusFields) (bytes : List ℕ) (spare : ℕ) (e : WriteFault) → write_fault carries f ≡ Some e → IsWriteFault bytes (write_fault carries f) spare e
bus-fault carries f bytes spare e is =
    chain-fault (not (is_extended f) && nat_lt 65535 f.master) (not (nat_eq (length f.payload) (data_count carries f))) (not (is_extended f) && nat_lt 0 (length f.enables))
    (nat_lt 65536 (bus_size f)) f.master (data_count carries f) (length f.payload) (length f.enables) (bus_size f) bytes spare e is
