-- The line of each kind of call, and when a call has one.
use Rattle.std.specs.Prelude.{ℕ, ◌≤◌, Bool, true, false, if◌then◌else◌, nat_eq, List, [], ◌∷◌, ◌++◌, take, codes, decimal}
use Rattle.std.specs.List.{concat}
use Rattle.hex.specs.Hex.{encode_lower}
use Rattle.cosim_model.specs.declared.values.Access.{Access}
use Rattle.cosim_model.specs.declared.values.Answer.{Answer}
use Rattle.cosim_model.specs.declared.values.Call.{Call}
use Rattle.cosim_model.specs.declared.values.Call.TheVariants as call
use Rattle.cosim_model.specs.declared.values.Reply.{Reply}
use Rattle.cosim_model.specs.declared.values.Want.{Want}
use Rattle.cosim_model.specs.declared.values.Want.TheVariants.{Fetch, Store, Line}
use Rattle.cosim_model.specs.Values.{no_bytes}
use Rattle.cos_text.specs.Numbers.{hexadecimal}

-- when a call was made, at which port, what it did, and the bytes that it is about
abbrev pub place_text : ℕ → ℕ → List ℕ → ℕ → ℕ → List ℕ
place_text tick port name addr size = concat (
    codes "@" ∷ decimal tick ∷ codes " p" ∷ decimal port ∷ codes " " ∷ name ∷ codes " 0x" ∷ hexadecimal addr ∷ codes "+"
    ∷ decimal size ∷ [])

-- what was read, or is written
abbrev pub value_text : ℕ → List ℕ
value_text value = codes " = 0x" ++ hexadecimal value

-- the code that was answered, which ends a line
abbrev pub code_text : ℕ → List ℕ
code_text code = concat (codes " code " ∷ decimal code ∷ codes "\n" ∷ [])

-- by whether it is a write, and whether it is posted
abbrev pub access_line : Bool → Bool → ℕ → ℕ → Access → Answer → List ℕ
access_line false posted tick port a x = place_text tick port (codes "read") a.addr a.size ++ value_text x.value
    ++ code_text x.code
access_line true false tick port a x = place_text tick port (codes "write") a.addr a.size ++ value_text a.value
    ++ code_text x.code
access_line true true tick port a x = place_text tick port (codes "post") a.addr a.size ++ value_text a.value
    ++ codes "\n"

-- What a reply shows of the bytes read: zeros where its code isn't 0.
abbrev pub shown_bytes : Reply → List ℕ
shown_bytes r = take r.size (if nat_eq r.code 0 then r.bytes else no_bytes)

-- when a want arose, and what stands before its bytes
abbrev pub due_text : ℕ → List ℕ
due_text due = concat (codes " due " ∷ decimal due ∷ codes " = " ∷ [])

-- the bytes that are enabled
abbrev pub mask_text : ℕ → List ℕ
mask_text mask = codes " mask 0x" ++ hexadecimal mask

abbrev pub want_line : ℕ → ℕ → ℕ → Want → Reply → List ℕ
want_line tick port due (Fetch addr size) r = place_text tick port (codes "fetch") addr size ++ due_text due
    ++ encode_lower (shown_bytes r) ++ code_text r.code
want_line tick port due (Store addr size bytes mask) r = place_text tick port (codes "store") addr size ++ due_text due
    ++ encode_lower (take size bytes)
    ++ mask_text mask ++ code_text r.code
want_line tick port due (Line line level) r = concat (
    codes "@" ∷ decimal tick ∷ codes " p" ∷ decimal port ∷ codes " line " ∷ decimal line ∷ codes " = "
    ∷ decimal (if level then 1 else 0)
    ∷ codes " due " ∷ decimal due ∷ codes "\n" ∷ [])

abbrev pub call_text : Call → List ℕ
call_text (call.Access tick port a x) = access_line a.write a.posted tick port a x
call_text (call.Served tick port due w r) = want_line tick port due w r

-- A call has a line where the sizes in its want and its reply are at most 64.

abbrev pub IsShort : Want → Type 0
IsShort (Fetch addr size) = size ≤ 64
IsShort (Store addr size bytes mask) = size ≤ 64
IsShort (Line line level) = Unit {0}

abbrev pub HasLine : Call → Type 0
HasLine (call.Access tick port a x) = Unit {0}
HasLine (call.Served tick port due w r) = IsShort w × (r.size ≤ 64)

-- What a call's line has at most, in bytes.
abbrev pub call_room : Call → ℕ
call_room (call.Access tick port a x) = 137
call_room (call.Served tick port due w r) = 296
