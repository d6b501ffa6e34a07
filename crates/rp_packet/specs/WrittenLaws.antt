-- The bytes that are written for a value that fits spell that value.
use Rattle.std.proofs.Common.{◌≡◌, inl, inr, ℕ, zero, suc, ◌+◌, ◌*◌, ◌/◌, ◌%◌, ◌-◌, ◌^◌, ◌<◌, ◌≤◌, Bool, true, false, List, [], ◌∷◌, ◌++◌, length, take, drop, refl, sym, ap, ◌∙◌, arith, subst}
use Rattle.std.specs.Prelude.{not, ◌&&◌, nat_lt, nat_eq, if◌then◌else◌, Some, None}
use Rattle.std.proofs.Math.Seq.{take-append_seam}
use Rattle.std.proofs.lemmas.List.{append-nil, length-append, length-drop, drop-append-le, take-append-le}
use Rattle.std.proofs.lemmas.Bool.Decides.{nat_tests}
use Rattle.cosim_model.specs.Packets.{BusFields, carries, is_extended}
use Rattle.rp_header.specs.Numbers.{be, field, IsNumberAt}
use Rattle.rp_header.specs.NumberLaws.{length-be, number_at, IsNumberAt-front, IsNumberAt-behind, drop-behind}
use Rattle.rp_control.specs.Controls.{AreWords, IsHello, IsCfg, IsInterrupt, IsSync, caps_bytes, hello_bytes, cfg_bytes, interrupt_bytes, sync_bytes}
use Rattle.rp_control.specs.ControlLaws.{length-caps_bytes}
use Rattle.rp_busaccess.specs.Buses.{data_count, AreApart, IsStart, IsOld, StandsAt, IsPart, IsExtended}
use Rattle.rp_busaccess.specs.Writing.{start_bytes, more_bytes, bus_size, enables_place, write_fault}
use Rattle.rp_busaccess.specs.declared.fault.WriteFault.{WriteFault}
use Rattle.rp_busaccess.specs.declared.fault.WriteFault.TheVariants as fault
use Rattle.rp_packet.specs.Spelling.{BusFits}
use Rattle.rp_packet.specs.WritingLaws.{length-hello_bytes, length-start, length-more}

-- a number in bytes stays where more follow
pub more-behind : (place k n : ℕ) (b rest : List ℕ) → place + k ≤ length b → IsNumberAt place k n b → IsNumberAt place k n (b ++ rest)
more-behind place k n b rest within at = record {
  fits = at.fits;
  bytes = ap (take k) (drop-append-le place b rest (omega arith))
      ∙ take-append-le k (drop place b) rest (omega (arith, length-drop place b)) ∙ at.bytes;
}

pub sync-written : (time : ℕ) → time < 2 ^ 64 → IsSync time (sync_bytes time)
sync-written time fits = record {
  long = omega (arith, length-be time 8);
  time_at = subst (λ (b : List ℕ). IsNumberAt 0 8 time b) (append-nil (be time 8)) (IsNumberAt-front 8 time [] fits);
}

pub cfg-written : (opt set : ℕ) → opt < 2 ^ 32 → set < 2 ^ 8 → IsCfg opt set (cfg_bytes opt set)
cfg-written opt set fo fs = record {
  long = omega (arith, length-append (be opt 4) (be set 1 ++ []), length-append (be set 1) [], length-be opt 4, length-be set 1);
  opt_at = IsNumberAt-front 4 opt (be set 1 ++ []) fo;
  set_at = IsNumberAt-behind (be opt 4) 4 0 1 set (be set 1 ++ []) (length-be opt 4) (IsNumberAt-front 1 set [] fs);
}

pub interrupt-written : (time vector line val : ℕ) → time < 2 ^ 64 → vector < 2 ^ 64 → line < 2 ^ 32 → val < 2 ^ 8 → IsInterrupt time vector line val (interrupt_bytes time vector line val)
interrupt-written time vector line val ft fv fl fw =
    let end : List ℕ = be val 1 ++ [] in
    let third : List ℕ = be line 4 ++ end in
    let second : List ℕ = be vector 8 ++ third in
    record {
      long = omega (
        arith,
        length-append (be time 8) second,
        length-append (be vector 8) third,
        length-append (be line 4) end,
        length-append (be val 1) [],
        length-be time 8,
        length-be vector 8,
        length-be line 4,
        length-be val 1,
      );
      time_at = IsNumberAt-front 8 time second ft;
      vector_at = IsNumberAt-behind (be time 8) 8 0 8 vector second (length-be time 8) (IsNumberAt-front 8 vector third fv);
      line_at = IsNumberAt-behind (be time 8) 8 8 4 line second (length-be time 8) (IsNumberAt-behind (be vector 8) 8 0 4 line third (length-be vector 8) (IsNumberAt-front 4 line end fl));
      val_at = IsNumberAt-behind (be time 8) 8 12 1 val second (length-be time 8) (IsNumberAt-behind (be vector 8) 8 4 1 val third (length-be vector 8)
          (IsNumberAt-behind (be line 4) 4 0 1 val end (length-be line 4) (IsNumberAt-front 1 val [] fw)));
    }

pub hello-written : (major minor : ℕ) (caps : List ℕ) → major < 2 ^ 16 → minor < 2 ^ 16 → AreWords caps → length caps ≤ 16381 → IsHello major minor caps (hello_bytes major minor caps)
hello-written major minor caps fa fi words few =
    let end : List ℕ = caps_bytes caps ++ [] in
    let fifth : List ℕ = be 0 2 ++ end in
    let fourth : List ℕ = be (length caps) 2 ++ fifth in
    let third : List ℕ = be 32 4 ++ fourth in
    let second : List ℕ = be minor 2 ++ third in
    let body : List ℕ = be major 2 ++ second in
    let size = length-hello_bytes major minor caps in
    let offset_at = IsNumberAt-behind (be major 2) 2 2 4 32 second (length-be major 2) (IsNumberAt-behind (be minor 2) 2 0 4 32 third (length-be minor 2) (IsNumberAt-front 4 32 fourth (omega arith))) in
    let count_at = IsNumberAt-behind (be major 2) 2 6 2 (length caps) second (length-be major 2) (IsNumberAt-behind (be minor 2) 2 4 2 (length caps) third (length-be minor 2)
    (IsNumberAt-behind (be 32 4) 4 0 2 (length caps) fourth (length-be 32 4) (IsNumberAt-front 2 (length caps) fifth (omega arith)))) in
    let offset : field 24 4 body ≡ 32 = number_at 4 4 32 body offset_at in
    let parts : drop 12 body ≡ end =
    drop-behind (be major 2) 2 10 second (length-be major 2) ∙ drop-behind (be minor 2) 2 8 third (length-be minor 2) ∙ drop-behind (be 32 4) 4 4 fourth (length-be 32 4)
    ∙ drop-behind (be (length caps) 2) 2 2 fifth (length-be (length caps) 2) ∙ drop-behind (be 0 2) 2 0 end (length-be 0 2) in
    let own : take (4 * length caps) end ≡ caps_bytes caps = ap (λ n. take n end) (sym (length-caps_bytes caps)) ∙ take-append_seam (caps_bytes caps) [] in
    record {
      major_at = IsNumberAt-front 2 major second fa;
      minor_at = IsNumberAt-behind (be major 2) 2 0 2 minor second (length-be major 2) (IsNumberAt-front 2 minor third fi);
      words = words;
      caps_at = inr (
        omega (arith, size),
        count_at,
        inr (record {
          behind = omega (arith, offset);
          within = omega (arith, offset, size);
          bytes = ap (λ n. take (4 * length caps) (drop (n - 20) body)) offset ∙ ap (take (4 * length caps)) parts ∙ own;
        }),
      );
    }

pub start-written : (f : BusFields) (rest : List ℕ) → BusFits f → IsStart f (start_bytes f ++ rest)
start-written f rest fits =
    let low : ℕ = f.master % 65536 in
    let low_fits : low < 65536 = omega arith in
    let p7 : List ℕ = be low 2 ++ [] in
    let p6 : List ℕ = be f.stream_width 4 ++ p7 in
    let p5 : List ℕ = be f.width 4 ++ p6 in
    let p4 : List ℕ = be f.len 4 ++ p5 in
    let p3 : List ℕ = be f.addr 8 ++ p4 in
    let p2 : List ℕ = be f.attributes 8 ++ p3 in
    let b : List ℕ = start_bytes f in
    let size = length-start f in
    let skip1 = length-be f.time 8 in let skip2 = length-be f.attributes 8 in let skip3 = length-be f.addr 8 in
    let skip4 = length-be f.len 4 in let skip5 = length-be f.width 4 in let skip6 = length-be f.stream_width 4 in
    record {
      time_at = more-behind 0 8 f.time b rest (omega (arith, size)) (IsNumberAt-front 8 f.time p2 fits.0);
      attributes_at = more-behind 8 8 f.attributes b rest (omega (arith, size)) (IsNumberAt-behind (be f.time 8) 8 0 8 f.attributes p2 skip1 (IsNumberAt-front 8 f.attributes p3 fits.1));
      addr_at = more-behind 16 8 f.addr b rest (omega (arith, size)) (IsNumberAt-behind (be f.time 8) 8 8 8 f.addr p2 skip1 (IsNumberAt-behind (be f.attributes 8) 8 0 8 f.addr p3 skip2 (IsNumberAt-front 8 f.addr p4 fits.2)));
      len_at = more-behind 24 4 f.len b rest (omega (arith, size)) (IsNumberAt-behind (be f.time 8) 8 16 4 f.len p2 skip1 (IsNumberAt-behind (be f.attributes 8) 8 8 4 f.len p3 skip2
          (IsNumberAt-behind (be f.addr 8) 8 0 4 f.len p4 skip3 (IsNumberAt-front 4 f.len p5 fits.3))));
      width_at = more-behind 28 4 f.width b rest (omega (arith, size)) (IsNumberAt-behind (be f.time 8) 8 20 4 f.width p2 skip1 (IsNumberAt-behind (be f.attributes 8) 8 12 4 f.width p3 skip2
          (IsNumberAt-behind (be f.addr 8) 8 4 4 f.width p4 skip3 (IsNumberAt-behind (be f.len 4) 4 0 4 f.width p5 skip4 (IsNumberAt-front 4 f.width p6 fits.4)))));
      stream_width_at = more-behind 32 4 f.stream_width b rest (omega (arith, size)) (IsNumberAt-behind (be f.time 8) 8 24 4 f.stream_width p2 skip1 (IsNumberAt-behind (be f.attributes 8) 8 16 4 f.stream_width p3 skip2
          (IsNumberAt-behind (be f.addr 8) 8 8 4 f.stream_width p4 skip3 (IsNumberAt-behind (be f.len 4) 4 4 4 f.stream_width p5 skip4 (IsNumberAt-behind (be f.width 4) 4 0 4 f.stream_width p6 skip5 (IsNumberAt-front 4 f.stream_width p7 fits.5))))));
      low_at = more-behind 36 2 low b rest (omega (arith, size)) (IsNumberAt-behind (be f.time 8) 8 28 2 low p2 skip1 (IsNumberAt-behind (be f.attributes 8) 8 20 2 low p3 skip2
          (IsNumberAt-behind (be f.addr 8) 8 12 2 low p4 skip3 (IsNumberAt-behind (be f.len 4) 4 8 2 low p5 skip4 (IsNumberAt-behind (be f.width 4) 4 4 2 low p6 skip5
          (IsNumberAt-behind (be f.stream_width 4) 4 0 2 low p7 skip6 (IsNumberAt-front 2 low [] low_fits)))))));
    }

-- what a value that is written has
old-none : (x : Bool) (master : ℕ) → (not x && nat_lt 65535 master) ≡ false → x ≡ false → master < 65536
old-none x master test is = grind (arith, nat_tests)

pub record IsWritten (carries : Bool) (f : BusFields) : Type 0 where
  pub narrow : is_extended f ≡ false → f.master < 65536
  pub counted : length f.payload ≡ data_count carries f
  pub none_enabled : is_extended f ≡ false → length f.enables ≡ 0
  pub size : bus_size f ≤ 65536

write-none : (a b d g : Bool) (m w o n l : WriteFault) →
    (if a then Some m else (if b then Some w else (if d then Some n else (if g then Some l else None)))) ≡ None → (a ≡ false) × (b ≡ false) × (d ≡ false) × (g ≡ false)
write-none true b d g m w o n l e = absurd (cc (e))
write-none false true d g m w o n l e = absurd (cc (e))
write-none false false true g m w o n l e = absurd (cc (e))
write-none false false false true m w o n l e = absurd (cc (e))
write-none false false false false m w o n l e = (refl, refl, refl, refl)

same-count : (m n : ℕ) → not (nat_eq m n) ≡ false → m ≡ n
same-count m n test = grind (arith, nat_tests)

no-count : (x : Bool) (n : ℕ) → (not x && nat_lt 0 n) ≡ false → x ≡ false → n ≡ 0
no-count x n test is = grind (arith, nat_tests)

at-most : (m n : ℕ) → nat_lt m n ≡ false → n ≤ m
at-most m n test = grind (arith, nat_tests)

pub is-written : (carries : Bool) (f : BusFields) → write_fault carries f ≡ None → IsWritten carries f
is-written carries f e =
    let tests = write-none (not (is_extended f) && nat_lt 65535 f.master) (not (nat_eq (length f.payload) (data_count carries f))) (not (is_extended f) && nat_lt 0 (length f.enables))
    (nat_lt 65536 (bus_size f)) (fault.MasterTooWide f.master) (fault.DataCount (data_count carries f) (length f.payload)) (fault.TooLong 0) (fault.EnablesInOld (length f.enables)) (fault.TooLong (bus_size f)) e in
    record {
      narrow = old-none (is_extended f) f.master tests.0;
      counted = same-count (length f.payload) (data_count carries f) tests.1;
      none_enabled = no-count (is_extended f) (length f.enables) tests.2;
      size = at-most 65536 (bus_size f) tests.3;
    }

empty : (b : List ℕ) → length b ≡ 0 → b ≡ []
empty [] e = refl
empty (x ∷ xs) e = absurd (omega (arith, e))

pub old-written : (carries : Bool) (f : BusFields) → is_extended f ≡ false → IsWritten carries f → IsOld carries f (start_bytes f ++ (f.payload ++ []))
old-written carries f is written =
    let all = length-append (start_bytes f) (f.payload ++ []) in
    let part = length-append f.payload [] in
    record {
      old = is;
      narrow = written.narrow is;
      none_enabled = empty f.enables (written.none_enabled is);
      within = omega (arith, all, part, length-start f, written.counted);
      payload = sym (ap (take (data_count carries f)) (drop-behind (start_bytes f) 38 0 (f.payload ++ []) (length-start f))
          ∙ ap (λ n. take n (f.payload ++ [])) (sym written.counted) ∙ take-append_seam f.payload []);
    }

is-part : (place count : ℕ) (part body : List ℕ) → count ≡ length part → (0 < count → StandsAt place count part body) → IsPart place count part body
is-part place zero part body is stands = inl (refl, empty part (sym is))
is-part place (suc n) part body is stands = inr (omega arith, stands (omega arith))

some-test : (n : ℕ) → 0 < n → nat_eq n 0 ≡ false
some-test n some = grind (arith, nat_tests)

choice-lt : (t : Bool) (n : ℕ) → n ≤ 65536 → (if t then 0 else 80 + n) < 2 ^ 32
choice-lt true n most = omega arith
choice-lt false n most = omega arith

apart-written : (count offset enables enable_count size : ℕ) {wanted : ℕ} → enable_count ≡ wanted → size ≡ count → offset ≡ 80 → (0 < wanted → enables ≡ 80 + size) → AreApart offset count enables enable_count
apart-written count offset enables zero size is same at place = inr (inl refl)
apart-written count offset enables (suc n) size is same at place = let p = place (omega (arith, is)) in inr (inr (inl (omega (arith, p, same, at))))

place-of-enables : (f : BusFields) → 0 < length f.enables → enables_place f ≡ 80 + length f.payload
place-of-enables f some = ap (λ t. if t then 0 else 80 + length f.payload) (some-test (length f.enables) some)

pub enables-place-lt : (f : BusFields) → 60 + length f.payload + length f.enables ≤ 65536 → enables_place f < 2 ^ 32
enables-place-lt f size = choice-lt (nat_eq (length f.enables) 0) (length f.payload) (omega arith)

pub extended-written : (carries : Bool) (f : BusFields) → is_extended f ≡ true → BusFits f → length f.payload ≡ data_count carries f → 60 + length f.payload + length f.enables ≤ 65536 →
    IsExtended carries f (start_bytes f ++ (more_bytes f ++ (f.payload ++ (f.enables ++ []))))
extended-written carries f is fits counted size =
    let middle : ℕ = f.master / 65536 % 65536 in
    let high : ℕ = f.master / 4294967296 in
    let master_fits = fits.6 in
    let place : ℕ = enables_place f in
    let count : ℕ = length f.enables in
    let p6 : List ℕ = be count 4 ++ [] in
    let p5 : List ℕ = be place 4 ++ p6 in
    let p4 : List ℕ = be 0 4 ++ p5 in
    let p3 : List ℕ = be 80 4 ++ p4 in
    let p2 : List ℕ = be high 4 ++ p3 in
    let end : List ℕ = f.enables ++ [] in
    let rest : List ℕ = f.payload ++ end in
    let more : List ℕ = more_bytes f in
    let body : List ℕ = start_bytes f ++ (more ++ rest) in
    let more_size = length-more f in
    let start_size = length-start f in
    let total : length body ≡ 60 + length f.payload + length f.enables =
    omega (arith, start_size, more_size, length-append (start_bytes f) (more ++ rest), length-append more rest, length-append f.payload end, length-append f.enables []) in
    let skip1 = length-be middle 2 in let skip2 = length-be high 4 in let skip3 = length-be 80 4 in let skip4 = length-be 0 4 in let skip5 = length-be place 4 in
    let middle_in = IsNumberAt-front 2 middle p2 (omega arith) in
    let high_in = IsNumberAt-behind (be middle 2) 2 0 4 high p2 skip1 (IsNumberAt-front 4 high p3 (omega arith)) in
    let offset_in = IsNumberAt-behind (be middle 2) 2 4 4 80 p2 skip1 (IsNumberAt-behind (be high 4) 4 0 4 80 p3 skip2 (IsNumberAt-front 4 80 p4 (omega arith))) in
    let place_in = IsNumberAt-behind (be middle 2) 2 12 4 place p2 skip1 (IsNumberAt-behind (be high 4) 4 8 4 place p3 skip2 (IsNumberAt-behind (be 80 4) 4 4 4 place p4 skip3
    (IsNumberAt-behind (be 0 4) 4 0 4 place p5 skip4 (IsNumberAt-front 4 place p6 (enables-place-lt f size))))) in
    let count_in = IsNumberAt-behind (be middle 2) 2 16 4 count p2 skip1 (IsNumberAt-behind (be high 4) 4 12 4 count p3 skip2 (IsNumberAt-behind (be 80 4) 4 8 4 count p4 skip3
    (IsNumberAt-behind (be 0 4) 4 4 4 count p5 skip4 (IsNumberAt-behind (be place 4) 4 0 4 count p6 skip5 (IsNumberAt-front 4 count [] (omega arith)))))) in
    let offset : field 64 4 body ≡ 80 = number_at 44 4 80 body (IsNumberAt-behind (start_bytes f) 38 6 4 80 (more ++ rest) start_size (more-behind 6 4 80 more rest (omega (arith, more_size)) offset_in)) in
    let place_is : field 72 4 body ≡ place = number_at 52 4 place body (IsNumberAt-behind (start_bytes f) 38 14 4 place (more ++ rest) start_size (more-behind 14 4 place more rest (omega (arith, more_size)) place_in)) in
    let count_is : field 76 4 body ≡ count = number_at 56 4 count body (IsNumberAt-behind (start_bytes f) 38 18 4 count (more ++ rest) start_size (more-behind 18 4 count more rest (omega (arith, more_size)) count_in)) in
    let behind : drop 60 body ≡ rest = drop-behind (start_bytes f) 38 22 (more ++ rest) start_size ∙ drop-behind more 22 0 rest more_size in
    let after : (p : ℕ) → p ≡ 80 + length f.payload → drop (p - 20) body ≡ end = λ p e.
    let q : p - 20 ≡ 38 + (22 + (length f.payload + 0)) = omega (arith, e) in
    ap (λ n. drop n body) q ∙ drop-behind (start_bytes f) 38 (22 + (length f.payload + 0)) (more ++ rest) start_size
    ∙ drop-behind more 22 (length f.payload + 0) rest more_size ∙ drop-behind f.payload (length f.payload) 0 end refl in
    record {
      extended = is;
      fits = master_fits;
      long = omega (arith, total);
      middle_at = IsNumberAt-behind (start_bytes f) 38 0 2 middle (more ++ rest) start_size (more-behind 0 2 middle more rest (omega (arith, more_size)) middle_in);
      high_at = IsNumberAt-behind (start_bytes f) 38 2 4 high (more ++ rest) start_size (more-behind 2 4 high more rest (omega (arith, more_size)) high_in);
      payload = is-part (field 64 4 body) (data_count carries f) f.payload body (sym counted) (λ some. record {
        behind = omega (arith, offset);
        within = omega (arith, offset, total, counted);
        bytes = sym (ap (λ n. take (data_count carries f) (drop (n - 20) body)) offset ∙ ap (take (data_count carries f)) behind
            ∙ ap (λ n. take n rest) (sym counted) ∙ take-append_seam f.payload end);
      });
      enabled = is-part (field 72 4 body) (field 76 4 body) f.enables body count_is (λ some.
          let at = place-of-enables f (omega (arith, count_is, some)) in
          record {
            behind = omega (arith, place_is, at);
            within = omega (arith, place_is, at, count_is, total);
            bytes = sym (ap (take (field 76 4 body)) (after (field 72 4 body) (place_is ∙ at)) ∙ ap (λ n. take n end) count_is ∙ take-append_seam f.enables []);
          });
      apart = apart-written (data_count carries f) (field 64 4 body) (field 72 4 body) (field 76 4 body) (length f.payload) count_is counted offset (λ some. place_is ∙ place-of-enables f some);
    }
