-- A line is that of one packet at most: what stands in it can be taken in one way alone.
use Rattle.std.proofs.Common.{◌≡◌, ℕ, ◌^◌, ◌<◌, ◌≤◌, List, [], ◌∷◌, ◌++◌, map, decimal, Some, refl, sym, ap, ◌∙◌, arith, true, false, Result, Ok}
use Rattle.std.specs.Fmt.{digits}
use Rattle.std.proofs.lemmas.Fmt.{decimal_injective}
use Rattle.cosim_model.specs.Packets.{Packet, Body, BusFields, command_of}
use Rattle.cosim_model.specs.Packets.Body.{Nop, Hello, Cfg, Read, Write, Interrupt, Sync}
use Rattle.hex.specs.Hex.{encode_lower, decode_pairs, lower_digits}
use Rattle.hex.specs.declared.error.FromHexError.{FromHexError}
use Rattle.hex.proofs.HexLemmas.{decode_pairs-encode_with, IsDigits-lower_digits}
use Rattle.rp_control.specs.Controls.{AreWords}
use Rattle.rp_header.specs.Numbers.{AreBytes}
use Rattle.rp_packet.specs.Spelling.{BusFits, BodyFits}
use Rattle.rp_packet.specs.declared.packet.Tag.{Tag}
use Rattle.cos_text.specs.Numbers.{hex_text}
use Rattle.rp_text.specs.Texts.{bytes_text, name_of, spaced, bus_words, body_words, packet_text, HoldsBytes, IsPackable}
use Rattle.rp_text.specs.Words.{no_blank, left}
use Rattle.rp_text.specs.Reading.{TakesWord, TakesNumber, TakesHex, TakesBytes, TakesTag, TakesCaps, TakesBus, TakesBody}
use Rattle.rp_text.proofs.Cuts.{cut-word, cut-of}
use Rattle.rp_text.proofs.Digits.{no_blank-decimal, no_blank-hex}
use Rattle.cos_text.proofs.Digits.{is-hex}
use Rattle.rp_text.proofs.Decoded.{no_blank-bytes, no-bytes}
use Rattle.rp_text.proofs.Takes.{takes-word, takes-number, takes-hex, takes-bytes, some-same}
use Rattle.rp_text.proofs.Caps.{words-tail}
use Rattle.rp_text.proofs.Bodies.{takes-tag, takes-bus, takes-nop, takes-hello, takes-cfg, takes-read, takes-write, takes-interrupt, takes-sync}
use Rattle.rp_text.proofs.Named.{line-exact, front-named, no_blank-name, names-apart}

word-there : (w : List ℕ) (ws : List (List ℕ)) → no_blank w ≡ true → TakesWord (Some (spaced (w ∷ ws))) (Some w) (Some (spaced ws))
word-there w ws none =
    let cut = cut-word w ws none in takes-word (Some (spaced (w ∷ ws))) (w ++ spaced ws) w (spaced ws) refl (sym cut.front) (sym cut.back)

number-there : (most n : ℕ) (ws : List (List ℕ)) → most < 2 ^ 64 → n ≤ most → TakesNumber most (Some (spaced (decimal n ∷ ws))) (Some (spaced ws)) n
number-there most n ws limit small =
    takes-number most (Some (spaced (decimal n ∷ ws))) (Some (spaced ws)) (decimal n) n limit (word-there (decimal n) ws (no_blank-decimal n (omega arith))) small refl
    (λ m le same. decimal_injective n m (omega arith) (omega arith) same)

same-hex : (m n : ℕ) → m < 2 ^ 64 → n < 2 ^ 64 → hex_text m ≡ hex_text n → m ≡ n
same-hex m n first second same = sym (is-hex (hex_text m) (digits 16 false m) m first refl refl).value ∙ (is-hex (hex_text m) (digits 16 false m) n second same refl).value

hex-there : (n : ℕ) (ws : List (List ℕ)) → n < 2 ^ 64 → TakesHex (Some (spaced (hex_text n ∷ ws))) (Some (spaced ws)) n
hex-there n ws small =
    takes-hex (Some (spaced (hex_text n ∷ ws))) (Some (spaced ws)) (hex_text n) n (word-there (hex_text n) ws (no_blank-hex n small)) small refl
    (λ m fits same. same-hex n m small fits same)

ok-same : (xs ys : List ℕ) → let P : Result (List ℕ) FromHexError → Result (List ℕ) FromHexError → Type 0 = λ a b. a ≡ b in P (Ok xs) (Ok ys) → xs ≡ ys
ok-same xs ys e = cc (e)

same-digits : (xs ys : List ℕ) → AreBytes xs → AreBytes ys → encode_lower xs ≡ encode_lower ys → xs ≡ ys
same-digits xs ys left right same =
    ok-same xs ys (sym (decode_pairs-encode_with lower_digits IsDigits-lower_digits 0 xs left.each) ∙ ap (decode_pairs 0) same ∙ decode_pairs-encode_with lower_digits IsDigits-lower_digits 0 ys right.each)

same-bytes : (xs ys : List ℕ) → AreBytes xs → AreBytes ys → bytes_text xs ≡ bytes_text ys → xs ≡ ys
same-bytes [] ys left right same = sym (no-bytes (bytes_text ys) ys refl (sym same))
same-bytes (x ∷ xs) [] left right same = no-bytes (bytes_text (x ∷ xs)) (x ∷ xs) refl same
same-bytes (x ∷ xs) (y ∷ ys) left right same = same-digits (x ∷ xs) (y ∷ ys) left right same

bytes-there : (bs : List ℕ) (ws : List (List ℕ)) → AreBytes bs → TakesBytes (Some (spaced (bytes_text bs ∷ ws))) (Some (spaced ws)) bs
bytes-there bs ws each =
    takes-bytes (Some (spaced (bytes_text bs ∷ ws))) (Some (spaced ws)) (bytes_text bs) bs (word-there (bytes_text bs) ws (no_blank-bytes bs each)) each refl
    (λ cs all same. same-bytes bs cs each all same)

same-caps : (ms ns : List ℕ) → AreWords ms → AreWords ns → spaced (map decimal ms) ≡ spaced (map decimal ns) → ms ≡ ns
same-caps [] [] left right same = refl
same-caps [] (n ∷ ns) left right same = cc (same)
same-caps (m ∷ ms) [] left right same = cc (same)
same-caps (m ∷ ms) (n ∷ ns) left right same =
    let small = left.each 0 in
    let too = right.each 0 in
    let there = number-there 4294967295 m (map decimal ms) (omega arith) (omega arith) in
    let one = there.exact n (map decimal ns) (omega arith) (ap (λ (x : List ℕ). Some x) same) in
    ap (λ x. x ∷ ms) one.0 ∙ ap (λ xs. n ∷ xs) (same-caps ms ns (words-tail m ms left) (words-tail n ns right) (some-same _ _ one.1))

caps-there : (caps : List ℕ) → AreWords caps → TakesCaps (Some (spaced (map decimal caps))) (Some []) caps
caps-there caps words = record {
  each = words;
  read = λ e. refl;
  exact = λ ns all same. (same-caps caps ns words all (some-same _ _ same), refl);
}

bus-there : (f : BusFields) → BusFits f → AreBytes f.payload → AreBytes f.enables → TakesBus (Some (spaced (bus_words f))) (Some []) f
bus-there f fits payload enables =
    let w9 : List (List ℕ) = [] in
    let w8 : List (List ℕ) = bytes_text f.enables ∷ w9 in
    let w7 : List (List ℕ) = bytes_text f.payload ∷ w8 in
    let w6 : List (List ℕ) = decimal f.master ∷ w7 in
    let w5 : List (List ℕ) = decimal f.stream_width ∷ w6 in
    let w4 : List (List ℕ) = decimal f.width ∷ w5 in
    let w3 : List (List ℕ) = decimal f.len ∷ w4 in
    let w2 : List (List ℕ) = hex_text f.addr ∷ w3 in
    let w1 : List (List ℕ) = hex_text f.attributes ∷ w2 in
    takes-bus (Some (spaced (bus_words f))) (Some (spaced w1)) (Some (spaced w2)) (Some (spaced w3)) (Some (spaced w4)) (Some (spaced w5)) (Some (spaced w6)) (Some (spaced w7)) (Some (spaced w8)) (Some (spaced w9)) f
    (number-there 18446744073709551615 f.time w1 (omega arith) (let h = fits.0 in omega arith)) (hex-there f.attributes w2 fits.1) (hex-there f.addr w3 fits.2)
    (number-there 4294967295 f.len w4 (omega arith) (let h = fits.3 in omega arith)) (number-there 4294967295 f.width w5 (omega arith) (let h = fits.4 in omega arith))
    (number-there 4294967295 f.stream_width w6 (omega arith) (let h = fits.5 in omega arith)) (number-there 18446744073709551615 f.master w7 (omega arith) (let h = fits.6 in omega arith))
    (bytes-there f.payload w8 payload) (bytes-there f.enables w9 enables)

body-there : (b : Body) → BodyFits b → HoldsBytes b → TakesBody (command_of b) (Some (spaced (body_words b))) (Some []) b
body-there Nop fits bytes = takes-nop (Some [])
body-there (Hello major minor caps) fits bytes =
    takes-hello (Some (spaced (decimal major ∷ decimal minor ∷ map decimal caps))) (Some (spaced (decimal minor ∷ map decimal caps))) (Some (spaced (map decimal caps))) (Some []) major minor caps
    (number-there 65535 major (decimal minor ∷ map decimal caps) (omega arith) (let h = fits.0 in omega arith)) (number-there 65535 minor (map decimal caps) (omega arith) (let h = fits.1 in omega arith)) (caps-there caps fits.2)
body-there (Cfg opt set) fits bytes =
    takes-cfg (Some (spaced (decimal opt ∷ decimal set ∷ []))) (Some (spaced (decimal set ∷ []))) (Some []) opt set
    (number-there 4294967295 opt (decimal set ∷ []) (omega arith) (let h = fits.0 in omega arith)) (number-there 255 set [] (omega arith) (let h = fits.1 in omega arith))
body-there (Read f) fits bytes = takes-read (Some (spaced (bus_words f))) (Some []) f (bus-there f fits bytes.0 bytes.1)
body-there (Write f) fits bytes = takes-write (Some (spaced (bus_words f))) (Some []) f (bus-there f fits bytes.0 bytes.1)
body-there (Interrupt time vector line val) fits bytes =
    takes-interrupt (Some (spaced (decimal time ∷ decimal vector ∷ decimal line ∷ decimal val ∷ []))) (Some (spaced (decimal vector ∷ decimal line ∷ decimal val ∷ []))) (Some (spaced (decimal line ∷ decimal val ∷ []))) (Some (spaced (decimal val ∷ []))) (Some []) time vector line val
    (number-there 18446744073709551615 time (decimal vector ∷ decimal line ∷ decimal val ∷ []) (omega arith) (let h = fits.0 in omega arith)) (number-there 18446744073709551615 vector (decimal line ∷ decimal val ∷ []) (omega arith) (let h = fits.1 in omega arith))
    (number-there 4294967295 line (decimal val ∷ []) (omega arith) (let h = fits.2 in omega arith)) (number-there 255 val [] (omega arith) (let h = fits.3 in omega arith))
body-there (Sync time) fits bytes = takes-sync (Some (spaced (decimal time ∷ []))) (Some []) time (number-there 18446744073709551615 time [] (omega arith) (omega (arith, fits)))

tag-there : (t : Tag) (ws : List (List ℕ)) → t.id < 2 ^ 32 → t.flags < 2 ^ 32 → t.dev < 2 ^ 32 → TakesTag (Some (spaced (decimal t.id ∷ decimal t.flags ∷ decimal t.dev ∷ ws))) (Some (spaced ws)) t
tag-there t ws id flags dev =
    takes-tag (Some (spaced (decimal t.id ∷ decimal t.flags ∷ decimal t.dev ∷ ws))) (Some (spaced (decimal t.flags ∷ decimal t.dev ∷ ws))) (Some (spaced (decimal t.dev ∷ ws))) (Some (spaced ws)) t
    (number-there 4294967295 t.id (decimal t.flags ∷ decimal t.dev ∷ ws) (omega arith) (omega arith)) (number-there 4294967295 t.flags (decimal t.dev ∷ ws) (omega arith) (omega arith)) (number-there 4294967295 t.dev ws (omega arith) (omega arith))

pub one-line : (v w : Packet) → IsPackable v → IsPackable w → packet_text v ≡ packet_text w → v ≡ w
one-line v w first second same =
    let t : Tag = record { id = v.id; flags = v.flags; dev = v.dev } in
    let words : List (List ℕ) = decimal v.id ∷ decimal v.flags ∷ decimal v.dev ∷ body_words v.body in
    let fits = first.fits in
    let cut = cut-of (packet_text v) (name_of (command_of v.body)) words (no_blank-name (command_of v.body)) refl in
    let named = names-apart (command_of v.body) (command_of w.body) (front-named w (packet_text v) (name_of (command_of v.body)) same (sym cut.0)) in
    (line-exact v w (packet_text v) (name_of (command_of v.body)) (spaced words) (command_of v.body) t (Some (spaced words)) (Some (spaced (body_words v.body))) (Some []) refl second same
    (sym cut.0) (sym cut.1) named refl (tag-there t (body_words v.body) fits.0 fits.1 fits.2) (body-there v.body fits.3 first.bytes)).0
