-- The words of each kind of packet, taken one by one.
use Rattle.std.proofs.Common.{◌≡◌, ℕ, List, [], ◌∷◌, map, decimal, Option, Some, refl, ap, ◌∙◌, arith}
use Rattle.cosim_model.specs.Packets.{Body, BusFields, command_of}
use Rattle.cosim_model.specs.Packets.Body.{Nop, Hello, Cfg, Read, Write, Interrupt, Sync}
use Rattle.cosim_model.specs.declared.session.Command.TheVariants as command
use Rattle.rp_packet.specs.declared.packet.Tag.{Tag}
use Rattle.rp_packet.specs.Spelling.{BodyFits}
use Rattle.cos_text.specs.Numbers.{hex_text}
use Rattle.rp_text.specs.Texts.{bytes_text, spaced, body_words, HoldsBytes}
use Rattle.rp_text.specs.Reading.{TakesNumber, TakesHex, TakesBytes, TakesTag, TakesCaps, TakesBus, TakesBody}

abbrev tag-of : ℕ → ℕ → ℕ → Tag
tag-of id flags dev = record { id = id; flags = flags; dev = dev }

same-tag : (s t : Tag) → s.id ≡ t.id → s.flags ≡ t.flags → s.dev ≡ t.dev → s ≡ t
same-tag s t a b c =
    ap (λ (x : ℕ). tag-of x s.flags s.dev) a ∙ ap (λ (x : ℕ). tag-of t.id x s.dev) b ∙ ap (λ (x : ℕ). tag-of t.id t.flags x) c

pub takes-tag : (o0 o1 o2 o3 : Option (List ℕ)) (tag : Tag) → TakesNumber 4294967295 o0 o1 tag.id → TakesNumber 4294967295 o1 o2 tag.flags → TakesNumber 4294967295 o2 o3 tag.dev → TakesTag o0 o3 tag
takes-tag o0 o1 o2 o3 tag a b c = record {
  id_fits = let small = a.small in omega arith;
  flags_fit = let small = b.small in omega arith;
  dev_fits = let small = c.small in omega arith;
  read = λ ws e. a.read _ (b.read _ (c.read (spaced ws) e));
  exact = λ t ws id_fits flags_fit dev_fits is.
      let one = a.exact t.id (decimal t.flags ∷ decimal t.dev ∷ ws) (omega arith) is in
      let two = b.exact t.flags (decimal t.dev ∷ ws) (omega arith) one.1 in
      let three = c.exact t.dev ws (omega arith) two.1 in
      (same-tag tag t one.0 two.0 three.0, three.1);
}

abbrev fields-from : (time attributes addr len width stream_width master : ℕ) (payload enables : List ℕ) → BusFields
fields-from time attributes addr len width stream_width master payload enables =
    record { time = time; attributes = attributes; addr = addr; len = len; width = width; stream_width = stream_width; master = master; payload = payload; enables = enables }

same-fields : (f g : BusFields) → f.time ≡ g.time → f.attributes ≡ g.attributes → f.addr ≡ g.addr → f.len ≡ g.len → f.width ≡ g.width → f.stream_width ≡ g.stream_width → f.master ≡ g.master → f.payload ≡ g.payload → f.enables ≡ g.enables → f ≡ g
same-fields f g e1 e2 e3 e4 e5 e6 e7 e8 e9 =
    ap (λ (x : ℕ). fields-from x f.attributes f.addr f.len f.width f.stream_width f.master f.payload f.enables) e1 ∙ ap (λ (x : ℕ). fields-from g.time x f.addr f.len f.width f.stream_width f.master f.payload f.enables) e2 ∙ ap (λ (x : ℕ). fields-from g.time g.attributes x f.len f.width f.stream_width f.master f.payload f.enables) e3 ∙ ap (λ (x : ℕ). fields-from g.time g.attributes g.addr x f.width f.stream_width f.master f.payload f.enables) e4 ∙ ap (λ (x : ℕ). fields-from g.time g.attributes g.addr g.len x f.stream_width f.master f.payload f.enables) e5 ∙ ap (λ (x : ℕ). fields-from g.time g.attributes g.addr g.len g.width x f.master f.payload f.enables) e6 ∙ ap (λ (x : ℕ). fields-from g.time g.attributes g.addr g.len g.width g.stream_width x f.payload f.enables) e7 ∙ ap (λ (x : List ℕ). fields-from g.time g.attributes g.addr g.len g.width g.stream_width g.master x f.enables) e8 ∙ ap (λ (x : List ℕ). fields-from g.time g.attributes g.addr g.len g.width g.stream_width g.master g.payload x) e9

pub takes-bus : (o0 o1 o2 o3 o4 o5 o6 o7 o8 o9 : Option (List ℕ)) (f : BusFields) → TakesNumber 18446744073709551615 o0 o1 f.time → TakesHex o1 o2 f.attributes → TakesHex o2 o3 f.addr
    → TakesNumber 4294967295 o3 o4 f.len → TakesNumber 4294967295 o4 o5 f.width → TakesNumber 4294967295 o5 o6 f.stream_width → TakesNumber 18446744073709551615 o6 o7 f.master
    → TakesBytes o7 o8 f.payload → TakesBytes o8 o9 f.enables → TakesBus o0 o9 f
takes-bus o0 o1 o2 o3 o4 o5 o6 o7 o8 o9 f t1 t2 t3 t4 t5 t6 t7 t8 t9 = record {
  fits =
      let s1 = t1.small in
      let s4 = t4.small in
      let s5 = t5.small in
      let s6 = t6.small in
      let s7 = t7.small in
      (omega arith, t2.small, t3.small, omega arith, omega arith, omega arith, omega arith);
  payload = t8.each;
  enables = t9.each;
  read = λ e. t1.read _ (t2.read _ (t3.read _ (t4.read _ (t5.read _ (t6.read _ (t7.read _ (t8.read _ (t9.read [] e))))))));
  exact = λ g fits payload enables is.
      let w9 : List (List ℕ) = [] in
      let w8 : List (List ℕ) = bytes_text g.enables ∷ w9 in
      let w7 : List (List ℕ) = bytes_text g.payload ∷ w8 in
      let w6 : List (List ℕ) = decimal g.master ∷ w7 in
      let w5 : List (List ℕ) = decimal g.stream_width ∷ w6 in
      let w4 : List (List ℕ) = decimal g.width ∷ w5 in
      let w3 : List (List ℕ) = decimal g.len ∷ w4 in
      let w2 : List (List ℕ) = hex_text g.addr ∷ w3 in
      let w1 : List (List ℕ) = hex_text g.attributes ∷ w2 in
      let e1 = t1.exact g.time w1 (let h = fits.0 in omega arith) is in
      let e2 = t2.exact g.attributes w2 fits.1 e1.1 in
      let e3 = t3.exact g.addr w3 fits.2 e2.1 in
      let e4 = t4.exact g.len w4 (let h = fits.3 in omega arith) e3.1 in
      let e5 = t5.exact g.width w5 (let h = fits.4 in omega arith) e4.1 in
      let e6 = t6.exact g.stream_width w6 (let h = fits.5 in omega arith) e5.1 in
      let e7 = t7.exact g.master w7 (let h = fits.6 in omega arith) e6.1 in
      let e8 = t8.exact g.payload w8 payload e7.1 in
      let e9 = t9.exact g.enables w9 enables e8.1 in
      (same-fields f g e1.0 e2.0 e3.0 e4.0 e5.0 e6.0 e7.0 e8.0 e9.0, e9.1);
}

nop-exact : (o : Option (List ℕ)) (b : Body) → command_of b ≡ command.Nop → o ≡ Some (spaced (body_words b)) → (Nop ≡ b) × (o ≡ Some [])
nop-exact o Nop named is = (refl, is)
nop-exact o b named is = absurd (cc (named))

pub takes-nop : (o : Option (List ℕ)) → TakesBody command.Nop o o Nop
takes-nop o = record { named = refl; fits = tt; bytes = tt; read = λ e. e; exact = λ b named fits bytes is. nop-exact o b named is }

hello-exact : (o0 o1 o2 o3 : Option (List ℕ)) (major minor : ℕ) (caps : List ℕ) → TakesNumber 65535 o0 o1 major → TakesNumber 65535 o1 o2 minor → TakesCaps o2 o3 caps
    → (b : Body) → command_of b ≡ command.Hello → BodyFits b → o0 ≡ Some (spaced (body_words b)) → (Hello major minor caps ≡ b) × (o3 ≡ Some [])
hello-exact o0 o1 o2 o3 major minor caps t1 t2 t3 (Hello m n cs) named fits is =
    let e1 = t1.exact m (decimal n ∷ map decimal cs) (let h = fits.0 in omega arith) is in
    let e2 = t2.exact n (map decimal cs) (let h = fits.1 in omega arith) e1.1 in
    let e3 = t3.exact cs fits.2 e2.1 in
    (ap (λ x. Hello x minor caps) e1.0 ∙ ap (λ x. Hello m x caps) e2.0 ∙ ap (λ x. Hello m n x) e3.0, e3.1)
hello-exact o0 o1 o2 o3 major minor caps t1 t2 t3 b named fits is = absurd (cc (named))

pub takes-hello : (o0 o1 o2 o3 : Option (List ℕ)) (major minor : ℕ) (caps : List ℕ) → TakesNumber 65535 o0 o1 major → TakesNumber 65535 o1 o2 minor → TakesCaps o2 o3 caps → TakesBody command.Hello o0 o3 (Hello major minor caps)
takes-hello o0 o1 o2 o3 major minor caps t1 t2 t3 = record {
  named = refl;
  fits = (let s = t1.small in omega arith, let s = t2.small in omega arith, t3.each);
  bytes = tt;
  read = λ e. t1.read _ (t2.read _ (t3.read e));
  exact = λ b named fits bytes is. hello-exact o0 o1 o2 o3 major minor caps t1 t2 t3 b named fits is;
}

cfg-exact : (o0 o1 o2 : Option (List ℕ)) (opt set : ℕ) → TakesNumber 4294967295 o0 o1 opt → TakesNumber 255 o1 o2 set
    → (b : Body) → command_of b ≡ command.Cfg → BodyFits b → o0 ≡ Some (spaced (body_words b)) → (Cfg opt set ≡ b) × (o2 ≡ Some [])
cfg-exact o0 o1 o2 opt set t1 t2 (Cfg p s) named fits is =
    let e1 = t1.exact p (decimal s ∷ []) (let h = fits.0 in omega arith) is in
    let e2 = t2.exact s [] (let h = fits.1 in omega arith) e1.1 in
    (ap (λ x. Cfg x set) e1.0 ∙ ap (λ x. Cfg p x) e2.0, e2.1)
cfg-exact o0 o1 o2 opt set t1 t2 b named fits is = absurd (cc (named))

pub takes-cfg : (o0 o1 o2 : Option (List ℕ)) (opt set : ℕ) → TakesNumber 4294967295 o0 o1 opt → TakesNumber 255 o1 o2 set → TakesBody command.Cfg o0 o2 (Cfg opt set)
takes-cfg o0 o1 o2 opt set t1 t2 = record {
  named = refl;
  fits = (let s = t1.small in omega arith, let s = t2.small in omega arith);
  bytes = tt;
  read = λ e. t1.read _ (t2.read [] e);
  exact = λ b named fits bytes is. cfg-exact o0 o1 o2 opt set t1 t2 b named fits is;
}

read-exact : (o n : Option (List ℕ)) (f : BusFields) → TakesBus o n f → (b : Body) → command_of b ≡ command.Read → BodyFits b → HoldsBytes b → o ≡ Some (spaced (body_words b)) → (Read f ≡ b) × (n ≡ Some [])
read-exact o n f t (Read g) named fits bytes is = let e = t.exact g fits bytes.0 bytes.1 is in (ap (λ x. Read x) e.0, e.1)
read-exact o n f t b named fits bytes is = absurd (cc (named))

pub takes-read : (o n : Option (List ℕ)) (f : BusFields) → TakesBus o n f → TakesBody command.Read o n (Read f)
takes-read o n f t = record { named = refl; fits = t.fits; bytes = (t.payload, t.enables); read = t.read; exact = read-exact o n f t }

write-exact : (o n : Option (List ℕ)) (f : BusFields) → TakesBus o n f → (b : Body) → command_of b ≡ command.Write → BodyFits b → HoldsBytes b → o ≡ Some (spaced (body_words b)) → (Write f ≡ b) × (n ≡ Some [])
write-exact o n f t (Write g) named fits bytes is = let e = t.exact g fits bytes.0 bytes.1 is in (ap (λ x. Write x) e.0, e.1)
write-exact o n f t b named fits bytes is = absurd (cc (named))

pub takes-write : (o n : Option (List ℕ)) (f : BusFields) → TakesBus o n f → TakesBody command.Write o n (Write f)
takes-write o n f t = record { named = refl; fits = t.fits; bytes = (t.payload, t.enables); read = t.read; exact = write-exact o n f t }

interrupt-exact : (o0 o1 o2 o3 o4 : Option (List ℕ)) (time vector line val : ℕ) → TakesNumber 18446744073709551615 o0 o1 time → TakesNumber 18446744073709551615 o1 o2 vector → TakesNumber 4294967295 o2 o3 line → TakesNumber 255 o3 o4 val
    → (b : Body) → command_of b ≡ command.Interrupt → BodyFits b → o0 ≡ Some (spaced (body_words b)) → (Interrupt time vector line val ≡ b) × (o4 ≡ Some [])
interrupt-exact o0 o1 o2 o3 o4 time vector line val t1 t2 t3 t4 (Interrupt a b c d) named fits is =
    let e1 = t1.exact a (decimal b ∷ decimal c ∷ decimal d ∷ []) (let h = fits.0 in omega arith) is in
    let e2 = t2.exact b (decimal c ∷ decimal d ∷ []) (let h = fits.1 in omega arith) e1.1 in
    let e3 = t3.exact c (decimal d ∷ []) (let h = fits.2 in omega arith) e2.1 in
    let e4 = t4.exact d [] (let h = fits.3 in omega arith) e3.1 in
    (ap (λ x. Interrupt x vector line val) e1.0 ∙ ap (λ x. Interrupt a x line val) e2.0 ∙ ap (λ x. Interrupt a b x val) e3.0 ∙ ap (λ x. Interrupt a b c x) e4.0, e4.1)
interrupt-exact o0 o1 o2 o3 o4 time vector line val t1 t2 t3 t4 b named fits is = absurd (cc (named))

pub takes-interrupt : (o0 o1 o2 o3 o4 : Option (List ℕ)) (time vector line val : ℕ) → TakesNumber 18446744073709551615 o0 o1 time → TakesNumber 18446744073709551615 o1 o2 vector → TakesNumber 4294967295 o2 o3 line → TakesNumber 255 o3 o4 val
    → TakesBody command.Interrupt o0 o4 (Interrupt time vector line val)
takes-interrupt o0 o1 o2 o3 o4 time vector line val t1 t2 t3 t4 = record {
  named = refl;
  fits = (let s = t1.small in omega arith, let s = t2.small in omega arith, let s = t3.small in omega arith, let s = t4.small in omega arith);
  bytes = tt;
  read = λ e. t1.read _ (t2.read _ (t3.read _ (t4.read [] e)));
  exact = λ b named fits bytes is. interrupt-exact o0 o1 o2 o3 o4 time vector line val t1 t2 t3 t4 b named fits is;
}

sync-exact : (o n : Option (List ℕ)) (time : ℕ) → TakesNumber 18446744073709551615 o n time → (b : Body) → command_of b ≡ command.Sync → BodyFits b → o ≡ Some (spaced (body_words b)) → (Sync time ≡ b) × (n ≡ Some [])
sync-exact o n time t (Sync s) named fits is = let e = t.exact s [] (omega (arith, fits)) is in (ap (λ x. Sync x) e.0, e.1)
sync-exact o n time t b named fits is = absurd (cc (named))

pub takes-sync : (o n : Option (List ℕ)) (time : ℕ) → TakesNumber 18446744073709551615 o n time → TakesBody command.Sync o n (Sync time)
takes-sync o n time t = record {
  named = refl;
  fits = let s = t.small in omega arith;
  bytes = tt;
  read = λ e. t.read [] e;
  exact = λ b named fits bytes is. sync-exact o n time t b named fits is;
}
