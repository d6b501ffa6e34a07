-- Lines by the names of their commands.
use Rattle.std.proofs.Common.{◌≡◌, ℕ, ◌<◌, ◌^◌, true, List, [], ◌∷◌, ◌++◌, decimal, Option, Some, refl, sym, ap, ◌∙◌, subst}
use Rattle.std.specs.Prelude.{slice_index, ◌==◌, if◌then◌else◌}
use Rattle.cosim_model.specs.Packets.{Packet, Body, command_of}
use Rattle.cosim_model.specs.declared.session.Command.{Command}
use Rattle.cosim_model.specs.declared.session.Command.TheVariants as command
use Rattle.rp_packet.specs.declared.packet.Tag.{Tag}
use Rattle.rp_packet.specs.Spelling.{Writable}
use Rattle.rp_packet.specs.Values.{tagged}
use Rattle.rp_text.specs.Texts.{name_of, spaced, body_words, packet_text, IsPackable}
use Rattle.rp_text.specs.Words.{first_word, rest_of_words, no_blank}
use Rattle.rp_text.specs.Reading.{TakesTag, TakesBody}
use Rattle.rp_text.proofs.Cuts.{whole, cut-of}
use Rattle.rp_text.proofs.Takes.{some-same}

pub no_blank-name : (c : Command) → no_blank (name_of c) ≡ true
no_blank-name command.Nop = refl
no_blank-name command.Hello = refl
no_blank-name command.Cfg = refl
no_blank-name command.Read = refl
no_blank-name command.Write = refl
no_blank-name command.Interrupt = refl
no_blank-name command.Sync = refl

abbrev words-of : Packet → List (List ℕ)
words-of v = decimal v.id ∷ decimal v.flags ∷ decimal v.dev ∷ body_words v.body

pub front-named : (v : Packet) (line front : List ℕ) → line ≡ packet_text v → front ≡ first_word line → front ≡ name_of (command_of v.body)
front-named v line front is front_is = front_is ∙ (cut-of line (name_of (command_of v.body)) (words-of v) (no_blank-name (command_of v.body)) is).0

pub line-read : (v : Packet) (line front rest : List ℕ) (c : Command) (tag : Tag) (start mid end : Option (List ℕ)) → start ≡ Some rest → v ≡ tagged tag v.body → front ≡ first_word line → rest ≡ rest_of_words line → front ≡ name_of c
    → TakesTag start mid tag → TakesBody c mid end v.body → end ≡ Some [] → line ≡ packet_text v
line-read v line front rest c tag start mid end start_is v_is front_is rest_is named tags body ended =
    let text : rest ≡ spaced (decimal tag.id ∷ decimal tag.flags ∷ decimal tag.dev ∷ body_words v.body) = some-same rest _ (sym start_is ∙ tags.read (body_words v.body) (body.read ended)) in
    sym (whole line) ∙ ap (λ (x : List ℕ). x ++ rest_of_words line) (sym front_is ∙ named) ∙ ap (λ (x : List ℕ). name_of c ++ x) (sym rest_is ∙ text)
    ∙ ap (λ (x : Command). name_of x ++ spaced (decimal tag.id ∷ decimal tag.flags ∷ decimal tag.dev ∷ body_words v.body)) (sym body.named)
    ∙ ap packet_text (sym v_is)

pub is-packable : (v : Packet) (c : Command) (tag : Tag) (start mid end : Option (List ℕ)) → v ≡ tagged tag v.body → TakesTag start mid tag → TakesBody c mid end v.body → Writable v → IsPackable v
is-packable v c tag start mid end v_is tags body writable = record {
  fits = (
    subst (λ (n : ℕ). n < 2 ^ 32) (ap (λ (p : Packet). p.id) (sym v_is)) tags.id_fits,
    subst (λ (n : ℕ). n < 2 ^ 32) (ap (λ (p : Packet). p.flags) (sym v_is)) tags.flags_fit,
    subst (λ (n : ℕ). n < 2 ^ 32) (ap (λ (p : Packet). p.dev) (sym v_is)) tags.dev_fits,
    body.fits,
  );
  bytes = body.bytes;
  writable = writable;
}

same-packet : (v w : Packet) (tag t : Tag) → v ≡ tagged tag v.body → w ≡ tagged t w.body → tag ≡ t → v.body ≡ w.body → v ≡ w
same-packet v w tag t v_is w_is tags bodies = v_is ∙ ap (λ (x : Tag). tagged x v.body) tags ∙ ap (λ (b : Body). tagged t b) bodies ∙ sym w_is

pub line-exact : (v w : Packet) (line front rest : List ℕ) (c : Command) (tag : Tag) (start mid end : Option (List ℕ)) → start ≡ Some rest → IsPackable w → line ≡ packet_text w → front ≡ first_word line → rest ≡ rest_of_words line → c ≡ command_of w.body
    → v ≡ tagged tag v.body → TakesTag start mid tag → TakesBody c mid end v.body → (v ≡ w) × (end ≡ Some [])
line-exact v w line front rest c tag start mid end start_is packable is front_is rest_is named v_is tags body =
    let back : rest ≡ spaced (words-of w) = rest_is ∙ (cut-of line (name_of (command_of w.body)) (words-of w) (no_blank-name (command_of w.body)) is).1 in
    let t : Tag = record { id = w.id; flags = w.flags; dev = w.dev } in
    let fits = packable.fits in
    let first = tags.exact t (body_words w.body) fits.0 fits.1 fits.2 (start_is ∙ ap (λ (x : List ℕ). Some x) back) in
    let second = body.exact w.body (sym named) fits.3 packable.bytes first.1 in
    (same-packet v w tag t v_is refl first.0 second.0, second.1)

pub same-command : (c d : Command) → let P : Option Command → Option Command → Type 0 = λ a b. a ≡ b in P (Some c) (Some d) → c ≡ d
same-command c d e = cc (e)

-- names are apart by their first letters
abbrev letter : List ℕ → ℕ
letter word = slice_index word 0

abbrev command_by : ℕ → Command
command_by c =
    if c == 110 then command.Nop
    else (if c == 104 then command.Hello
    else (if c == 99 then command.Cfg
    else (if c == 114 then command.Read
    else (if c == 119 then command.Write
    else (if c == 105 then command.Interrupt
    else command.Sync)))))

command_by-letter : (c : Command) → command_by (letter (name_of c)) ≡ c
command_by-letter command.Nop = refl
command_by-letter command.Hello = refl
command_by-letter command.Cfg = refl
command_by-letter command.Read = refl
command_by-letter command.Write = refl
command_by-letter command.Interrupt = refl
command_by-letter command.Sync = refl

pub names-apart : (c d : Command) → name_of c ≡ name_of d → c ≡ d
names-apart c d same = sym (command_by-letter c) ∙ ap (λ (x : List ℕ). command_by (letter x)) same ∙ command_by-letter d
