use Rattle.std.proofs.Common.{◌≡◌, ap, sym, ◌∙◌, subst, true, false, refl}
use Rattle.std.specs.Str.{is_utf8, IsUtf8}
use Rattle.std.proofs.lemmas.Str.{is_utf8-from_IsUtf8}
use Rattle.cos_script.specs.Scripts.{script_of}
use Rattle.outcomes.specs.Seen.{seen}
use Rattle.cosim_inputs.specs.Inputs.{AsScript}
use Rattle.cosim_inputs.proofs.Scripted.{no-utf8, script-stands}
use Rattle.cosim_inputs.proofs.master.read_script.Goals as goal

pub returns-in-Err-from_utf8-clause-err : goal.returns-in-Err-from_utf8-clause-err
returns-in-Err-from_utf8-clause-err g c =
    let f = seen g.F.Files.count g.F.Files.told c.args.files.now c.read_named.new.files in
    let none : is_utf8 c.in-Ok.bytes.bytes ≡ false = no-utf8 _ (λ utf8. c.in-Err-from_utf8.ensures.cases.0 (subst IsUtf8 (sym c.as_slice.ensures) utf8)) in
    (c.in-Ok.ensures.ok.stands, script-stands f _ c.args.name.now c.in-Ok.bytes.bytes c.args.ports false _ refl c.in-Ok.ensures.ok none refl)

pub returns-in-Ok-make-clause-ok : goal.returns-in-Ok-make-clause-ok
returns-in-Ok-make-clause-ok g c =
    let f = seen g.F.Files.count g.F.Files.told c.args.files.now c.read_named.new.files in
    let same : c.in-Ok-from_utf8.text.now ≡ c.in-Ok.bytes.bytes = c.in-Ok-from_utf8.ensures.cases.0 ∙ c.as_slice.ensures in
    let utf8 : is_utf8 c.in-Ok.bytes.bytes ≡ true = is_utf8-from_IsUtf8 _ (subst IsUtf8 c.as_slice.ensures c.in-Ok-from_utf8.ensures.cases.1) in
    record {
      stands = c.in-Ok.ensures.ok.stands;
      fine = script-stands f _ c.args.name.now c.in-Ok.bytes.bytes c.args.ports true _ refl c.in-Ok.ensures.ok utf8 (ap (λ t. script_of c.args.ports t) (sym same) ∙ c.in-Ok-make.ensures.1);
    }

pub returns-in-Err-Line-clause-err : goal.returns-in-Err-Line-clause-err
returns-in-Err-Line-clause-err g c =
    let f = seen g.F.Files.count g.F.Files.told c.args.files.now c.read_named.new.files in
    let same : c.in-Ok-from_utf8.text.now ≡ c.in-Ok.bytes.bytes = c.in-Ok-from_utf8.ensures.cases.0 ∙ c.as_slice.ensures in
    let utf8 : is_utf8 c.in-Ok.bytes.bytes ≡ true = is_utf8-from_IsUtf8 _ (subst IsUtf8 c.as_slice.ensures c.in-Ok-from_utf8.ensures.cases.1) in (
      c.in-Ok.ensures.ok.stands,
      script-stands f _ c.args.name.now c.in-Ok.bytes.bytes c.args.ports true _ refl c.in-Ok.ensures.ok utf8 (ap (λ t. script_of c.args.ports t) (sym same) ∙ (rw c.in-Err-Line.field-0-is at c.in-Err-Line.ensures)),
    )

pub returns-in-Err-clause-err : goal.returns-in-Err-clause-err
returns-in-Err-clause-err g c = c.in-Err.ensures.err (AsScript c.args.ports)

pub returns-in-Err-clause-is_sound : goal.returns-in-Err-clause-is_sound
returns-in-Err-clause-is_sound g c = λ sound. let both = c.in-Err.ensures.is_sound sound in (both.0, both.1 (AsScript c.args.ports))
