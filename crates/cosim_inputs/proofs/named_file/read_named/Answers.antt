use Rattle.std.proofs.Common.{◌≡◌, None, IsSomeAnd, subst}
use Rattle.cosim_inputs.specs.Inputs.{Asked}
use Rattle.cosim_inputs.proofs.Reading.{lacks-one-of}
use Rattle.cosim_inputs.proofs.named_file.read_named.Goals as goal

pub returns-in-Err-Failed-clause-is_sound : goal.returns-in-Err-Failed-clause-is_sound
returns-in-Err-Failed-clause-is_sound g c = λ sound.
    let both = rw c.in-Err-Failed.field-0-is at (c.in-Err-Failed.ensures.is_sound sound) in (
      both.0,
      λ role.
          let asked : Asked = record { name = c.args.name.now; role = role } in
          lacks-one-of (g.F.Files.told c.args.files.now) asked (subst (λ n. IsSomeAnd (g.F.Files.told c.args.files.now) (λ m. m n ≡ None)) c.as_str.ensures both.1),
    )
