use Rattle.std.proofs.Common.{refl, rules, ◌≡◌}
use Rattle.std.specs.Int.{cast_unsigned, cast_signed, w64}
use Rattle.std.proofs.lemmas.Int.{to_z-of_z}
use Rattle.statuses.proofs.Taking.{put-line}
use Rattle.statuses.proofs.lines.put_range.Goals as goal

pub returns : goal.returns
returns g c =
    let back : cast_signed w64 (cast_unsigned w64 c.args.value.now) ≡ c.args.value.now = to_z-of_z w64 c.args.value.now (search rules) in
    put-line _ _ _ _ _ _ _ _ (rw (c.table_name-table.ensures, c.format-value.ensures.text, back) refl) c.put_all.ensures
