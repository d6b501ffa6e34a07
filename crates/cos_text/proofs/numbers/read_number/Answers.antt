use Rattle.std.proofs.Common.{Some, None, drop, ap, ◌∙◌}
use Rattle.std.specs.Str.Parse.{digits_value}
use Rattle.cos_text.specs.Numbers.{hex_text, if_text, or_else}
use Rattle.cos_text.proofs.Spelled.{decimal-is, hexadecimal-is}
use Rattle.cos_text.proofs.numbers.read_number.Goals as goal

pub returns-in-Some : goal.returns-in-Some
returns-in-Some c =
    ap (λ o. or_else o (if_text hex_text c.args.text.now (digits_value 16 (drop 2 c.args.text.now))))
    (decimal-is c.args.text.now (Some c.in-Some.number) c.in-Some.ensures.some c.in-Some.ensures.exact)

pub returns-in-None : goal.returns-in-None
returns-in-None c =
    hexadecimal-is c.args.text.now c.read_hexadecimal.result c.read_hexadecimal.ensures.some c.read_hexadecimal.ensures.exact
    ∙ ap (λ o. or_else o (if_text hex_text c.args.text.now (digits_value 16 (drop 2 c.args.text.now)))) (decimal-is c.args.text.now None tt c.in-None.ensures.exact)
