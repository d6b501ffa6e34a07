-- The match of each row of the table leaves room for its operands.
use Rattle.std.proofs.Common.{◌≡◌, ℕ, ◌<◌, Bool, true, false, List, [], ◌∷◌, Option, Some, IfSome, cond, nat_lt, refl, sym, subst, arith}
use Rattle.std.proofs.lemmas.Bool.Decides.{nat_tests}
use Rattle.std.specs.Str.{bytes_eq}
use Rattle.rv_table.specs.declared.row.Row.{Row}
use Rattle.rv_table.specs.declared.table.TheConstants.{TABLE}
use Rattle.rv_table.specs.Names.{text_of}
use Rattle.rv_table.specs.Named.{first_named, room_of, HasRoom}
use Rattle.rv_table.proofs.Apart.{both_true}

abbrev all_have_room : List Row → Bool
all_have_room [] = true
all_have_room (r ∷ rest) = cond (nat_lt r.matched (room_of r.format)) (all_have_room rest) false

table_has_room : all_have_room TABLE.rows ≡ true
table_has_room = refl

lt_from_test : (a b : ℕ) → nat_lt a b ≡ true → a < b
lt_from_test a b h = grind (arith, nat_tests)

room_in_choice : (found : Bool) (r : Row) (rest : Option Row) → HasRoom r → IfSome rest HasRoom → IfSome (cond found (Some r) rest) HasRoom
room_in_choice true r rest h more = h
room_in_choice false r rest h more = more

room_found : (mnemonic : List ℕ) (rows : List Row) → all_have_room rows ≡ true → IfSome (first_named mnemonic rows) HasRoom
room_found mnemonic [] h = tt
room_found mnemonic (r ∷ rest) h =
    room_in_choice (bytes_eq (text_of r.name) mnemonic) r (first_named mnemonic rest) (lt_from_test _ _ (both_true _ _ h).0) (room_found mnemonic rest (both_true _ _ h).1)

pub named_has_room : (mnemonic : List ℕ) (o : Option Row) → o ≡ first_named mnemonic TABLE.rows → IfSome o HasRoom
named_has_room mnemonic o e = let P : Option Row → Type 0 = λ x. IfSome x HasRoom in subst P (sym e) (room_found mnemonic TABLE.rows table_has_room)
