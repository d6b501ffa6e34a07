-- What a piece of a line is as text, and the room that it takes at most.
use Rattle.std.specs.Prelude.{ℕ, ◌*◌, List, length, sum_by, decimal}
use Rattle.std.specs.List.{flat_map}
use Rattle.hex.specs.Hex.{encode_lower}
use Rattle.transcript.specs.declared.pieces.Piece.{Piece}
use Rattle.transcript.specs.declared.pieces.Piece.TheVariants.{Text, Decimal, Hexadecimal, Word, Bytes}
use Rattle.cos_text.specs.Numbers.{hexadecimal}
use Rattle.transcript.specs.Texts.{word_digits}

abbrev pub piece_text : Piece → List ℕ
piece_text (Text text) = text.now
piece_text (Decimal number) = decimal number
piece_text (Hexadecimal number) = hexadecimal number
piece_text (Word number) = word_digits number
piece_text (Bytes bytes) = encode_lower bytes.now

abbrev pub piece_room : Piece → ℕ
piece_room (Text text) = length text.now
piece_room (Decimal number) = 20
piece_room (Hexadecimal number) = 16
piece_room (Word number) = 8
piece_room (Bytes bytes) = 2 * length bytes.now

abbrev pub pieces_text : List Piece → List ℕ
pieces_text pieces = flat_map piece_text pieces

abbrev pub pieces_room : List Piece → ℕ
pieces_room pieces = sum_by piece_room pieces
