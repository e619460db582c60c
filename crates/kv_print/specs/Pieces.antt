-- What printed texts are made of: tokens, and the white space between them.
use Rattle.std.specs.Prelude.{ℕ, List, [], ◌∷◌, codes, decimal, flat_map}

pub data Piece : Type 0 where
  -- one space, and the end of a line
  Space : Piece
  Break : Piece
  -- a keyword, the word of a rule or a side, by its letters
  Word : (letters : List ℕ) → Piece
  Ident : (name : List ℕ) → Piece
  Number : (value : ℕ) → Piece
  Label : (label : List ℕ) → Piece
  Mark : (sign : List ℕ) → Piece

abbrev pub piece_text : Piece → List ℕ
piece_text Piece.Space = codes " "
piece_text Piece.Break = 10 ∷ []
piece_text (Piece.Word letters) = letters
piece_text (Piece.Ident name) = name
piece_text (Piece.Number value) = decimal value
piece_text (Piece.Label label) = label
piece_text (Piece.Mark sign) = sign

-- the text of some pieces
abbrev pub spell : List Piece → List ℕ
spell = flat_map piece_text
