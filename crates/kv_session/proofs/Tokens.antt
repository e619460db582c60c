-- The kinds of the tokens of pieces, and when pieces may stand one behind another.
use Rattle.std.proofs.Common.{ℕ, ◌≡◌, List, [], ◌∷◌, ◌++◌, refl, ap}
use Rattle.std.specs.Prelude.{true, if◌then◌else◌, ◌==◌, nat_le, Option, Some, None, unwrap_or, codes, length, ◌⊎◌}
use Rattle.kv_lex.specs.Marks.{mark_rows}
use Rattle.kv_lex.specs.Tokens.{word}
use Rattle.kv_lex.specs.Marks.{DOT}
use Rattle.kv_lex.specs.declared.token.TokenKind.{TokenKind}
use Rattle.kv_lex.specs.declared.token.TokenKind.TheVariants.{Ident, Number, Mark}
use Rattle.kv_print.specs.Pieces.{Piece}
use Rattle.kv_session.specs.Spellable.{IsName, IsLabel, IsNumber}
use Rattle.kv_session.proofs.Words.{is_word}
use Rattle.kv_names.specs.Names.{Name}
use Rattle.kv_table.specs.Names.{row_of}

-- the tokens of a label: the names and the full stops between them, where `done` is the front of the first name
abbrev pub label_kinds : Name → Name → List TokenKind
label_kinds done [] = Ident done ∷ []
label_kinds done (b ∷ bs) = if b == 46 then Ident done ∷ Mark DOT ∷ label_kinds [] bs else label_kinds (done ++ (b ∷ [])) bs

abbrev pub word_kinds : Option TokenKind → List TokenKind
word_kinds None = []
word_kinds (Some kind) = kind ∷ []

abbrev pub piece_kinds : Piece → List TokenKind
piece_kinds Piece.Space = []
piece_kinds Piece.Break = []
piece_kinds (Piece.Word letters) = word_kinds (word letters)
piece_kinds (Piece.Ident name) = Ident name ∷ []
piece_kinds (Piece.Number value) = Number value ∷ []
piece_kinds (Piece.Label label) = label_kinds [] label
piece_kinds (Piece.Mark sign) = Mark (unwrap_or (row_of mark_rows sign) 0) ∷ []

-- the kinds of the tokens of some pieces, and then others
abbrev pub before : List Piece → List TokenKind → List TokenKind
before [] us = us
before (p ∷ ps) us = piece_kinds p ++ before ps us

pub before_append : (ps qs : List Piece) (us : List TokenKind) → before (ps ++ qs) us ≡ before ps (before qs us)
before_append [] qs us = refl
before_append (p ∷ ps) qs us = ap (λ ts. piece_kinds p ++ ts) (before_append ps qs us)

-- a mark that is read as itself whatever stands behind it, and one that is so before a space
pub data IsClosed : List ℕ → Type 0 where
  bracket : IsClosed (codes "(")
  end_bracket : IsClosed (codes ")")
  brace : IsClosed (codes "{")
  end_brace : IsClosed (codes "}")
  semicolon : IsClosed (codes ";")
  bar : IsClosed (codes "|")
  comma : IsClosed (codes ",")
  dot : IsClosed (codes ".")
  arrow : IsClosed (codes "->")
  double_arrow : IsClosed (codes "<->")

pub data IsLoose : List ℕ → Type 0 where
  colon : IsLoose (codes ":")
  equal : IsLoose (codes "=")

-- a word or a number ends there
abbrev pub Ends : List Piece → Type 0
Ends [] = Unit {0}
Ends (Piece.Space ∷ ps) = Unit {0}
Ends (Piece.Break ∷ ps) = Unit {0}
Ends (Piece.Word letters ∷ ps) = ⊥
Ends (Piece.Ident name ∷ ps) = ⊥
Ends (Piece.Number value ∷ ps) = ⊥
Ends (Piece.Label label ∷ ps) = ⊥
Ends (Piece.Mark sign ∷ ps) = IsClosed sign

-- a space comes first
abbrev pub Spaced : List Piece → Type 0
Spaced [] = ⊥
Spaced (Piece.Space ∷ ps) = Unit {0}
Spaced (Piece.Break ∷ ps) = ⊥
Spaced (Piece.Word letters ∷ ps) = ⊥
Spaced (Piece.Ident name ∷ ps) = ⊥
Spaced (Piece.Number value ∷ ps) = ⊥
Spaced (Piece.Label label ∷ ps) = ⊥
Spaced (Piece.Mark sign ∷ ps) = ⊥

-- the piece can be read as what it is, before those others
abbrev pub Fits : Piece → List Piece → Type 0
Fits Piece.Space ps = Unit {0}
Fits Piece.Break ps = Unit {0}
Fits (Piece.Word letters) ps = (is_word letters ≡ true) × (nat_le (length letters) 64 ≡ true) × Ends ps
Fits (Piece.Ident name) ps = IsName name × Ends ps
Fits (Piece.Number value) ps = IsNumber value × Ends ps
Fits (Piece.Label label) ps = IsLabel label × Ends ps
Fits (Piece.Mark sign) ps = IsClosed sign ⊎ (IsLoose sign × Spaced ps)

abbrev pub AreFit : List Piece → Type 0
AreFit [] = Unit {0}
AreFit (p ∷ ps) = Fits p ps × AreFit ps
