-- The marks, and the row of each, counted from 0.
use Rattle.std.specs.Prelude.{ℕ, List, [], ◌∷◌, codes}
use Rattle.kv_table.specs.Words.{AreRows, words}

unfoldable pub mark_rows : List (List ℕ)
mark_rows = words (codes "( ) [ ] { } < > , ; : := . = => -> <-> |")

abbrev pub OPEN : ℕ
OPEN = 0

abbrev pub CLOSE : ℕ
CLOSE = 1

abbrev pub OPEN_SQUARE : ℕ
OPEN_SQUARE = 2

abbrev pub CLOSE_SQUARE : ℕ
CLOSE_SQUARE = 3

abbrev pub OPEN_BRACE : ℕ
OPEN_BRACE = 4

abbrev pub CLOSE_BRACE : ℕ
CLOSE_BRACE = 5

abbrev pub LESS : ℕ
LESS = 6

abbrev pub GREATER : ℕ
GREATER = 7

abbrev pub COMMA : ℕ
COMMA = 8

abbrev pub SEMICOLON : ℕ
SEMICOLON = 9

abbrev pub COLON : ℕ
COLON = 10

abbrev pub ASSIGN : ℕ
ASSIGN = 11

abbrev pub DOT : ℕ
DOT = 12

abbrev pub EQUAL : ℕ
EQUAL = 13

abbrev pub MAPS_TO : ℕ
MAPS_TO = 14

abbrev pub ARROW : ℕ
ARROW = 15

abbrev pub DOUBLE_ARROW : ℕ
DOUBLE_ARROW = 16

abbrev pub BAR : ℕ
BAR = 17

-- which mark each row is
unfoldable pub named_marks : List (ℕ × List ℕ)
named_marks =
    (OPEN, codes "(") ∷ (CLOSE, codes ")") ∷ (OPEN_SQUARE, codes "[") ∷ (CLOSE_SQUARE, codes "]") ∷ (OPEN_BRACE, codes "{") ∷
    (CLOSE_BRACE, codes "}") ∷ (LESS, codes "<") ∷ (GREATER, codes ">") ∷ (COMMA, codes ",") ∷ (SEMICOLON, codes ";") ∷
    (COLON, codes ":") ∷ (ASSIGN, codes ":=") ∷ (DOT, codes ".") ∷ (EQUAL, codes "=") ∷ (MAPS_TO, codes "=>") ∷ (ARROW, codes "->") ∷
    (DOUBLE_ARROW, codes "<->") ∷ (BAR, codes "|") ∷ []

-- the law: each named row is the mark beside it
abbrev pub NamedMarks : Type 0
NamedMarks = AreRows mark_rows named_marks
