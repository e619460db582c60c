-- The named marks are those beside them, and the rows that the code names have the same numbers.
use Rattle.std.specs.Prelude.{◌≡◌, ℕ, List, [], ◌∷◌, map, refl}
use Rattle.kv_lex.specs.Marks.{NamedMarks, mark_rows, named_marks}
use Rattle.kv_lex.specs.declared.mark.TheConstants as mark

pub marks_named : NamedMarks
unfolding mark_rows named_marks
marks_named = refl

pub code_marks : map (λ n. n.0) named_marks ≡ mark.OPEN ∷ mark.CLOSE ∷ mark.OPEN_SQUARE ∷ mark.CLOSE_SQUARE ∷ mark.OPEN_BRACE ∷ mark.CLOSE_BRACE ∷ mark.LESS ∷ mark.GREATER ∷ mark.COMMA ∷ mark.SEMICOLON ∷ mark.COLON ∷ mark.ASSIGN ∷ mark.DOT ∷ mark.EQUAL ∷ mark.MAPS_TO ∷ mark.ARROW ∷ mark.DOUBLE_ARROW ∷ mark.BAR ∷ []
unfolding named_marks
code_marks = refl
