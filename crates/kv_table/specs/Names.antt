-- Tables of words: each row is a word's bytes.
use Rattle.std.specs.Prelude.{ℕ, Bool, true, not, ◌&&◌, List, [], ◌∷◌, Option, position}
use Rattle.std.specs.List.{list_any}
use Rattle.std.specs.Str.{bytes_eq}

-- no row stands twice
abbrev pub are_different : List (List ℕ) → Bool
are_different [] = true
are_different (row ∷ rows) = not (list_any (bytes_eq row) rows) && are_different rows

-- the first row that is the text, counted from 0
abbrev pub row_of : List (List ℕ) → List ℕ → Option ℕ
row_of rows text = position (λ row. bytes_eq row text) rows
