-- A line of words, and the rows of a table by name.
use Rattle.std.specs.Prelude.{ℕ, ◌≡◌, ◌==◌, List, Some, map, slice_get}
use Rattle.std.specs.List.{slice_split}

-- the words of a line, between single spaces
abbrev pub words : List ℕ → List (List ℕ)
words line = slice_split (λ c. c == 32) line

-- the row at each number is the word beside that number
abbrev pub AreRows : List (List ℕ) → List (ℕ × List ℕ) → Type 0
AreRows rows named = map (λ n. slice_get rows n.0) named ≡ map (λ n. Some n.1) named
