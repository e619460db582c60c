-- The parts of items, behind their names.
use Rattle.std.specs.Prelude.{List, [], ◌∷◌, ◌++◌, Option, Some, None, codes}
use Rattle.kv_names.specs.Names.{Name}
use Rattle.kv_raw.specs.RawTrees.{RawProg}
use Rattle.kv_names.specs.declared.symbols.Var.{Var}
use Rattle.kv_print.specs.Pieces.{Piece}
use Rattle.kv_print.specs.Pieces.Piece.{Space, Mark}
use Rattle.kv_print.specs.Forms.{block, names_pieces, printed_prog, var_pieces}

-- the sorts of a function's arguments and their arrow, where there are any
abbrev pub arguments_pieces : List Name → List Piece
arguments_pieces [] = []
arguments_pieces (s ∷ sorts) = names_pieces (s ∷ sorts) ++ (Space ∷ Mark (codes "->") ∷ Space ∷ [])

-- the sorts of a predicate's arguments behind a colon, where there are any
abbrev pub sorts_pieces : List Name → List Piece
sorts_pieces [] = []
sorts_pieces (s ∷ sorts) = Space ∷ Mark (codes ":") ∷ Space ∷ names_pieces (s ∷ sorts)

-- variables with commas between
abbrev pub more_vars : List Var → List Piece
more_vars [] = []
more_vars (x ∷ xs) = Mark (codes ",") ∷ Space ∷ var_pieces x ++ more_vars xs

abbrev pub vars_pieces : List Var → List Piece
vars_pieces [] = []
vars_pieces (x ∷ xs) = var_pieces x ++ more_vars xs

-- the references of a procedure, behind a space where there are any
abbrev pub ref_vars_pieces : List Var → List Piece
ref_vars_pieces [] = []
ref_vars_pieces (x ∷ xs) = Space ∷ vars_pieces (x ∷ xs)

-- a procedure's parameters, laid out as the arguments of a call
abbrev pub parameters_pieces : List Var → List Var → List Piece
parameters_pieces values refs = Mark (codes "(") ∷ vars_pieces values ++ (Mark (codes ";") ∷ ref_vars_pieces refs) ++ Mark (codes ")") ∷ []

-- a procedure's body, where it has one
abbrev pub body_pieces : Option RawProg → List Piece
body_pieces None = []
body_pieces (Some a) = Space ∷ Mark (codes "=") ∷ Space ∷ block (printed_prog a)
