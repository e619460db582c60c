-- The layout of terms, formulas and programs as texts spell them.
use Rattle.std.specs.Prelude.{ℕ, Bool, true, false, if◌then◌else◌, List, [], ◌∷◌, ◌++◌, codes}
use Rattle.kv_names.specs.Names.{Name}
use Rattle.kv_raw.specs.RawTrees.{RawTerm, RawTerms, RawForm, RawProg}
use Rattle.kv_names.specs.declared.symbols.Var.{Var}
use Rattle.kv_print.specs.Pieces.{Piece}
use Rattle.kv_print.specs.Pieces.Piece.{Space, Word, Ident, Mark}

-- names with commas between
abbrev pub more_names : List Name → List Piece
more_names [] = []
more_names (x ∷ xs) = Mark (codes ",") ∷ Space ∷ Ident x ∷ more_names xs

abbrev pub names_pieces : List Name → List Piece
names_pieces [] = []
names_pieces (x ∷ xs) = Ident x ∷ more_names xs

-- terms in brackets, where there are any
abbrev pub in_brackets : RawTerms → List Piece → List Piece
in_brackets RawTerms.none inner = []
in_brackets (RawTerms.more t ts) inner = Mark (codes "(") ∷ inner ++ Mark (codes ")") ∷ []

abbrev mutual
  pub term_pieces : RawTerm → List Piece
  term_pieces (RawTerm.App f ts) = Ident f ∷ in_brackets ts (terms_pieces ts)

  -- terms with commas between
  pub terms_pieces : RawTerms → List Piece
  terms_pieces RawTerms.none = []
  terms_pieces (RawTerms.more t ts) = term_pieces t ++ more_terms ts

  pub more_terms : RawTerms → List Piece
  more_terms RawTerms.none = []
  more_terms (RawTerms.more t ts) = Mark (codes ",") ∷ Space ∷ term_pieces t ++ more_terms ts

-- a formula, and whether it is binary; a program, and whether it is a sequence
pub record Printed : Type 0 where
  pub joined : Bool
  pub pieces : List Piece

abbrev pub alone : List Piece → Printed
alone pieces = record { joined = false; pieces = pieces }

-- a binary formula stands in brackets as an operand, and as the body of a unary one; nothing else does
abbrev pub operand : Printed → List Piece
operand form = if form.joined then Mark (codes "(") ∷ form.pieces ++ Mark (codes ")") ∷ [] else form.pieces

abbrev pub infixed : Printed → Piece → Printed → Printed
infixed left operator right = record { joined = true; pieces = operand left ++ (Space ∷ operator ∷ Space ∷ operand right) }

abbrev pub block : Printed → List Piece
block prog = Mark (codes "{") ∷ Space ∷ prog.pieces ++ Space ∷ Mark (codes "}") ∷ []

-- a sequence stands in braces as the first part of another
abbrev pub first_part : Printed → List Piece
first_part prog = if prog.joined then block prog else prog.pieces

-- a variable with its sort
abbrev pub var_pieces : Var → List Piece
var_pieces x = Ident x.name ∷ Space ∷ Mark (codes ":") ∷ Space ∷ Ident x.sort ∷ []

-- the references of a call, behind a space where there are any
abbrev pub refs_pieces : List Name → List Piece
refs_pieces [] = []
refs_pieces (r ∷ rs) = Space ∷ names_pieces (r ∷ rs)

abbrev mutual
  pub printed_form : RawForm → Printed
  printed_form RawForm.True = alone (Word (codes "true") ∷ [])
  printed_form RawForm.False = alone (Word (codes "false") ∷ [])
  printed_form (RawForm.Atom p ts) = alone (Ident p ∷ in_brackets ts (terms_pieces ts))
  printed_form (RawForm.Equal s t) = alone (term_pieces s ++ (Space ∷ Mark (codes "=") ∷ Space ∷ term_pieces t))
  printed_form (RawForm.Not f) = alone (Word (codes "not") ∷ Space ∷ operand (printed_form f))
  printed_form (RawForm.And f g) = infixed (printed_form f) (Word (codes "and")) (printed_form g)
  printed_form (RawForm.Or f g) = infixed (printed_form f) (Word (codes "or")) (printed_form g)
  printed_form (RawForm.Imp f g) = infixed (printed_form f) (Mark (codes "->")) (printed_form g)
  printed_form (RawForm.Iff f g) = infixed (printed_form f) (Mark (codes "<->")) (printed_form g)
  printed_form (RawForm.All x f) = alone (Word (codes "all") ∷ Space ∷ var_pieces x ++ (Space ∷ Mark (codes ".") ∷ Space ∷ operand (printed_form f)))
  printed_form (RawForm.Ex x f) = alone (Word (codes "ex") ∷ Space ∷ var_pieces x ++ (Space ∷ Mark (codes ".") ∷ Space ∷ operand (printed_form f)))
  printed_form (RawForm.After a f) = alone (Mark (codes "[") ∷ (printed_prog a).pieces ++ (Mark (codes "]") ∷ Space ∷ operand (printed_form f)))
  printed_form (RawForm.Can a f) = alone (Mark (codes "<") ∷ (printed_prog a).pieces ++ (Mark (codes ">") ∷ Space ∷ operand (printed_form f)))

  pub printed_prog : RawProg → Printed
  printed_prog RawProg.Skip = alone (Word (codes "skip") ∷ [])
  printed_prog RawProg.Abort = alone (Word (codes "abort") ∷ [])
  printed_prog (RawProg.Assign x t) = alone (Ident x ∷ Space ∷ Mark (codes ":=") ∷ Space ∷ term_pieces t)
  printed_prog (RawProg.Seq a b) = record { joined = true; pieces = first_part (printed_prog a) ++ (Mark (codes ";") ∷ Space ∷ (printed_prog b).pieces) }
  printed_prog (RawProg.If e a b) = alone (Word (codes "if") ∷ Space ∷ (printed_form e).pieces ++ (Space ∷ Word (codes "then") ∷ Space ∷ block (printed_prog a)) ++ (Space ∷ Word (codes "else") ∷ Space ∷ block (printed_prog b)))
  printed_prog (RawProg.While e a) = alone (Word (codes "while") ∷ Space ∷ (printed_form e).pieces ++ (Space ∷ Word (codes "do") ∷ Space ∷ block (printed_prog a)))
  printed_prog (RawProg.Local x t a) = alone (Word (codes "var") ∷ Space ∷ var_pieces x ++ (Space ∷ Mark (codes ":=") ∷ Space ∷ term_pieces t) ++ (Space ∷ Word (codes "in") ∷ Space ∷ block (printed_prog a)))
  printed_prog (RawProg.Call p ts rs) = alone (Ident p ∷ Mark (codes "(") ∷ terms_pieces ts ++ (Mark (codes ";") ∷ refs_pieces rs) ++ Mark (codes ")") ∷ [])
  printed_prog (RawProg.Choice a b) = alone (block (printed_prog a) ++ (Space ∷ Word (codes "or") ∷ Space ∷ block (printed_prog b)))

-- a formula as a whole
abbrev pub form_pieces : RawForm → List Piece
form_pieces form = (printed_form form).pieces
