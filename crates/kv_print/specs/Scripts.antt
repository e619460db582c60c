-- The layout of steps and scripts.
use Rattle.std.specs.Prelude.{ℕ, if◌then◌else◌, ◌==◌, List, [], ◌∷◌, ◌++◌, Option, Some, None, codes, flat_map}
use Rattle.kv_raw.specs.RawTrees.{RawForm}
use Rattle.kv_syn.specs.Scripts.{Step, StepText, Script, Scripts}
use Rattle.kv_syn.specs.declared.scripts.Side.{Side}
use Rattle.kv_syn.specs.declared.scripts.Side.TheVariants.{L, R}
use Rattle.kv_table.specs.Rules.{rule_rows}
use Rattle.kv_table.specs.Rules as rule
use Rattle.kv_print.specs.Pieces.{Piece}
use Rattle.kv_print.specs.Pieces.Piece.{Space, Word, Ident, Number, Label, Mark}
use Rattle.kv_print.specs.Forms.{form_pieces, term_pieces}
use Rattle.kv_print.specs.Texts.{word}

abbrev pub side_pieces : Side → List Piece
side_pieces L = Space ∷ Word (codes "L") ∷ []
side_pieces R = Space ∷ Word (codes "R") ∷ []

abbrev pub number_pieces : List ℕ → List Piece
number_pieces = flat_map (λ number. Space ∷ Number number ∷ [])

-- the numbers of a step and its side: the side stands before one number, and between two
abbrev pub place_pieces : Option Side → List ℕ → List Piece
place_pieces None numbers = number_pieces numbers
place_pieces (Some side) (i ∷ j ∷ more) = Space ∷ Number i ∷ side_pieces side ++ number_pieces (j ∷ more)
place_pieces (Some side) numbers = side_pieces side ++ number_pieces numbers

-- the text of a step by a rule: a formula stands behind `with`, but not that of `cut`
abbrev pub text_pieces : ℕ → StepText → List Piece
text_pieces row StepText.Nothing = []
text_pieces row (StepText.Fresh x) = Space ∷ Word (codes "as") ∷ Space ∷ Ident x ∷ []
text_pieces row (StepText.OfTerm t) = Space ∷ Word (codes "with") ∷ Space ∷ term_pieces t
text_pieces row (StepText.OfForm f) = (if row == rule.CUT then [] else Space ∷ Word (codes "with") ∷ []) ++ Space ∷ form_pieces f
text_pieces row (StepText.OfLabel l) = Space ∷ Label l ∷ []

-- a step: its words with single spaces
abbrev pub step_pieces : Step → List Piece
step_pieces step = Word (word rule_rows step.rule) ∷ place_pieces step.side step.numbers ++ text_pieces step.rule step.text

-- what stands behind a step that has children, by the first of them and the others: one child behind a semicolon,
-- several in braces
abbrev pub behind_step : Scripts → List Piece → List Piece → List Piece
behind_step Scripts.none first others = Mark (codes ";") ∷ Space ∷ first
behind_step (Scripts.more s rest) first others = Space ∷ Mark (codes "{") ∷ Space ∷ first ++ others ++ Space ∷ Mark (codes "}") ∷ []

abbrev mutual
  pub script_pieces : Script → List Piece
  script_pieces Script.Hole = Word (codes "open") ∷ []
  script_pieces (Script.Node step children) = step_pieces step ++ children_pieces children

  pub children_pieces : Scripts → List Piece
  children_pieces Scripts.none = []
  children_pieces (Scripts.more s rest) = behind_step rest (script_pieces s) (other_children rest)

  pub other_children : Scripts → List Piece
  other_children Scripts.none = []
  other_children (Scripts.more s rest) = Space ∷ Mark (codes "|") ∷ Space ∷ script_pieces s ++ other_children rest
