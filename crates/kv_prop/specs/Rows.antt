-- What a step asks for, by its rule, its numbers, its side and its text.
use Rattle.std.specs.Prelude.{ℕ, ◌==◌, if◌then◌else◌, List, [], ◌∷◌, Option, Some, None}
use Rattle.kv_names.specs.Names.{Name}
use Rattle.kv_trees.specs.Trees.{Term, Form}
use Rattle.kv_syn.specs.declared.scripts.Side.{Side}
pub use Rattle.kv_sig.specs.Steps.{beside}
use Rattle.kv_sig.specs.Steps.{TypedText, TypedStep}
use Rattle.kv_table.specs.Rules as rule

pub data Row : Type 0 where
  close : (i j : ℕ) → Row
  false_left : (i : ℕ) → Row
  true_right : (i : ℕ) → Row
  not_left : (i : ℕ) → Row
  not_right : (i : ℕ) → Row
  and_left : (i : ℕ) → Row
  and_right : (i : ℕ) → Row
  or_left : (i : ℕ) → Row
  or_right : (i : ℕ) → Row
  imp_left : (i : ℕ) → Row
  imp_right : (i : ℕ) → Row
  iff_left : (i : ℕ) → Row
  iff_right : (i : ℕ) → Row
  drop_left : (i : ℕ) → Row
  drop_right : (i : ℕ) → Row
  cut : (f : Form) → Row
  all_left : (i : ℕ) → (t : Term) → Row
  all_right : (i : ℕ) → (x : Name) → Row
  ex_left : (i : ℕ) → (x : Name) → Row
  ex_right : (i : ℕ) → (t : Term) → Row
  reflexive : (i : ℕ) → Row
  swap : (side : Side) → (i : ℕ) → Row
  replace : (i : ℕ) → (side : Side) → (j : ℕ) → Row
  lemma_of : (l : Name) → Row
  other : Row

-- the rules with one number and nothing else
abbrev pub number_rows : List (ℕ × (ℕ → Row))
number_rows =
    (rule.FALSE_L, Row.false_left) ∷ (rule.TRUE_R, Row.true_right) ∷ (rule.NOT_L, Row.not_left) ∷ (rule.NOT_R, Row.not_right)
    ∷ (rule.AND_L, Row.and_left) ∷ (rule.OR_R, Row.or_right) ∷ (rule.AND_R, Row.and_right) ∷ (rule.OR_L, Row.or_left)
    ∷ (rule.IMP_L, Row.imp_left) ∷ (rule.IMP_R, Row.imp_right) ∷ (rule.IFF_L, Row.iff_left) ∷ (rule.IFF_R, Row.iff_right)
    ∷ (rule.DROP_L, Row.drop_left) ∷ (rule.DROP_R, Row.drop_right) ∷ (rule.REFL, Row.reflexive) ∷ []

-- `RULE i as x` and `RULE i with t`
abbrev pub name_rows : List (ℕ × (ℕ → Name → Row))
name_rows = (rule.ALL_R, Row.all_right) ∷ (rule.EX_L, Row.ex_left) ∷ []

abbrev pub term_rows : List (ℕ × (ℕ → Term → Row))
term_rows = (rule.ALL_L, Row.all_left) ∷ (rule.EX_R, Row.ex_right) ∷ []

abbrev pub row_where : ℕ → List ℕ → TypedText → Row
row_where row (i ∷ []) TypedText.Nothing = beside row number_rows (λ i. Row.other) i
row_where row (i ∷ j ∷ []) TypedText.Nothing = if row == rule.CLOSE then Row.close i j else Row.other
row_where row (i ∷ []) (TypedText.Fresh x) = beside row name_rows (λ i x. Row.other) i x
row_where row (i ∷ []) (TypedText.OfTerm t) = beside row term_rows (λ i t. Row.other) i t
row_where row [] (TypedText.OfForm f) = if row == rule.CUT then Row.cut f else Row.other
row_where row [] (TypedText.OfLabel l) = if row == rule.USE then Row.lemma_of l else Row.other
row_where row numbers text = Row.other

-- the side stands before one number, and between two
abbrev pub row_on : ℕ → Side → List ℕ → TypedText → Row
row_on row side (i ∷ []) TypedText.Nothing = if row == rule.SWAP then Row.swap side i else Row.other
row_on row side (i ∷ j ∷ []) TypedText.Nothing = if row == rule.SUBST then Row.replace i side j else Row.other
row_on row side numbers text = Row.other

abbrev pub row_by : TypedStep → Option Side → Row
row_by step None = row_where step.rule step.numbers step.text
row_by step (Some side) = row_on step.rule side step.numbers step.text

abbrev pub row_of : TypedStep → Row
row_of step = row_by step step.side
