-- Steps after typing, as plain data.
use Rattle.std.specs.Prelude.{ℕ, ◌==◌, if◌then◌else◌, List, [], ◌∷◌, Option}
use Rattle.kv_trees.specs.Bridge.{plain_term, plain_form}
use Rattle.kv_names.specs.Names.{Name}
use Rattle.kv_trees.specs.Trees.{Term, Form}
use Rattle.kv_syn.specs.declared.scripts.Side.{Side}
use Rattle.kv_syn.specs.declared.scripts.TypedStep.{TypedStep as StepRow}
use Rattle.kv_syn.specs.declared.scripts.TypedText.{TypedText as TextRow}
use Rattle.kv_syn.specs.declared.scripts.TypedText.TheVariants as row

pub data TypedText : Type 0 where
  Nothing : TypedText
  Fresh : (x : Name) → TypedText
  OfTerm : (t : Term) → TypedText
  OfForm : (f : Form) → TypedText
  OfLabel : (l : Name) → TypedText

pub record TypedStep : Type 0 where
  pub rule : ℕ
  pub side : Option Side
  pub numbers : List ℕ
  pub text : TypedText

abbrev pub plain_typed_text : TextRow → TypedText
plain_typed_text row.Nothing = TypedText.Nothing
plain_typed_text (row.Fresh x) = TypedText.Fresh x
plain_typed_text (row.OfTerm t) = TypedText.OfTerm (plain_term t)
plain_typed_text (row.OfForm f) = TypedText.OfForm (plain_form f)
plain_typed_text (row.OfLabel l) = TypedText.OfLabel l

abbrev pub plain_typed_step : StepRow → TypedStep
plain_typed_step step = record { rule = step.rule; side = step.side; numbers = step.numbers; text = plain_typed_text step.text }

-- what stands beside a rule in a table of rules; the last one where it isn't there
abbrev pub beside : {A : Type 0} → ℕ → List (ℕ × A) → A → A
beside row [] none = none
beside row (r ∷ rs) none = if row == r.0 then r.1 else beside row rs none
