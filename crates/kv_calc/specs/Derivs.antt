-- The derivations of the code as plain data. A step names its schema by the row of its rule; that of `use` names `axiom`, whose
-- text is the formula, and the text of `subst` is its body.
use Rattle.std.specs.Prelude.{ℕ, ◌==◌, if◌then◌else◌, List, [], ◌∷◌, Option, Some, None}
use Rattle.kv_trees.specs.Bridge.{plain_sequent}
use Rattle.kv_names.specs.Names.{Name}
use Rattle.kv_trees.specs.Trees.{Term, Form}
use Rattle.kv_syn.specs.declared.scripts.Side.{Side}
use Rattle.kv_sig.specs.Steps.{TypedText, TypedStep, plain_typed_step, beside}
use Rattle.kv_table.specs.Rules as rule
use Rattle.kv_calc.specs.Calculus.{Step}
use Rattle.kv_calc.specs.Calculus as c
use Rattle.kv_calc.specs.declared.derivs.Deriv.{Deriv, fold-Deriv}
use Rattle.kv_calc.specs.declared.derivs.Deriv.TheOpen.{Deriv-F}

abbrev pub number_rows : List (ℕ × (ℕ → Step))
number_rows =
    (rule.FALSE_L, Step.false_left) ∷ (rule.TRUE_R, Step.true_right) ∷ (rule.NOT_L, Step.not_left) ∷ (rule.NOT_R, Step.not_right)
    ∷ (rule.AND_L, Step.and_left) ∷ (rule.OR_R, Step.or_right) ∷ (rule.AND_R, Step.and_right) ∷ (rule.OR_L, Step.or_left)
    ∷ (rule.IMP_L, Step.imp_left) ∷ (rule.IMP_R, Step.imp_right) ∷ (rule.IFF_L, Step.iff_left) ∷ (rule.IFF_R, Step.iff_right)
    ∷ (rule.DROP_L, Step.drop_left) ∷ (rule.DROP_R, Step.drop_right) ∷ (rule.REFL, Step.reflexive) ∷ []

abbrev pub name_rows : List (ℕ × (ℕ → Name → Step))
name_rows = (rule.ALL_R, Step.all_right) ∷ (rule.EX_L, Step.ex_left) ∷ []

abbrev pub term_rows : List (ℕ × (ℕ → Term → Step))
term_rows = (rule.ALL_L, Step.all_left) ∷ (rule.EX_R, Step.ex_right) ∷ []

abbrev pub form_rows : List (ℕ × (Form → Step))
form_rows = (rule.CUT, Step.cut) ∷ (rule.USE, Step.axiom_of) ∷ []

abbrev pub step_where : ℕ → List ℕ → TypedText → Step
step_where row (i ∷ []) TypedText.Nothing = beside row number_rows (λ i. Step.other) i
step_where row (i ∷ j ∷ []) TypedText.Nothing = if row == rule.CLOSE then Step.close i j else Step.other
step_where row (i ∷ []) (TypedText.Fresh x) = beside row name_rows (λ i x. Step.other) i x
step_where row (i ∷ []) (TypedText.OfTerm t) = beside row term_rows (λ i t. Step.other) i t
step_where row [] (TypedText.OfForm f) = beside row form_rows (λ f. Step.other) f
step_where row numbers text = Step.other

abbrev pub step_on : ℕ → Side → List ℕ → TypedText → Step
step_on row side (i ∷ []) TypedText.Nothing = if row == rule.SWAP then Step.swap side i else Step.other
step_on row side (i ∷ j ∷ []) (TypedText.OfForm body) = if row == rule.SUBST then Step.replace i side j body else Step.other
step_on row side numbers text = Step.other

abbrev pub step_by : TypedStep → Option Side → Step
step_by step None = step_where step.rule step.numbers step.text
step_by step (Some side) = step_on step.rule side step.numbers step.text

abbrev pub step_of : TypedStep → Step
step_of step = step_by step step.side

-- ---- the code's tree

abbrev pub derivs_of : List c.Deriv → c.Derivs
derivs_of [] = c.Derivs.none
derivs_of (d ∷ ds) = c.Derivs.more d (derivs_of ds)

abbrev pub plain_deriv_step : Deriv-F c.Deriv → c.Deriv
plain_deriv_step d = c.Deriv.node (step_of (plain_typed_step d.step)) (plain_sequent d.sequent) (derivs_of d.children)

abbrev pub plain_deriv : Deriv → c.Deriv
plain_deriv = fold-Deriv c.Deriv plain_deriv_step
