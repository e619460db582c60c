-- A law of premises.
use Rattle.std.specs.Prelude.{◌≡◌}
use Rattle.kv_sig.specs.Members.{Every}
use Rattle.kv_sig.specs.Steps.{TypedStep}
use Rattle.kv_sig.specs.Views.{View, AnswersAlike}
use Rattle.kv_trees.specs.Trees.{Sequent}
use Rattle.kv_prop.specs.Premises.{premises, needs}

-- where two views answer alike what a step needs, its premises are the same
abbrev pub SamePremises : Type 0
SamePremises = (v w : View) (s : Sequent) (step : TypedStep) → Every (AnswersAlike v w) (needs step.text) → premises v s step ≡ premises w s step
