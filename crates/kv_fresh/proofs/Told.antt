-- A row that is made from what look-ups tell is the row of its theorem, and its replay visits the steps of that.
use Rattle.std.proofs.Common.{◌≡◌, List, Option, Result, Ok, sym, ap, subst, ◌∙◌}
use Rattle.kv_fresh.proofs.Turns.{first_named}
use Rattle.kv_fresh.specs.Goals.{GoalIs}
use Rattle.kv_fresh.specs.States.{replayed_row, row_where, script_of, script_or_open}
use Rattle.kv_fresh.specs.Work.{visits_where}
use Rattle.kv_script.specs.Events.{outcome_of, replay_events, visits}
use Rattle.kv_sig.specs.Views.{View}
use Rattle.kv_trees.specs.Bridge.{plain_form}
use Rattle.kv_syn.specs.Projects as P
use Rattle.kv_names.specs.Names.{Name}
use Rattle.kv_trees.specs.Trees.{Form as FormTree}
use Rattle.kv_syn.specs.declared.outcomes.Outcome.{Outcome}
use Rattle.kv_syn.specs.declared.outcomes.Reason.{Reason}
use Rattle.kv_trees.specs.declared.trees.Form.{Form}

pub row_told : (view : View) (unit name : Name) (proofs : List P.Proof) (found : Option P.Proof) → found ≡ first_named proofs name
    → (answer : Result Form Reason) (goal : Form) → answer ≡ Ok goal → (wanted : Result FormTree Reason) → GoalIs answer wanted
    → (outcome : Outcome) → outcome ≡ outcome_of (replay_events view (plain_form goal) (script_or_open found))
    → replayed_row unit name outcome ≡ row_where view unit name (script_of proofs name) wanted
row_told view unit name proofs found first answer goal is wanted told outcome replayed =
    ap (replayed_row unit name) replayed
    ∙ ap (λ (proof : Option P.Proof). replayed_row unit name (outcome_of (replay_events view (plain_form goal) (script_or_open proof)))) first
    ∙ ap (row_where view unit name (script_of proofs name)) (sym (subst (λ (a : Result Form Reason). GoalIs a wanted) is told))

pub visits_told : (view : View) (name : Name) (proofs : List P.Proof) (found : Option P.Proof) → found ≡ first_named proofs name
    → (answer : Result Form Reason) (goal : Form) → answer ≡ Ok goal → (wanted : Result FormTree Reason) → GoalIs answer wanted
    → visits (replay_events view (plain_form goal) (script_or_open found)) ≡ visits_where view (script_of proofs name) wanted
visits_told view name proofs found first answer goal is wanted told =
    ap (λ (proof : Option P.Proof). visits (replay_events view (plain_form goal) (script_or_open proof))) first
    ∙ ap (visits_where view (script_of proofs name)) (sym (subst (λ (a : Result Form Reason). GoalIs a wanted) is told))
