use Rattle.std.proofs.Common.{◌≡◌, ◌+◌, ◌≤◌, ℕ, IfOk, map, subst}
use Rattle.std.specs.Prelude.{OnOk, Result, Ok, Err}
use Rattle.kv_fresh.proofs.Told.{row_told, visits_told}
use Rattle.kv_fresh.proofs.Turns.{told_first}
use Rattle.kv_fresh.specs.Indexes.{told}
use Rattle.kv_fresh.specs.States.{goal_of, view_over}
use Rattle.kv_syn.specs.ProjectBridge.{plain_proof, plain_theorem}
use Rattle.kv_syn.specs.declared.outcomes.Row.{Row}
use Rattle.kv_fresh.proofs.rows.row.Goals as goal

-- what holds holds where there is a value
on_ok : {A E : Type 0} (result : Result A E) (P : Type 0) → P → OnOk result P
on_ok (Ok x) P p = p
on_ok (Err e) P p = tt

pub returns-in_ok-outcome-in-Ok-clause-row : goal.returns-in_ok-outcome-in-Ok-clause-row
returns-in_ok-outcome-in-Ok-clause-row g c =
    let proofs = map plain_proof c.args.unit.now.proofs in
    let name = c.args.theorem.now.name in
    subst (λ (wanted : Row). IfOk c.replayed_row.result (λ (row : Row). row ≡ wanted))
    (row_told (view_over c.args.flat.now.sig) c.args.unit.now.name name proofs (told c.args.proofs.now name) (told_first c.args.proofs.now proofs c.requires.index name)
    c.in_ok-goal.field-0 c.in-Ok.goal c.in-Ok.is (goal_of c.args.flat.now.sig (plain_theorem c.args.theorem.now)) c.in_ok-goal.ensures.goal
    c.in_ok-outcome-in-Ok.outcome c.in_ok-outcome-in-Ok.ensures.outcome)
    c.replayed_row.ensures.row

pub returns-in_err-outcome-in-Ok-clause-at_most : goal.returns-in_err-outcome-in-Ok-clause-at_most
returns-in_err-outcome-in-Ok-clause-at_most g c =
    let proofs = map plain_proof c.args.unit.now.proofs in
    let name = c.args.theorem.now.name in
    subst (λ (n : ℕ). c.replayed.new.steps ≤ c.args.steps.now + n)
    (visits_told (view_over c.args.flat.now.sig) name proofs (told c.args.proofs.now name) (told_first c.args.proofs.now proofs c.requires.index name)
    c.in_ok-goal.field-0 c.in-Ok.goal c.in-Ok.is (goal_of c.args.flat.now.sig (plain_theorem c.args.theorem.now)) c.in_ok-goal.ensures.goal)
    c.replayed.ensures.at_most

pub returns-in_ok-outcome-in-Ok-clause-steps : goal.returns-in_ok-outcome-in-Ok-clause-steps
returns-in_ok-outcome-in-Ok-clause-steps g c =
    let proofs = map plain_proof c.args.unit.now.proofs in
    let name = c.args.theorem.now.name in
    let counted = subst (λ (n : ℕ). c.replayed.new.steps ≡ c.args.steps.now + n)
    (visits_told (view_over c.args.flat.now.sig) name proofs (told c.args.proofs.now name) (told_first c.args.proofs.now proofs c.requires.index name)
    c.in_ok-goal.field-0 c.in-Ok.goal c.in-Ok.is (goal_of c.args.flat.now.sig (plain_theorem c.args.theorem.now)) c.in_ok-goal.ensures.goal)
    c.in_ok-outcome-in-Ok.ensures.steps in
    on_ok c.replayed_row.result _ counted

pub returns-in_ok-outcome-in-Ok-clause-at_most : goal.returns-in_ok-outcome-in-Ok-clause-at_most
returns-in_ok-outcome-in-Ok-clause-at_most g c =
    let proofs = map plain_proof c.args.unit.now.proofs in
    let name = c.args.theorem.now.name in
    subst (λ (n : ℕ). c.replayed.new.steps ≤ c.args.steps.now + n)
    (visits_told (view_over c.args.flat.now.sig) name proofs (told c.args.proofs.now name) (told_first c.args.proofs.now proofs c.requires.index name)
    c.in_ok-goal.field-0 c.in-Ok.goal c.in-Ok.is (goal_of c.args.flat.now.sig (plain_theorem c.args.theorem.now)) c.in_ok-goal.ensures.goal)
    c.in_ok-outcome-in-Ok.ensures.at_most
