use Rattle.std.proofs.Common.{map, refl, subst}
use Rattle.std.specs.Prelude.{IfOk}
use Rattle.std.specs.Bool.{Decides}
use Rattle.kv_syn.specs.Projects as P
use Rattle.kv_syn.specs.ProjectBridge.{plain_unit, plain_theorem, plain_proof}
use Rattle.kv_punit.specs.Limits.{AreDifferent}
use Rattle.kv_punit.proofs.Differing.{names_ok, names_not}
use Rattle.kv_punit.proofs.names.has_different_names.Goals as goal

pub returns-then-not-branch : goal.returns-then-not-branch
returns-then-not-branch c =
    names_not (plain_unit c.args.unit.now) c.in_ok-theorems_differ.field-0 _
    (subst (λ x. Decides c.in_ok-theorems_differ.field-0 (AreDifferent (map (λ (t : P.Theorem). t.name) (map plain_theorem x)))) c.items.ensures c.in_ok-theorems_differ.ensures) c.if-not-branch.true refl

pub returns : goal.returns
returns c =
    names_ok (plain_unit c.args.unit.now) c.in_ok-theorems_differ.field-0 c.proofs_differ.result
    (subst (λ x. Decides c.in_ok-theorems_differ.field-0 (AreDifferent (map (λ (t : P.Theorem). t.name) (map plain_theorem x)))) c.items.ensures c.in_ok-theorems_differ.ensures) c.if-not-branch.false
    (subst (λ x. IfOk c.proofs_differ.result (λ differ. Decides differ (AreDifferent (map (λ (p : P.Proof). p.name) (map plain_proof x))))) c.items-2.ensures c.proofs_differ.ensures)
