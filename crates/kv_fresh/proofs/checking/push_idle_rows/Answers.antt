use Rattle.std.proofs.Common.{◌≡◌, ◌+◌, List, ◌∷◌, ◌++◌, drop, map, subst}
use Rattle.kv_fresh.proofs.Idle.{added, all_more, passed_over}
use Rattle.kv_fresh.proofs.Turns.{told_name, turned}
use Rattle.kv_fresh.specs.Indexes.{AreNamesOf}
use Rattle.kv_fresh.specs.States.{idle_rows}
use Rattle.kv_syn.specs.ProjectBridge.{plain_proof, plain_theorem, plain_unit}
use Rattle.kv_syn.specs.declared.units.Proof.{Proof}
use Rattle.kv_syn.specs.declared.units.Theorem.{Theorem}
use Rattle.kv_fresh.proofs.checking.push_idle_rows.Goals as goal

pub loop-proof-preserved-then-contains : goal.loop-proof-preserved-then-contains
loop-proof-preserved-then-contains c =
    let unit = c.args.unit.now in
    let i = c.loop-proof.proof-index in
    let x = c.proof-item.result in
    let turn = subst (λ (ps : List Proof). map plain_proof (drop i ps) ≡ (plain_proof x ∷ map plain_proof (drop (i + 1) ps))) c.items-proof-items.ensures
    (turned plain_proof c.items-proof-items.result.now i x c.loop-proof-test.true c.proof-item.is) in
    let are = subst (λ (ts : List Theorem). AreNamesOf (map plain_theorem ts) c.in_ok-theorems.theorems) c.items.ensures c.in_ok-theorems.ensures in
    let named = told_name c.in_ok-theorems.theorems (map plain_theorem unit.theorems) are c.bytes.result.now x.name c.bytes.ensures c.contains.result c.contains.ensures in
    record {
      rows = c.loop-proof.invariant.rows;
      added = passed_over unit.name (map plain_theorem unit.theorems) (plain_proof x) _ _ turn c.loop-proof.rows (c.args.rows.now ++ idle_rows (plain_unit unit)) c.loop-proof.invariant.added
          c.contains.result named c.if-contains.true;
    }

pub loop-proof-preserved : goal.loop-proof-preserved
loop-proof-preserved c =
    let unit = c.args.unit.now in
    let i = c.loop-proof.proof-index in
    let x = c.proof-item.result in
    let turn = subst (λ (ps : List Proof). map plain_proof (drop i ps) ≡ (plain_proof x ∷ map plain_proof (drop (i + 1) ps))) c.items-proof-items.ensures
    (turned plain_proof c.items-proof-items.result.now i x c.loop-proof-test.true c.proof-item.is) in
    let are = subst (λ (ts : List Theorem). AreNamesOf (map plain_theorem ts) c.in_ok-theorems.theorems) c.items.ensures c.in_ok-theorems.ensures in
    let named = told_name c.in_ok-theorems.theorems (map plain_theorem unit.theorems) are c.bytes.result.now x.name c.bytes.ensures c.contains.result c.contains.ensures in
    record {
      rows = all_more c.loop-proof.rows c.in_ok-idle_row.field-0 c.push.new.self c.loop-proof.invariant.rows c.in_ok-idle_row.ensures.rows c.in_ok-push.ensures.ok;
      added = added unit.name (map plain_theorem unit.theorems) (plain_proof x) _ _ turn c.loop-proof.rows (c.args.rows.now ++ idle_rows (plain_unit unit)) c.loop-proof.invariant.added
          c.contains.result named c.if-contains.false c.in_ok-idle_row.field-0 c.push.new.self c.in_ok-idle_row.ensures.row c.in_ok-push.ensures.ok;
    }
