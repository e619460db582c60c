use Rattle.std.proofs.Common.{◌∙◌, true, false, map, subst, sym}
use Rattle.kv_fresh.proofs.Turns.{LeadsSoFar, ended, leads_first, leads_last, leads_on, leads_to_new, told_where, turned}
use Rattle.kv_syn.specs.ProjectBridge.{plain_proof}
use Rattle.kv_fresh.proofs.indexes.proofs_by_name.Goals as goal

pub loop-proof-init : goal.loop-proof-init
loop-proof-init c = leads_first c.new-index.result (map plain_proof c.args.proofs.now) c.new-index.ensures.empty

pub loop-proof-preserved-then-contains_key : goal.loop-proof-preserved-then-contains_key
loop-proof-preserved-then-contains_key c =
    let x = c.proof-item.result in
    let turn = turned plain_proof c.args.proofs.now c.loop-proof.proof-index x c.loop-proof-test.true c.proof-item.is in
    let there = told_where c.loop-proof.index c.bytes.result.now x.name c.bytes.ensures true (sym c.contains_key.ensures ∙ c.if-contains_key.true) in
    leads_on c.loop-proof.index x _ _ there (subst (λ rest. LeadsSoFar c.loop-proof.index rest (map plain_proof c.args.proofs.now)) turn c.loop-proof.invariant)

pub loop-proof-preserved : goal.loop-proof-preserved
loop-proof-preserved c =
    let x = c.proof-item.result in
    let turn = turned plain_proof c.args.proofs.now c.loop-proof.proof-index x c.loop-proof-test.true c.proof-item.is in
    let absent = told_where c.loop-proof.index c.bytes.result.now x.name c.bytes.ensures false (sym c.contains_key.ensures ∙ c.if-contains_key.false) in
    leads_to_new c.loop-proof.index c.insert.new.self c.bytes-in-loop-proof.result _ c.bytes-in-loop-proof.ensures c.in_ok-insert.ensures.updates _ _ absent
    (subst (λ rest. LeadsSoFar c.loop-proof.index rest (map plain_proof c.args.proofs.now)) turn c.loop-proof.invariant)

pub returns : goal.returns
returns c =
    leads_last c.loop-proof.index (map plain_proof c.args.proofs.now)
    (subst (λ rest. LeadsSoFar c.loop-proof.index rest (map plain_proof c.args.proofs.now)) (ended plain_proof c.args.proofs.now c.loop-proof.proof-index c.loop-proof-test.false) c.loop-proof.invariant)
