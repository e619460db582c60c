use Rattle.std.proofs.Common.{Some, None, get_or}
use Rattle.kv_session.proofs.Found.{item_at}
use Rattle.kv_session.proofs.Making.{made-proof-new, made-proof-there, proof_found, proof_there, then_limits, unknown-proof}
use Rattle.kv_session.proofs.edits.put_proof.Goals as goal

pub returns-in_err-place-clause-answer : goal.returns-in_err-place-clause-answer
returns-in_err-place-clause-answer g c =
    unknown-proof _ c.args.unit.now c.args.proof c.args.project.now.units c.in_err-place.field-0.0 c.from_residual.result c.in_err-place.ensures.finds c.from_residual.ensures.1

pub replace_proof-requires : goal.replace_proof-requires
replace_proof-requires g c =
    let unit = c.index-items-place.result in
    let there = item_at c.args.project.now.units c.items.result.now c.in_ok-place.place unit c.items.ensures c.index-items-place.is c.in_ok-place.ensures.place in
    let found = proof_found c.args.proof.name unit (get_or c.items.result.now c.in_ok-place.place unit) c.items-proofs.result.now c.proof_place.result (Some c.in-Some.at) c.items-proofs.ensures c.index-items-place.is c.proof_place.ensures c.in-Some.is in
    proof_there c.args.proof.name c.args.project.now.units c.in_ok-place.place c.in-Some.at unit there found

pub returns-in-Some-clause-answer : goal.returns-in-Some-clause-answer
returns-in-Some-clause-answer g c =
    let unit = c.index-items-place.result in
    let there = item_at c.args.project.now.units c.items.result.now c.in_ok-place.place unit c.items.ensures c.index-items-place.is c.in_ok-place.ensures.place in
    let found = proof_found c.args.proof.name unit (get_or c.items.result.now c.in_ok-place.place unit) c.items-proofs.result.now c.proof_place.result (Some c.in-Some.at) c.items-proofs.ensures c.index-items-place.is c.proof_place.ensures c.in-Some.is in
    then_limits _ _ _ c.replace_proof.result
    (made-proof-there c.args.unit.now c.args.proof c.args.project.now.units c.in_ok-place.place c.in-Some.at unit c.in_ok-place.ensures.finds there found) c.replace_proof.ensures.answer

pub returns-in-None-clause-answer : goal.returns-in-None-clause-answer
returns-in-None-clause-answer g c =
    let unit = c.index-items-place.result in
    let there = item_at c.args.project.now.units c.items.result.now c.in_ok-place.place unit c.items.ensures c.index-items-place.is c.in_ok-place.ensures.place in
    let found = proof_found c.args.proof.name unit (get_or c.items.result.now c.in_ok-place.place unit) c.items-proofs.result.now c.proof_place.result None c.items-proofs.ensures c.index-items-place.is c.proof_place.ensures c.in-None.is in
    then_limits _ _ _ c.insert_proof.result
    (made-proof-new c.args.unit.now c.args.proof c.args.project.now.units c.in_ok-place.place unit c.in_ok-place.ensures.finds there found) c.insert_proof.ensures.answer
