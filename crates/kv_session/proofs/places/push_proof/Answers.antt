use Rattle.std.proofs.Common.{refl}
use Rattle.std.proofs.lemmas.Result.{on_err_weaker, on_ok_weaker}
use Rattle.kv_session.proofs.Changed.{proof_pushed, proofs_kept, readable-set}
use Rattle.kv_session.proofs.places.push_proof.Goals as goal

pub returns-clause-ok : goal.returns-clause-ok
returns-clause-ok c = on_ok_weaker c.push.result (proof_pushed c.args.units.now c.args.place c.item_mut.result.now c.args.proof c.push.new.self c.item_mut.ensures.value) c.push.ensures.ok

pub returns-clause-err : goal.returns-clause-err
returns-clause-err c = on_err_weaker c.push.result (proofs_kept c.args.units.now c.args.place c.item_mut.result.now c.push.new.self c.item_mut.ensures.value) c.push.ensures.err

pub returns-clause-readable : goal.returns-clause-readable
returns-clause-readable c = readable-set c.args.units.now c.args.place c.item_mut.result.now _ c.item_mut.ensures.value refl
