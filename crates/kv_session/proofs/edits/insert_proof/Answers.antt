use Rattle.kv_session.proofs.Changed.{still_within}
use Rattle.kv_session.proofs.edits.insert_proof.Goals as goal
use Rattle.kv_session.specs.Places.{more_proofs}

pub pop_proof-requires : goal.pop_proof-requires
pop_proof-requires g c = still_within (more_proofs c.args.proof) c.args.project.now.units c.push_proof.new.units c.args.place c.in_ok-push_proof.ensures.ok c.requires
