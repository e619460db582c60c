use Rattle.kv_session.proofs.Changed.{still_within}
use Rattle.kv_session.proofs.edits.insert_theorem.Goals as goal
use Rattle.kv_session.specs.Places.{more_theorems}

pub pop_theorem-requires : goal.pop_theorem-requires
pop_theorem-requires g c = still_within (more_theorems c.args.theorem) c.args.project.now.units c.push_theorem.new.units c.args.place c.in_ok-push_theorem.ensures.ok c.requires
