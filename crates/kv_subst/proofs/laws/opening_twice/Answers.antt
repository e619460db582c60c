use Rattle.kv_subst.proofs.Proved.{openings}
use Rattle.kv_subst.proofs.laws.opening_twice.Goals as goal

pub returns : goal.returns
returns c = openings
