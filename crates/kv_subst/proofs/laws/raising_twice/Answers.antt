use Rattle.kv_subst.proofs.Proved.{raisings}
use Rattle.kv_subst.proofs.laws.raising_twice.Goals as goal

pub returns : goal.returns
returns c = raisings
