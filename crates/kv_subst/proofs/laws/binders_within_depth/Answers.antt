use Rattle.kv_subst.proofs.Proved.{binders_within}
use Rattle.kv_subst.proofs.laws.binders_within_depth.Goals as goal

pub returns : goal.returns
returns c = binders_within
