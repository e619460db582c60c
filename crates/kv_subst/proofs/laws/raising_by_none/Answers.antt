use Rattle.kv_subst.proofs.Proved.{raising_none}
use Rattle.kv_subst.proofs.laws.raising_by_none.Goals as goal

pub returns : goal.returns
returns c = raising_none
