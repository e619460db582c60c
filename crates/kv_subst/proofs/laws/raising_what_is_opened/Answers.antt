use Rattle.kv_subst.proofs.Proved.{raising_of_opened}
use Rattle.kv_subst.proofs.laws.raising_what_is_opened.Goals as goal

pub returns : goal.returns
returns c = raising_of_opened
