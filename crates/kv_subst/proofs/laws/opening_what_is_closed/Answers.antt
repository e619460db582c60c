use Rattle.kv_subst.proofs.Proved.{opening_of_closed}
use Rattle.kv_subst.proofs.laws.opening_what_is_closed.Goals as goal

pub returns : goal.returns
returns c = opening_of_closed
