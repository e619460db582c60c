use Rattle.kv_subst.proofs.Proved.{opening_of_raised}
use Rattle.kv_subst.proofs.laws.opening_what_is_raised.Goals as goal

pub returns : goal.returns
returns c = opening_of_raised
