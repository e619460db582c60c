use Rattle.kv_subst.proofs.Proved.{admissible_openings}
use Rattle.kv_subst.proofs.laws.admissible_openings_fit.Goals as goal

pub returns : goal.returns
returns c = admissible_openings
