use Rattle.kv_subst.proofs.Renamings.{renaming_of_openings}
use Rattle.kv_subst.proofs.laws.renaming_keeps_openings.Goals as goal

pub returns : goal.returns
returns c = renaming_of_openings
