use Rattle.kv_subst.proofs.Proved.{variables_renamed}
use Rattle.kv_subst.proofs.laws.variables_of_a_renaming.Goals as goal

pub returns : goal.returns
returns c = variables_renamed
