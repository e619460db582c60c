use Rattle.kv_subst.proofs.Proved.{variables_opened}
use Rattle.kv_subst.proofs.laws.variables_of_an_opening.Goals as goal

pub returns : goal.returns
returns c = variables_opened
