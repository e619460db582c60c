use Rattle.kv_subst.proofs.Proved.{renaming_of_opened}
use Rattle.kv_subst.proofs.laws.renaming_what_is_opened.Goals as goal

pub returns : goal.returns
returns c = renaming_of_opened
