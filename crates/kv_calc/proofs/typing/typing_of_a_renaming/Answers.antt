use Rattle.kv_calc.proofs.Typings.{renaming_typed}
use Rattle.kv_calc.proofs.typing.typing_of_a_renaming.Goals as goal

pub returns : goal.returns
returns c = renaming_typed
