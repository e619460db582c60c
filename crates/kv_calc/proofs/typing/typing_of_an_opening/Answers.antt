use Rattle.kv_calc.proofs.Typings.{opening_typed}
use Rattle.kv_calc.proofs.typing.typing_of_an_opening.Goals as goal

pub returns : goal.returns
returns c = opening_typed
