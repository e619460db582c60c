use Rattle.kv_calc.proofs.Typings.{closing_typed}
use Rattle.kv_calc.proofs.typing.typing_of_a_closing.Goals as goal

pub returns : goal.returns
returns c = closing_typed
