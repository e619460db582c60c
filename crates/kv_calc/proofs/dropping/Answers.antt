use Rattle.kv_calc.proofs.Derivations.{dropping}
use Rattle.kv_calc.proofs.dropping.Goals as goal

pub returns : goal.returns
returns c = dropping
