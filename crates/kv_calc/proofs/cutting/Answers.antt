use Rattle.kv_calc.proofs.Derivations.{cutting}
use Rattle.kv_calc.proofs.cutting.Goals as goal

pub returns : goal.returns
returns c = cutting
