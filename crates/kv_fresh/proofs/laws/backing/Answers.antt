use Rattle.kv_fresh.proofs.Backed.{backing}
use Rattle.kv_fresh.proofs.laws.backing.Goals as goal

pub returns : goal.returns
returns c = backing
