use Rattle.kv_prop.proofs.Alike.{same_premises}
use Rattle.kv_prop.proofs.laws.equal_answers_equal_premises.Goals as goal

pub returns : goal.returns
returns c = same_premises
