use Rattle.kv_script.proofs.Alike.{same_replays}
use Rattle.kv_script.proofs.laws.equal_answers_equal_replays.Goals as goal

pub returns : goal.returns
returns c = same_replays
