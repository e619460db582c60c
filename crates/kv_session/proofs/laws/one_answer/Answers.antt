use Rattle.kv_session.proofs.Determined.{one_answer}
use Rattle.kv_session.proofs.laws.one_answer.Goals as goal

pub returns : goal.returns
returns c = one_answer
