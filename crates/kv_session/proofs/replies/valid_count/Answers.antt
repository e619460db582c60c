use Rattle.std.proofs.Common.{rules}
use Rattle.std.proofs.iter.runs.Made.{chains}
use Rattle.kv_session.proofs.replies.valid_count.Goals as goal

pub returns : goal.returns
returns c = search (rules, chains)
