use Rattle.kv_elab.proofs.Lists.{counted}
use Rattle.kv_elab.proofs.terms.count.Goals as goal

pub returns-clause-count : goal.returns-clause-count
returns-clause-count c = counted c.args.terms.now
