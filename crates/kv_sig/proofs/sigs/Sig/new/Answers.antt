use Rattle.kv_sig.proofs.Kept.{empty}
use Rattle.kv_sig.proofs.sigs.Sig.new.Goals as goal

pub invariant_of-result : goal.invariant_of-result
invariant_of-result c = empty c.new.result c.new-2.result c.new.ensures
