use Rattle.kv_sig.proofs.Kept.{popped}
use Rattle.kv_sig.proofs.sigs.Sig.pop.Goals as goal

pub invariant_of-self : goal.invariant_of-self
invariant_of-self c = popped c.self.inside.symbols c.pop.new.self c.self.inside.places c.pop.result c.pop.ensures c.self.invariant
