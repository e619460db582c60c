use Rattle.kv_flat.proofs.Kept.{not_clashing}
use Rattle.kv_syn.specs.ProjectBridge.{plain_item}
use Rattle.kv_flat.proofs.items.declare.Goals as goal

pub returns-clause-item : goal.returns-clause-item
returns-clause-item c = not_clashing c.args.sig.now c.add.new.sig (plain_item c.args.item.now) c.in_ok-symbol.symbol c.in_ok-symbol.ensures c.in_ok-add.ensures.symbol c.check_behind.result c.check_behind.ensures.fault
