use Rattle.kv_session.proofs.Back.{reads_back}
use Rattle.kv_session.proofs.Sound.{spellable}
use Rattle.kv_session.proofs.laws.reads_back.Goals as goal

pub returns-clause-spelt : goal.returns-clause-spelt
returns-clause-spelt c = spellable

pub returns-clause-back : goal.returns-clause-back
returns-clause-back c = reads_back

pub returns-clause-again : goal.returns-clause-again
returns-clause-again c text project reads = reads_back project (spellable text project reads)
