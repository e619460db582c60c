use Rattle.kv_session.proofs.Sound.{spellable}
use Rattle.kv_syn.specs.ProjectBridge.{plain_project}
use Rattle.kv_top.proofs.Files.{says_refused}
use Rattle.kv_top.proofs.running.read.Goals as goal

pub returns-in-Ok-clause-spelt : goal.returns-in-Ok-clause-spelt
returns-in-Ok-clause-spelt c = spellable c.args.bytes.now (plain_project c.in-Ok.project) c.in-Ok.ensures.reads

pub returns-in-Err-clause-says : goal.returns-in-Err-clause-says
returns-in-Err-clause-says c = says_refused c.args.bytes.now c.in-Err.fault c.in-Err.ensures.refuses c.status_of.result c.status_of.ensures
