use Rattle.kv_punit.proofs.One.{one_spelling}
use Rattle.kv_punit.proofs.Texts.{one_project}
use Rattle.kv_punit.proofs.projects.one_project.Goals as goal

pub returns-clause-tokens : goal.returns-clause-tokens
returns-clause-tokens c = one_spelling

pub returns-clause-text : goal.returns-clause-text
returns-clause-text c = one_project
