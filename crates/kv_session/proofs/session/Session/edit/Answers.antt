use Rattle.kv_session.proofs.Spellings.{stays_spellable}
use Rattle.kv_session.specs.Answers.{plain_edit}
use Rattle.kv_session.specs.Sessions.{project_of}
use Rattle.kv_syn.specs.ProjectBridge.{plain_project}
use Rattle.kv_session.proofs.session.Session.edit.Goals as goal

pub returns-in-Ok-clause-spelt : goal.returns-in-Ok-clause-spelt
unfolding project_of
returns-in-Ok-clause-spelt g c =
    stays_spellable (plain_project c.args.self.now.project) (plain_project c.edit_project.new.project) (plain_edit c.args.edit)
    c.requires.spelt c.in-Ok.ensures.answer c.requires.project
