use Rattle.std.proofs.Common.{◌∙◌}
use Rattle.kv_session.specs.Sessions.{project_of}
use Rattle.kv_top.proofs.Loops.{saves-nothing, saves-text}
use Rattle.kv_top.proofs.serving.save.Goals as goal

pub returns-then-not-asked-clause-saves : goal.returns-then-not-asked-clause-saves
returns-then-not-asked-clause-saves g c = saves-nothing c.args.asked (project_of c.args.session.now) (g.S.Store.held c.args.store.now) c.if-not-asked.true

pub returns-in-Ok-save-clause-saves : goal.returns-in-Ok-save-clause-saves
returns-in-Ok-save-clause-saves g c =
    saves-text c.args.asked (project_of c.args.session.now) (g.S.Store.held c.args.store.now) (g.S.Store.held c.save.new.self) c.bytes.result.now
    c.if-not-asked.false (c.bytes.ensures ∙ c.in-Ok.ensures) c.in-Ok-save.ensures.told
