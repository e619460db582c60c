use Rattle.std.proofs.Common.{subst}
use Rattle.kv_syn.specs.ProjectBridge.{plain_project}
use Rattle.kv_syn.specs.Projects as P
use Rattle.kv_top.specs.Runs.{Serves}
use Rattle.kv_top.proofs.Loops.{served-none}
use Rattle.kv_top.proofs.running.answer_all.Goals as goal

pub returns-in_default-clause-serves : goal.returns-in_default-clause-serves
returns-in_default-clause-serves g c = served-none (plain_project c.args.project.now) (g.I.Source.left c.args.input.now)
    (record { wrote = g.O.Sink.wrote c.args.output.now; held = g.S.Store.held c.args.store.now })

pub returns-clause-serves : goal.returns-clause-serves
returns-clause-serves g c =
    subst (λ (project : P.Project). Serves project (g.I.Source.left c.args.input.now) (g.I.Source.left c.serve.new.input)
    (record { wrote = g.O.Sink.wrote c.args.output.now; held = g.S.Store.held c.args.store.now })
    (record { wrote = g.O.Sink.wrote c.serve.new.output; held = g.S.Store.held c.serve.new.store }) c.serve.result)
    c.in-Ok.ensures c.serve.ensures.serves
