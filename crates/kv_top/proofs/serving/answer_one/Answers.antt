use Rattle.std.proofs.Common.{List, ℕ, subst}
use Rattle.kv_io.specs.Outside.{Adds, AddsFront}
use Rattle.kv_session.specs.Sessions.{project_of}
use Rattle.kv_top.proofs.Loops.{takes-unsaved, takes-written, takes-front}
use Rattle.kv_top.proofs.serving.answer_one.Goals as goal

pub returns-in-Err-clause-takes : goal.returns-in-Err-clause-takes
returns-in-Err-clause-takes g c =
    takes-unsaved (project_of c.args.session.now) c.args.command.now c.in-Ok.answer.bytes c.in-Ok.answer.save (project_of c.step.new.self) (g.O.Sink.wrote c.args.output.now)
    (g.S.Store.held c.args.store.now) (g.S.Store.held c.save.new.store) c.in-Err.status c.in-Ok.ensures.answered c.in-Err.ensures.saves

pub returns-in-Ok-write_all-clause-takes : goal.returns-in-Ok-write_all-clause-takes
returns-in-Ok-write_all-clause-takes g c =
    takes-written (project_of c.args.session.now) c.args.command.now c.in-Ok.answer.bytes c.in-Ok.answer.save (project_of c.step.new.self)
    (record { wrote = g.O.Sink.wrote c.args.output.now; held = g.S.Store.held c.args.store.now })
    (record { wrote = g.O.Sink.wrote c.write_all.new.output; held = g.S.Store.held c.save.new.store })
    c.in-Ok.ensures.answered c.in_default-save.ensures.saves
    (subst (λ (piece : List ℕ). Adds (g.O.Sink.wrote c.args.output.now) piece (g.O.Sink.wrote c.write_all.new.output)) c.bytes.ensures c.in-Ok-write_all.ensures.ok)

pub returns-clause-takes : goal.returns-clause-takes
returns-clause-takes g c =
    takes-front (project_of c.args.session.now) c.args.command.now c.in-Ok.answer.bytes c.in-Ok.answer.save (project_of c.step.new.self)
    (record { wrote = g.O.Sink.wrote c.args.output.now; held = g.S.Store.held c.args.store.now })
    (record { wrote = g.O.Sink.wrote c.write_all.new.output; held = g.S.Store.held c.save.new.store })
    c.in-Ok.ensures.answered c.in_default-save.ensures.saves
    (subst (λ (piece : List ℕ). AddsFront (g.O.Sink.wrote c.args.output.now) piece (g.O.Sink.wrote c.write_all.new.output)) c.bytes.ensures c.in-Err-write_all.ensures.err)
