use Rattle.std.proofs.Common.{sym, subst, ap, Err}
use Rattle.kv_syn.specs.ProjectBridge.{plain_project}
use Rattle.kv_top.specs.Calls.{Calls, IsStatusOf}
use Rattle.kv_top.specs.Files.{Shows}
use Rattle.kv_top.specs.declared.status.Status.{Status}
use Rattle.kv_top.specs.declared.words.Mode.{Mode}
use Rattle.kv_top.proofs.Calls.{calls-unloaded, calls-shown, calls-served, unloaded-status, shown-status, served-status, unloaded-read, unloaded-write, served-loaded, shown-loaded, shown-nothing}
use Rattle.kv_top.proofs.Loops.{rose-from}
use Rattle.kv_top.proofs.running.call.Goals as goal

pub returns-clause-among : goal.returns-clause-among
returns-clause-among g c = unloaded-status c.args.mode c.in-Err.status c.in-Err.ensures.among

pub returns-clause-says : goal.returns-clause-says
returns-clause-says g c =
    calls-unloaded c.args.mode (g.I.Source.left c.args.input.now) (g.O.Sink.wrote c.args.output.now) (g.S.Store.held c.args.store.now)
    (g.S.Store.held c.load.new.store) c.in-Err.status c.in-Err.ensures.held c.in-Err.ensures.says

pub returns-clause-read_fault : goal.returns-clause-read_fault
returns-clause-read_fault g c = λ e. absurd (unloaded-read c.in-Err.status c.in-Err.ensures.among e)

pub returns-clause-write_fault : goal.returns-clause-write_fault
returns-clause-write_fault g c = λ e. absurd (unloaded-write c.in-Err.status c.in-Err.ensures.among e)

pub returns-clause-store_fault : goal.returns-clause-store_fault
returns-clause-store_fault g c = λ e. c.in-Err.ensures.store_fault (ap Err e)

pub returns-in-Check-clause-among : goal.returns-in-Check-clause-among
returns-in-Check-clause-among g c =
    subst (λ (mode : Mode). IsStatusOf mode c.show.result) (sym c.in-Check.is)
    (shown-status (plain_project c.in-Ok.project) (g.O.Sink.wrote c.args.output.now) (g.O.Sink.wrote c.show.new.output) c.show.result c.show.ensures.shows)

pub returns-in-Check-clause-says : goal.returns-in-Check-clause-says
returns-in-Check-clause-says g c =
    subst (λ (mode : Mode). Calls mode (g.I.Source.left c.args.input.now) (g.I.Source.left c.args.input.now)
    (record { wrote = g.O.Sink.wrote c.args.output.now; held = g.S.Store.held c.args.store.now })
    (record { wrote = g.O.Sink.wrote c.show.new.output; held = g.S.Store.held c.load.new.store }) c.show.result) (sym c.in-Check.is)
    (calls-shown (g.I.Source.left c.args.input.now) (g.I.Source.left c.args.input.now) (g.O.Sink.wrote c.args.output.now) (g.O.Sink.wrote c.show.new.output)
    (g.S.Store.held c.args.store.now) (g.S.Store.held c.load.new.store) c.in-Ok.project c.show.result c.in-Ok.ensures.says c.show.ensures.shows)

pub returns-in-Check-clause-read_fault : goal.returns-in-Check-clause-read_fault
returns-in-Check-clause-read_fault g c = λ e. absurd
    (subst (λ (s : Status). Shows (plain_project c.in-Ok.project) (g.O.Sink.wrote c.args.output.now) (g.O.Sink.wrote c.show.new.output) s) e c.show.ensures.shows)

pub returns-in-Check-clause-store_fault : goal.returns-in-Check-clause-store_fault
returns-in-Check-clause-store_fault g c = λ e. absurd
    (subst (λ (s : Status). Shows (plain_project c.in-Ok.project) (g.O.Sink.wrote c.args.output.now) (g.O.Sink.wrote c.show.new.output) s) e c.show.ensures.shows)

pub returns-in-Check-clause-nothing : goal.returns-in-Check-clause-nothing
returns-in-Check-clause-nothing g c = λ is among. c.show.ensures.nothing
    (shown-nothing (plain_project c.in-Ok.project) (g.O.Sink.wrote c.args.output.now) (g.O.Sink.wrote c.show.new.output) c.show.result c.show.ensures.shows among)

pub returns-in-Check-clause-nothing_written : goal.returns-in-Check-clause-nothing_written
returns-in-Check-clause-nothing_written g c = λ among. absurd
    (shown-loaded (plain_project c.in-Ok.project) (g.O.Sink.wrote c.args.output.now) (g.O.Sink.wrote c.show.new.output) c.show.result c.show.ensures.shows among)

pub returns-in-Ok-clause-among : goal.returns-in-Ok-clause-among
returns-in-Ok-clause-among g c =
    subst (λ (mode : Mode). IsStatusOf mode c.answer_all.result) (sym c.in-Run.is) (served-status c.answer_all.result c.answer_all.ensures.among)

pub returns-in-Ok-clause-says : goal.returns-in-Ok-clause-says
returns-in-Ok-clause-says g c =
    subst (λ (mode : Mode). Calls mode (g.I.Source.left c.args.input.now) (g.I.Source.left c.answer_all.new.input)
    (record { wrote = g.O.Sink.wrote c.args.output.now; held = g.S.Store.held c.args.store.now })
    (record { wrote = g.O.Sink.wrote c.answer_all.new.output; held = g.S.Store.held c.answer_all.new.store }) c.answer_all.result) (sym c.in-Run.is)
    (calls-served c.in-Ok.project (g.I.Source.left c.args.input.now) (g.I.Source.left c.answer_all.new.input) (g.O.Sink.wrote c.args.output.now)
    (g.O.Sink.wrote c.answer_all.new.output) (g.S.Store.held c.args.store.now) (g.S.Store.held c.load.new.store) (g.S.Store.held c.answer_all.new.store)
    c.answer_all.result c.in-Ok.ensures.held c.in-Ok.ensures.says c.answer_all.ensures.serves)

pub returns-in-Ok-clause-store_fault : goal.returns-in-Ok-clause-store_fault
returns-in-Ok-clause-store_fault g c = λ e.
    rose-from (g.S.Store.faults c.args.store.now) (g.S.Store.faults c.load.new.store) (g.S.Store.faults c.answer_all.new.store) c.in-Ok.ensures.later (c.answer_all.ensures.store_fault e)

pub returns-in-Ok-clause-nothing_read : goal.returns-in-Ok-clause-nothing_read
returns-in-Ok-clause-nothing_read g c = λ among. absurd (served-loaded c.answer_all.result c.answer_all.ensures.among among)

pub returns-in-Ok-clause-nothing_written : goal.returns-in-Ok-clause-nothing_written
returns-in-Ok-clause-nothing_written g c = λ among. absurd (served-loaded c.answer_all.result c.answer_all.ensures.among among)

pub returns-in-Ok-clause-nothing_saved : goal.returns-in-Ok-clause-nothing_saved
returns-in-Ok-clause-nothing_saved g c = λ among. absurd (served-loaded c.answer_all.result c.answer_all.ensures.among among)
