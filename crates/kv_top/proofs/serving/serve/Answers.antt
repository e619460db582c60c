use Rattle.std.proofs.Common.{◌∙◌, Err, refl, ap, arith}
use Rattle.kv_io.specs.declared.lines.Next.TheVariants as N
use Rattle.kv_session.specs.Sessions.{project_of}
use Rattle.kv_top.proofs.Loops.{rose-from, serving-none, serving-more, served-error, served-stop, takes-served, takes-unread, told-none}
use Rattle.kv_top.proofs.serving.serve.Goals as goal

pub commands-init : goal.commands-init
commands-init g c = record {
  going = ap (λ l. l.stop) c.new-lines.ensures.ahead;
  spelt = c.requires.spelt;
  chosen = refl;
  reads = omega arith;
  stores = omega arith;
  writes = omega arith;
  serving = serving-none (project_of c.args.session.now) (g.I.Source.left c.args.input.now)
      (record { wrote = g.O.Sink.wrote c.args.output.now; held = g.S.Store.held c.args.store.now })
      c.new-lines.result.ahead (ap (λ l. l.ahead) c.new-lines.ensures.ahead) c.new-lines.ensures.cut;
}

pub commands-preserved : goal.commands-preserved
commands-preserved g c =
    let i = c.commands.invariant in
    let n = c.in-Command.ensures in
    let e = c.in_default.ensures in
    record {
      going = n.stop;
      spelt = e.spelt;
      chosen = e.chosen ∙ i.chosen;
      reads = omega (arith, i.reads, n.later);
      stores = omega (arith, i.stores, e.stores_later);
      writes = omega (arith, i.writes, e.writes_later);
      serving = serving-more (project_of c.args.session.now) (g.I.Source.left c.args.input.now) (g.I.Source.left c.commands.input) (g.I.Source.left c.next_command.new.source)
          (record { wrote = g.O.Sink.wrote c.args.output.now; held = g.S.Store.held c.args.store.now })
          (record { wrote = g.O.Sink.wrote c.commands.output; held = g.S.Store.held c.commands.store })
          (record { wrote = g.O.Sink.wrote c.answer_one.new.output; held = g.S.Store.held c.answer_one.new.store })
          (project_of c.commands.session) (project_of c.answer_one.new.session) c.commands.lines.ahead c.next_command.new.lines.ahead
          c.in-Command.command c.bytes.result.now i.serving (told-none _ i.going n.tells) n.ended c.bytes.ensures e.takes;
    }

pub returns-in-Err-clause-serves : goal.returns-in-Err-clause-serves
returns-in-Err-clause-serves g c =
    let i = c.commands.invariant in
    let n = c.in-Command.ensures in
    let e = c.in-Err.ensures in
    served-error (project_of c.args.session.now) (g.I.Source.left c.args.input.now) (g.I.Source.left c.commands.input) (g.I.Source.left c.next_command.new.source)
    (record { wrote = g.O.Sink.wrote c.args.output.now; held = g.S.Store.held c.args.store.now })
    (record { wrote = g.O.Sink.wrote c.commands.output; held = g.S.Store.held c.commands.store })
    (record { wrote = g.O.Sink.wrote c.answer_one.new.output; held = g.S.Store.held c.answer_one.new.store })
    (project_of c.commands.session) (project_of c.answer_one.new.session) c.commands.lines.ahead c.next_command.new.lines.ahead
    c.in-Command.command c.bytes.result.now c.in-Err.status i.serving (told-none _ i.going n.tells) n.ended c.bytes.ensures e.takes

pub returns-in-Err-clause-among : goal.returns-in-Err-clause-among
returns-in-Err-clause-among g c =
    takes-served (project_of c.commands.session) c.bytes.result.now (project_of c.answer_one.new.session)
    (record { wrote = g.O.Sink.wrote c.commands.output; held = g.S.Store.held c.commands.store })
    (record { wrote = g.O.Sink.wrote c.answer_one.new.output; held = g.S.Store.held c.answer_one.new.store })
    c.in-Err.status c.in-Err.ensures.takes

pub returns-in-Err-clause-store_fault : goal.returns-in-Err-clause-store_fault
returns-in-Err-clause-store_fault g c = λ e.
    rose-from (g.S.Store.faults c.args.store.now) (g.S.Store.faults c.commands.store) (g.S.Store.faults c.answer_one.new.store)
    c.commands.invariant.stores (c.in-Err.ensures.store_fault (ap Err e))

pub returns-in-Err-clause-write_fault : goal.returns-in-Err-clause-write_fault
returns-in-Err-clause-write_fault g c = λ e.
    rose-from (g.O.Sink.faults c.args.output.now) (g.O.Sink.faults c.commands.output) (g.O.Sink.faults c.answer_one.new.output)
    c.commands.invariant.writes (c.in-Err.ensures.write_fault (ap Err e))

pub returns-in-Err-clause-read_fault : goal.returns-in-Err-clause-read_fault
returns-in-Err-clause-read_fault g c = λ e. absurd
    (takes-unread (project_of c.commands.session) c.bytes.result.now (project_of c.answer_one.new.session)
    (record { wrote = g.O.Sink.wrote c.commands.output; held = g.S.Store.held c.commands.store })
    (record { wrote = g.O.Sink.wrote c.answer_one.new.output; held = g.S.Store.held c.answer_one.new.store })
    c.in-Err.status c.in-Err.ensures.takes e)

pub returns-in-ReadFault-clause-read_fault : goal.returns-in-ReadFault-clause-read_fault
returns-in-ReadFault-clause-read_fault g c = λ e.
    rose-from (g.I.Source.faults c.args.input.now) (g.I.Source.faults c.commands.input) (g.I.Source.faults c.next_command.new.source)
    c.commands.invariant.reads (told-none _ c.commands.invariant.going c.in-ReadFault.ensures.cause refl)

pub returns-in-End-clause-serves : goal.returns-in-End-clause-serves
returns-in-End-clause-serves g c =
    let i = c.commands.invariant in
    let n = c.in-End.ensures in
    served-stop (project_of c.args.session.now) (g.I.Source.left c.args.input.now) (g.I.Source.left c.commands.input) (g.I.Source.left c.next_command.new.source)
    (record { wrote = g.O.Sink.wrote c.args.output.now; held = g.S.Store.held c.args.store.now })
    (record { wrote = g.O.Sink.wrote c.commands.output; held = g.S.Store.held c.commands.store })
    (project_of c.commands.session) c.commands.lines.ahead c.next_command.new.lines.ahead N.End i.serving (told-none _ i.going n.tells)
    (record { no_command = λ h. h; end = told-none _ i.going n.end; no_fault = told-none _ i.going n.no_fault })

pub returns-in-Cut-clause-serves : goal.returns-in-Cut-clause-serves
returns-in-Cut-clause-serves g c =
    let i = c.commands.invariant in
    let n = c.in-Cut.ensures in
    served-stop (project_of c.args.session.now) (g.I.Source.left c.args.input.now) (g.I.Source.left c.commands.input) (g.I.Source.left c.next_command.new.source)
    (record { wrote = g.O.Sink.wrote c.args.output.now; held = g.S.Store.held c.args.store.now })
    (record { wrote = g.O.Sink.wrote c.commands.output; held = g.S.Store.held c.commands.store })
    (project_of c.commands.session) c.commands.lines.ahead c.next_command.new.lines.ahead N.Cut i.serving (told-none _ i.going n.tells)
    (record { no_command = λ h. h; end = told-none _ i.going n.end; no_fault = told-none _ i.going n.no_fault })

pub returns-in-TooLong-clause-serves : goal.returns-in-TooLong-clause-serves
returns-in-TooLong-clause-serves g c =
    let i = c.commands.invariant in
    let n = c.in-TooLong.ensures in
    served-stop (project_of c.args.session.now) (g.I.Source.left c.args.input.now) (g.I.Source.left c.commands.input) (g.I.Source.left c.next_command.new.source)
    (record { wrote = g.O.Sink.wrote c.args.output.now; held = g.S.Store.held c.args.store.now })
    (record { wrote = g.O.Sink.wrote c.commands.output; held = g.S.Store.held c.commands.store })
    (project_of c.commands.session) c.commands.lines.ahead c.next_command.new.lines.ahead N.TooLong i.serving (told-none _ i.going n.tells)
    (record { no_command = λ h. h; end = told-none _ i.going n.end; no_fault = told-none _ i.going n.no_fault })

pub returns-in-ReadFault-clause-serves : goal.returns-in-ReadFault-clause-serves
returns-in-ReadFault-clause-serves g c =
    let i = c.commands.invariant in
    let n = c.in-ReadFault.ensures in
    served-stop (project_of c.args.session.now) (g.I.Source.left c.args.input.now) (g.I.Source.left c.commands.input) (g.I.Source.left c.next_command.new.source)
    (record { wrote = g.O.Sink.wrote c.args.output.now; held = g.S.Store.held c.args.store.now })
    (record { wrote = g.O.Sink.wrote c.commands.output; held = g.S.Store.held c.commands.store })
    (project_of c.commands.session) c.commands.lines.ahead c.next_command.new.lines.ahead N.ReadFault i.serving (told-none _ i.going n.tells)
    (record { no_command = λ h. h; end = told-none _ i.going n.end; no_fault = told-none _ i.going n.no_fault })

pub returns-in-NoMemory-clause-serves : goal.returns-in-NoMemory-clause-serves
returns-in-NoMemory-clause-serves g c =
    let i = c.commands.invariant in
    let n = c.in-NoMemory.ensures in
    served-stop (project_of c.args.session.now) (g.I.Source.left c.args.input.now) (g.I.Source.left c.commands.input) (g.I.Source.left c.next_command.new.source)
    (record { wrote = g.O.Sink.wrote c.args.output.now; held = g.S.Store.held c.args.store.now })
    (record { wrote = g.O.Sink.wrote c.commands.output; held = g.S.Store.held c.commands.store })
    (project_of c.commands.session) c.commands.lines.ahead c.next_command.new.lines.ahead N.NoMemory i.serving (told-none _ i.going n.tells)
    (record { no_command = λ h. h; end = told-none _ i.going n.end; no_fault = told-none _ i.going n.no_fault })
