use Rattle.std.proofs.Common.{◌≡◌, ◌≤◌, None}
use Rattle.kv_io.specs.Lines.{room_of}
use Rattle.kv_session.specs.Sessions.{project_of}
use Rattle.kv_session.specs.Spellable.{IsSpellable}
use Rattle.kv_top.proofs.Loops.{Serving}
use Rattle.kv_top.proofs.serving.serve.Given as goal

abbrev pub invariant-commands : goal.invariant-commands
invariant-commands g l = record {
  going : l.lines.stop ≡ None;
  spelt : IsSpellable (project_of l.session);
  chosen : g.S.Store.chosen l.store ≡ g.S.Store.chosen l.initial.store;
  reads : g.I.Source.faults l.initial.input ≤ g.I.Source.faults l.input;
  stores : g.S.Store.faults l.initial.store ≤ g.S.Store.faults l.store;
  writes : g.O.Sink.faults l.initial.output ≤ g.O.Sink.faults l.output;
  serving : Serving (project_of l.initial.session) (g.I.Source.left l.initial.input) (g.I.Source.left l.input)
      (record { wrote = g.O.Sink.wrote l.initial.output; held = g.S.Store.held l.initial.store })
      (record { wrote = g.O.Sink.wrote l.output; held = g.S.Store.held l.store }) (project_of l.session) l.lines.ahead;
}

abbrev pub decreases-commands : goal.decreases-commands
decreases-commands g l = room_of l.lines.ahead
