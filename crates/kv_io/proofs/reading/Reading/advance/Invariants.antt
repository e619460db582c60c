-- What was read since, and that it was needed.
use Rattle.std.proofs.Common.{◌≡◌, ◌≤◌, ◌⊎◌, true, false}
use Rattle.kv_io.specs.Lines.{IsOpen, room_of}
use Rattle.kv_io.specs.Reading.{IsReading, Grows, ahead_of, turns_of}
use Rattle.kv_io.proofs.reading.Reading.advance.Given as goal

abbrev pub invariant-reads : goal.invariant-reads
invariant-reads g l = record {
  keeps : IsReading l.self;
  grows : Grows (ahead_of l.initial.self) (g.I.Source.left l.initial.source) (ahead_of l.self) (g.I.Source.left l.source);
  needed : ((l.source ≡ l.initial.source) × (ahead_of l.self ≡ ahead_of l.initial.self)) ⊎ ((l.initial.self.ended ≡ false) × IsOpen l.initial.self.held);
  ended : l.initial.self.ended ≡ true → l.self.ended ≡ true;
  room : room_of (ahead_of l.self) ≡ room_of (ahead_of l.initial.self);
  later : g.I.Source.faults l.initial.source ≤ g.I.Source.faults l.source;
}

abbrev pub decreases-reads : goal.decreases-reads
decreases-reads g l = turns_of (ahead_of l.self)
