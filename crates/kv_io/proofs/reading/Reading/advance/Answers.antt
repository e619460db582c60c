use Rattle.std.proofs.Common.{◌∙◌, sym, ap, inr, subst, arith}
use Rattle.std.proofs.lemmas.Bool.{false≢true}
use Rattle.kv_io.specs.Lines.{Tells, room_of}
use Rattle.kv_io.specs.Reading.{Grows, ahead_of, answer_of, stop_answer}
use Rattle.kv_io.proofs.Says.{grows-more, grows-tells, needed-now}
use Rattle.kv_io.proofs.reading.Reading.advance.Goals as goal

pub returns-in-Some-clause-tells : goal.returns-in-Some-clause-tells
returns-in-Some-clause-tells g c =
    let left = g.I.Source.left in
    grows-tells (ahead_of c.args.self.now) (left c.args.source.now) (ahead_of c.reads.self) (left c.reads.source)
    (answer_of c.in-Some.told) (ahead_of c.tell.new.self) (left c.reads.source) c.reads.invariant.grows
    (c.in-Some.ensures.tells (left c.reads.source))

pub returns-in-Err-clause-tells : goal.returns-in-Err-clause-tells
returns-in-Err-clause-tells g c =
    let left = g.I.Source.left in
    let new = ahead_of c.read_on.new.self in
    grows-tells (ahead_of c.args.self.now) (left c.args.source.now) (ahead_of c.reads.self) (left c.reads.source)
    (stop_answer c.in-Err.stop) new (left c.read_on.new.source) c.reads.invariant.grows
    (subst (λ a. Tells a (left c.reads.source) (stop_answer c.in-Err.stop) new (left c.read_on.new.source)) c.in_default.ensures.same c.in-Err.ensures.reads)

pub reads-preserved : goal.reads-preserved
reads-preserved g c =
    let left = g.I.Source.left in
    let new = ahead_of c.read_on.new.self in
    let before = c.reads.invariant in
    let told = c.in_default.ensures in
    let read = c.in_default-read_on.ensures in
    record {
      keeps = read.keeps;
      grows = grows-more (ahead_of c.args.self.now) (left c.args.source.now) (ahead_of c.reads.self) (left c.reads.source) new (left c.read_on.new.source) before.grows
          (subst (λ a. Grows a (left c.reads.source) new (left c.read_on.new.source)) told.same read.reads);
      needed = inr (needed-now (ahead_of c.args.self.now) (ahead_of c.reads.self) before.needed told.going told.open);
      ended = λ on. absurd (false≢true (sym told.going ∙ before.ended on));
      room = read.room ∙ ap room_of told.same ∙ before.room;
      later = omega (arith, before.later, read.later);
    }
