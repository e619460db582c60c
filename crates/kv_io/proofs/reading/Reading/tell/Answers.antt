use Rattle.std.proofs.Common.{sym, subst}
use Rattle.kv_io.specs.Lines.{IsTooLong}
use Rattle.kv_io.specs.Reading.{HasCommand, IsLast, ahead_of}
use Rattle.kv_io.proofs.Places.{none-whole}
use Rattle.kv_io.proofs.Says.{gives-whole, tells-long}
use Rattle.kv_io.proofs.reading.Reading.tell.Goals as goal

pub returns-in-Whole-clause-tells : goal.returns-in-Whole-clause-tells
returns-in-Whole-clause-tells c =
    let old = c.args.self.now in
    gives-whole old c.in-Whole.command c.in-Whole.next c.give.result c.give.new.self
    (subst (λ b. HasCommand b c.in-Whole.command c.in-Whole.next) c.bytes.ensures c.in-Whole.ensures) c.give.ensures

pub returns-then-is_too_long-clause-tells : goal.returns-then-is_too_long-clause-tells
returns-then-is_too_long-clause-tells c left =
    tells-long (ahead_of c.args.self.now) (subst IsTooLong c.bytes-3.ensures (c.is_too_long.ensures.yes c.if-is_too_long.true)) left

pub returns-clause-open : goal.returns-clause-open
returns-clause-open c = record {
  none = none-whole c.args.self.now.held c.in-Open.line (subst (λ b. IsLast b c.in-Open.line) c.bytes.ensures c.in-Open.ensures);
  fits = λ long. c.is_too_long.ensures.no c.if-is_too_long.false (subst IsTooLong (sym c.bytes-3.ensures) long);
}
