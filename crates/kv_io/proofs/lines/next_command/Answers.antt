use Rattle.std.proofs.Common.{ap}
use Rattle.kv_io.specs.Lines.{LinesState}
use Rattle.kv_io.proofs.Says.{long-stays}
use Rattle.kv_io.proofs.lines.next_command.Goals as goal

pub returns-in-Ok-clause-not_at_long : goal.returns-in-Ok-clause-not_at_long
returns-in-Ok-clause-not_at_long g c =
    long-stays c.args.lines.now.ahead.bytes c.lines.inside.reading.held (ap (λ (s : LinesState). s.ahead.bytes) c.lines.view_is) c.in-Ok.ensures.needed

pub returns-in-Err-clause-not_at_long : goal.returns-in-Err-clause-not_at_long
returns-in-Err-clause-not_at_long g c =
    long-stays c.args.lines.now.ahead.bytes c.lines.inside.reading.held (ap (λ (s : LinesState). s.ahead.bytes) c.lines.view_is) c.in-Err.ensures.needed
