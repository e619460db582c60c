use Rattle.std.proofs.Common.{◌∙◌, ap}
use Rattle.kv_io.specs.Lines.{cut_left}
use Rattle.kv_io.proofs.Cuts.{cut_within-all}
use Rattle.kv_io.proofs.lines.Lines.new.Goals as goal

pub returns-clause-cut : goal.returns-clause-cut
returns-clause-cut c input = ap (λ ahead. cut_left ahead input) c.new.ensures.ahead ∙ cut_within-all input
