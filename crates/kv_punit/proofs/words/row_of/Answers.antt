use Rattle.std.proofs.Common.{sym}
use Rattle.kv_punit.proofs.Rules.{no_row}
use Rattle.kv_punit.proofs.words.row_of.Goals as goal

pub returns-in-Err-clause-value : goal.returns-in-Err-clause-value
returns-in-Err-clause-value g c = sym (no_row c.args.table.now c.args.text.now c.requires.ascii c.in-Err.ensures.cases.0)
