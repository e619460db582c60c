use Rattle.kv_pexpr.specs.Gives.{kinds, seen}
use Rattle.kv_pexpr.proofs.Finds.{found}
use Rattle.kv_pexpr.proofs.One.{form_finds}
use Rattle.kv_pexpr.proofs.readers.longest_formula.Goals as goal

pub returns-clause-found : goal.returns-clause-found
returns-clause-found c = found form_finds seen c.read.result (kinds c.args.tokens.now) c.read.ensures.reads
