use Rattle.kv_pexpr.specs.Gives.{kinds, seen_term}
use Rattle.kv_pexpr.proofs.Finds.{found}
use Rattle.kv_pexpr.proofs.One.{term_finds}
use Rattle.kv_pexpr.proofs.readers.longest_term.Goals as goal

pub returns-clause-found : goal.returns-clause-found
returns-clause-found c = found term_finds seen_term c.term_within.result (kinds c.args.tokens.now) c.term_within.ensures.reads
