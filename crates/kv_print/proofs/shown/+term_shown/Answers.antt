use Rattle.std.proofs.Common.{arith}
use Rattle.kv_print.proofs.Each.{shown_each}
use Rattle.kv_print.proofs.shown.+term_shown.Goals as goal

pub terms_shown-returns : goal.terms_shown-returns
terms_shown-returns t c = shown_each c.args.around c.args.terms.now c.loop-term.shown c.loop-term.term-index (omega arith) c.loop-term.invariant
