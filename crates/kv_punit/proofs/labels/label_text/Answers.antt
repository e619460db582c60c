use Rattle.std.proofs.Common.{rules, arith, ◌∙◌, length}
use Rattle.kv_pexpr.specs.Gives.{kinds}
use Rattle.kv_punit.proofs.Turns.{parts_next, parts_end}
use Rattle.kv_punit.proofs.labels.label_text.Goals as goal

pub returns-in_default : goal.returns-in_default
returns-in_default c = rw (c.loop-turn.invariant ∙ parts_next (length c.args.tokens.now) c.loop-turn._turn c.loop-turn.text (kinds c.loop-turn.rest.now) (omega arith)) (search rules)

pub returns-in_err-next : goal.returns-in_err-next
returns-in_err-next c = rw (c.loop-turn.invariant ∙ parts_next (length c.args.tokens.now) c.loop-turn._turn c.loop-turn.text (kinds c.loop-turn.rest.now) (omega arith)) (search rules)

pub loop-turn-preserved : goal.loop-turn-preserved
loop-turn-preserved c = rw (c.loop-turn.invariant ∙ parts_next (length c.args.tokens.now) c.loop-turn._turn c.loop-turn.text (kinds c.loop-turn.rest.now) (omega arith)) (search rules)

pub returns : goal.returns
returns c = c.loop-turn.invariant ∙ parts_end (length c.args.tokens.now) c.loop-turn._turn c.loop-turn.text (kinds c.loop-turn.rest.now) (omega arith)
