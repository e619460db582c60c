use Rattle.std.proofs.Common.{rules, arith, ◌∙◌, ◌+◌, ◌-◌, ap, sym, length}
use Rattle.std.specs.Prelude.{Some}
use Rattle.kv_pexpr.specs.Gives.{kinds}
use Rattle.kv_punit.specs.Parse as spec
use Rattle.kv_punit.proofs.Turns.{listed_next, listed_last, listed_turn, listed_end}
use Rattle.kv_punit.proofs.items.some_parameters.Goals as goal

pub returns-in_err-parameter : goal.returns-in_err-parameter
returns-in_err-parameter c = rw (c.loop-turn.invariant ∙ listed_next spec.parameter (length c.args.tokens.now) c.loop-turn._turn c.loop-turn.parameters (kinds c.loop-turn.rest.now) (omega arith)) (search rules)

pub returns-in-None : goal.returns-in-None
returns-in-None c = c.loop-turn.invariant
    ∙ listed_last spec.parameter (length c.args.tokens.now) c.loop-turn._turn c.loop-turn.parameters (kinds c.loop-turn.rest.now)
    c.in_ok-parameter.parameter (kinds c.in_ok-parameter.after.now) (omega arith) c.in_ok-parameter.ensures (sym c.in-None.ensures)
    ∙ ap (λ l. Some (l, kinds c.in_ok-parameter.after.now)) (sym c.in_ok-push.ensures.ok)

pub loop-turn-preserved : goal.loop-turn-preserved
loop-turn-preserved c = c.loop-turn.invariant
    ∙ listed_turn spec.parameter (length c.args.tokens.now) c.loop-turn._turn c.loop-turn.parameters (kinds c.loop-turn.rest.now)
    c.in_ok-parameter.parameter (kinds c.in_ok-parameter.after.now) (kinds c.in-Some.after.now) (omega arith) c.in_ok-parameter.ensures (sym c.in-Some.ensures)
    ∙ ap (λ l. spec.listed spec.parameter (length c.args.tokens.now - (c.loop-turn._turn + 1)) l (kinds c.in-Some.after.now)) (sym c.in_ok-push.ensures.ok)

pub returns : goal.returns
returns c = c.loop-turn.invariant ∙ listed_end spec.parameter (length c.args.tokens.now) c.loop-turn._turn c.loop-turn.parameters (kinds c.loop-turn.rest.now) (omega arith)
