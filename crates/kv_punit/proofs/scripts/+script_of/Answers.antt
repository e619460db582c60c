use Rattle.std.proofs.Common.{rules, arith, sym}
use Rattle.kv_syn.specs.declared.scripts.Script.{the_lemmas}
use Rattle.kv_pexpr.specs.Gives.{kinds}
use Rattle.kv_punit.proofs.Turns.{script_hole, script_none, script_node}
use Rattle.kv_punit.proofs.scripts.+script_of.Goals as goal

pub returns-in-Some : goal.returns-in-Some
returns-in-Some t c = rw (script_hole c.args.most (kinds c.args.tokens.now) (kinds c.in-Some.rest.now) (sym c.in-Some.ensures)) (search (rules, the_lemmas))

pub returns-then-most-eq0 : goal.returns-then-most-eq0
returns-then-most-eq0 t c = script_none c.args.most (kinds c.args.tokens.now) (omega arith) (sym c.in_default.ensures)

pub returns-in_err-step : goal.returns-in_err-step
returns-in_err-step t c = rw (script_node c.args.most (kinds c.args.tokens.now) (omega arith) (sym c.in_default.ensures)) (search rules)

pub returns : goal.returns
returns t c = rw (script_node c.args.most (kinds c.args.tokens.now) (omega arith) (sym c.in_default.ensures)) (search rules)
