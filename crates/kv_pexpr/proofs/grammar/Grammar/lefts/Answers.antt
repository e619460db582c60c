use Rattle.std.proofs.Common.{arith, ◌∙◌, ap, sym, ◌-◌, ◌+◌}
use Rattle.std.proofs.lemmas.Grind.{common_steps}
use Rattle.kv_raw.specs.RawBridge.{raw_form}
use Rattle.kv_pexpr.specs.Gives.{kinds, joined}
use Rattle.kv_pexpr.specs.Parse as spec
use Rattle.kv_pexpr.proofs.Chain.{too_high, no_operator, no_operand, one_turn, no_turn}
use Rattle.kv_pexpr.proofs.grammar.Grammar.lefts.Goals as goal

pub returns-then-left-height-clause-reads : goal.returns-then-left-height-clause-reads
returns-then-left-height-clause-reads g c = c.loop-turn.invariant.reads
    ∙ too_high (joined c.args.operator) c.args.word (spec.read c.args.self.now.fuel c.args.operand c.args.brackets (c.args.height - 1)) c.args.height c.loop-turn._turn (raw_form c.loop-turn.left.tree) (kinds c.loop-turn.left.rest.now) (omega arith) (omega (arith, c.loop-turn.invariant.high))

pub returns-in_default-clause-reads : goal.returns-in_default-clause-reads
returns-in_default-clause-reads g c = c.loop-turn.invariant.reads
    ∙ no_operator (joined c.args.operator) c.args.word (spec.read c.args.self.now.fuel c.args.operand c.args.brackets (c.args.height - 1)) c.args.height c.loop-turn._turn (raw_form c.loop-turn.left.tree) (kinds c.loop-turn.left.rest.now) (omega arith) c.in_default.ensures

pub returns-in-Err-Syntax-clause-reads : goal.returns-in-Err-Syntax-clause-reads
returns-in-Err-Syntax-clause-reads g c = c.loop-turn.invariant.reads
    ∙ no_operand (joined c.args.operator) c.args.word (spec.read c.args.self.now.fuel c.args.operand c.args.brackets (c.args.height - 1)) c.args.height c.loop-turn._turn (raw_form c.loop-turn.left.tree) (kinds c.loop-turn.left.rest.now) (kinds c.in-Some.after.now) (omega arith) c.in-Some.ensures
    (rw c.in-Err-Syntax.field-0-is at c.in-Err-Syntax.ensures.reads)

pub loop-turn-preserved : goal.loop-turn-preserved
loop-turn-preserved g c = record {
  reads = c.loop-turn.invariant.reads
      ∙ one_turn (joined c.args.operator) c.args.word (spec.read c.args.self.now.fuel c.args.operand c.args.brackets (c.args.height - 1)) c.args.height c.loop-turn._turn (raw_form c.loop-turn.left.tree) (kinds c.loop-turn.left.rest.now)
      (kinds c.in-Some.after.now) (kinds c.in-Ok.right.rest.now) (raw_form c.in-Ok.right.tree) (omega arith) (omega (arith, c.loop-turn.invariant.high)) c.in-Some.ensures c.in-Ok.ensures.reads
      ∙ ap (λ f. spec.chain (joined c.args.operator) (spec.eat_word c.args.word) (spec.read c.args.self.now.fuel c.args.operand c.args.brackets (c.args.height - 1)) (c.args.height - 1) (c.args.height - (c.loop-turn._turn + 1)) f (kinds c.in-Ok.right.rest.now)) (sym c.in_ok-join-in-Ok.ensures.made);
  high = grind (arith, common_steps);
  low = grind (arith, common_steps);
}

pub returns-clause-reads : goal.returns-clause-reads
returns-clause-reads g c = c.loop-turn.invariant.reads
    ∙ no_turn (joined c.args.operator) c.args.word (spec.read c.args.self.now.fuel c.args.operand c.args.brackets (c.args.height - 1)) c.args.height c.loop-turn._turn (raw_form c.loop-turn.left.tree) (kinds c.loop-turn.left.rest.now) (omega arith)
