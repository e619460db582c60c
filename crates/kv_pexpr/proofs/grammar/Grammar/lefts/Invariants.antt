use Rattle.std.proofs.Common.{◌≡◌, ◌-◌, ◌≤◌}
use Rattle.kv_raw.specs.RawBridge.{raw_form}
use Rattle.kv_raw.specs.RawCount.{raw_form_depth}
use Rattle.kv_pexpr.specs.Gives.{kinds, joined}
use Rattle.kv_pexpr.specs.Parse as spec
use Rattle.kv_pexpr.proofs.grammar.Grammar.lefts.Given as goal

abbrev pub invariant-loop-turn : goal.invariant-loop-turn
invariant-loop-turn g l = record {
  reads : spec.chain (joined l.operator) (spec.eat_word l.word) (spec.read l.self.fuel l.operand l.brackets (l.height - 1)) (l.height - 1) l.height (raw_form l.fn.first.tree) (kinds l.fn.first.rest.now)
      ≡ spec.chain (joined l.operator) (spec.eat_word l.word) (spec.read l.self.fuel l.operand l.brackets (l.height - 1)) (l.height - 1) (l.height - l._turn) (raw_form l.left.tree) (kinds l.left.rest.now);
  high : raw_form_depth (raw_form l.left.tree) ≡ l.left.height;
  low : l.left.height ≤ l.height;
}
