use Rattle.std.proofs.Common.{◌≡◌, ◌-◌, length, map}
use Rattle.kv_syn.specs.ScriptBridge.{plain_script}
use Rattle.kv_pexpr.specs.Gives.{kinds}
use Rattle.kv_punit.specs.Parse as spec
use Rattle.kv_punit.proofs.scripts.Children.block.Given as goal

abbrev pub invariant-loop-turn : goal.invariant-loop-turn
invariant-loop-turn g l = spec.braces (spec.script l.self.most) (kinds l.tokens)
    ≡ spec.block (spec.script l.self.most) (length l.tokens - l._turn) (map plain_script l.children) (kinds l.rest)
