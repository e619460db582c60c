use Rattle.std.proofs.Common.{◌≡◌, take, false}
use Rattle.kv_trees.specs.Variables.{raised_ref, refs_have}
use Rattle.kv_trees.proofs.variables.refs_mention.Given as goal

abbrev pub invariant-loop-place : goal.invariant-loop-place
invariant-loop-place l = refs_have (raised_ref l.by l.var) (take l.place-index l.places) ≡ false
