use Rattle.std.proofs.Common.{◌≡◌, take, false}
use Rattle.kv_trees.specs.declared.trees.Ref.TheVariants.{Free}
use Rattle.kv_trees.specs.Variables.{refs_have}
use Rattle.kv_trees.proofs.variables.refs_name.Given as goal

abbrev pub invariant-loop-place : goal.invariant-loop-place
invariant-loop-place l = refs_have (Free l.var) (take l.place-index l.places) ≡ false
