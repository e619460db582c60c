use Rattle.std.proofs.Common.{◌≡◌, take, map}
use Rattle.kv_subst.specs.Opening.{renamed_var}
use Rattle.kv_subst.proofs.renaming.refs_renamed.Given as goal

abbrev pub invariant-loop-place : goal.invariant-loop-place
invariant-loop-place l = l.renamed ≡ map (renamed_var l.from l.to) (take l.place-index l.places)
