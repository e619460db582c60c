use Rattle.std.proofs.Common.{◌≡◌, max, drop}
use Rattle.kv_subst.specs.Sizes.{refs_reach}
use Rattle.kv_parts.proofs.sizes.reach_of_refs.Given as goal

abbrev pub invariant-loop-place : goal.invariant-loop-place
invariant-loop-place l = max l.most (refs_reach (drop l.place-index l.places)) ≡ refs_reach l.places
