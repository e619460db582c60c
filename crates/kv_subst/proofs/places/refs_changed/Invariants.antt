use Rattle.std.proofs.Common.{◌≡◌, ◌<◌, ◌^◌, take, drop, map}
use Rattle.kv_subst.specs.Changing.{changed_ref}
use Rattle.kv_subst.specs.Tops.{refs_top}
use Rattle.kv_subst.specs.Work.{change_of, most_of}
use Rattle.kv_subst.proofs.places.refs_changed.Given as goal

abbrev pub invariant-loop-place : goal.invariant-loop-place
invariant-loop-place l =
    (refs_top (most_of l.work l.depth) (drop l.place-index l.places) < 2 ^ 32)
    × (l.changed ≡ map (changed_ref (change_of l.work l.depth)) (take l.place-index l.places))
