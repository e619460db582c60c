use Rattle.std.proofs.Common.{◌≡◌, ◌++◌, take}
use Rattle.std.specs.Prelude.{codes, decimal, flat_map}
use Rattle.kv_print.proofs.pieces.push_path.Given as goal

abbrev pub invariant-loop-place : goal.invariant-loop-place
invariant-loop-place l = l.text ≡ l.initial.text ++ flat_map (λ place. codes "." ++ decimal place) (take l.place-index l.others)
