use Rattle.std.proofs.Common.{ℕ, ◌≡◌, ◌<◌, get_or, map, [], false}
use Rattle.std.specs.Str.{bytes_eq}
use Rattle.kv_table.proofs.names.Names.find.Given as goal

abbrev pub invariant-loop-i : goal.invariant-loop-i
invariant-loop-i g l = (k : ℕ) → k < l.i → bytes_eq (get_or (map (λ row. row.now) l.row-items) k []) l.text ≡ false
