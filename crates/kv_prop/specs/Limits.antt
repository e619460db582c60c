-- How large a sequent, a formula or a term may be.
use Rattle.std.specs.Prelude.{ℕ, Bool, ◌&&◌, nat_le}

-- the most nodes
abbrev pub most_nodes : ℕ
most_nodes = 50000

-- the greatest depth
abbrev pub most_depth : ℕ
most_depth = 400

-- whether what has so many nodes and that depth is small enough
abbrev pub is_small : (nodes depth : ℕ) → Bool
is_small nodes depth = nat_le nodes most_nodes && nat_le depth most_depth
