-- How large a tree is that isn't built.
use Rattle.std.specs.Prelude.{ℕ, ◌≡◌, ◌-◌, ◌^◌, min}
use Rattle.kv_goal.specs.declared.sizes.Size.{Size}

-- the size has so many nodes and is so deep, or stands at the greatest value
abbrev pub Measures : Size → ℕ → ℕ → Type 0
Measures size nodes depth = (size.nodes ≡ min nodes (2 ^ 64 - 1)) × (size.depth ≡ min depth (2 ^ 32 - 1))
