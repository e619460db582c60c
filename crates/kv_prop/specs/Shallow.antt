-- Terms that can be put below the binders of a formula by 32-bit numbers.
use Rattle.std.specs.Prelude.{◌≤◌}
use Rattle.kv_subst.specs.Sizes.{term_reach}
use Rattle.kv_trees.specs.Count.{form_depth}
use Rattle.kv_trees.specs.Trees.{Form, Term}

-- the formula isn't deeper than 2,000,000,000, and the term counts no more binders around it: no memory holds others
abbrev pub IsShallow : Form → Term → Type 0
IsShallow f t = (form_depth f ≤ 2000000000) × (term_reach t ≤ 2000000000)
