-- Laws of derivations.
use Rattle.std.specs.Prelude.{[], ◌∷◌, ◌++◌}
use Rattle.kv_trees.specs.Trees.{Form, Sequent}
use Rattle.kv_calc.specs.Calculus.{Theory, Good, Derivable, sequent, alone}

-- the sequent with more formulas before its own on each side
abbrev pub extended : Sequent → Sequent → Sequent
extended extra S = sequent (extra.left ++ S.left) (extra.right ++ S.right)

-- a derivable sequent stays derivable with more formulas: they are dropped, and the old derivation follows
abbrev pub Dropping : Type 0
Dropping = (T : Theory) (extra S : Sequent) → Derivable T S → Good T (extended extra S) → Derivable T (extended extra S)

-- a formula that is derivable alone needn't be given: it is cut in, and its derivation follows
abbrev pub Cutting : Type 0
Cutting = (T : Theory) (S : Sequent) (f : Form) → Derivable T (alone f) → Derivable T (sequent (S.left ++ f ∷ []) S.right) → Derivable T S
