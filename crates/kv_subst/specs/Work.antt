-- The changes that the code makes.
use Rattle.std.specs.Prelude.{ℕ, ◌+◌, max}
use Rattle.kv_trees.specs.Bridge.{plain_term}
use Rattle.kv_trees.specs.declared.trees.Ref.{Ref}
use Rattle.kv_subst.specs.Changing.{Change}
use Rattle.kv_subst.specs.Opening.{opened, closed}
use Rattle.kv_subst.specs.Sizes.{ref_reach, term_reach}
use Rattle.kv_subst.specs.declared.changes.Work.{Work}
use Rattle.kv_subst.specs.declared.changes.Work.TheVariants.{Open, Close}

abbrev pub change_of : Work → Change
change_of (Open at) = opened (plain_term at.now)
change_of (Close x) = closed x.now

-- no number is larger that it makes of a variable
abbrev pub most_of : Work → ℕ → Ref → ℕ
most_of (Open at) k r = k + term_reach (plain_term at.now)
most_of (Close x) k r = max k (ref_reach r)
