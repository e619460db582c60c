-- Sequents that differ from another one at one place. Places are counted from 1 on their side.
use Rattle.std.specs.Prelude.{ℕ, List, [], ◌∷◌, ◌++◌}
use Rattle.kv_trees.specs.Trees.{Form, Sequent}
use Rattle.kv_syn.specs.declared.scripts.Side.{Side}
use Rattle.kv_syn.specs.declared.scripts.Side.TheVariants.{L, R}
use Rattle.kv_sig.specs.Places.{with_item, with_items, without_item}

abbrev pub sequent : List Form → List Form → Sequent
sequent l r = record { left = l; right = r }

abbrev pub side_of : Side → Sequent → List Form
side_of L s = s.left
side_of R s = s.right

abbrev pub with_side : Side → List Form → Sequent → Sequent
with_side L forms s = sequent forms s.right
with_side R forms s = sequent s.left forms

-- another formula in place of the one at a place
abbrev pub in_place : Side → ℕ → Form → Sequent → Sequent
in_place side i f s = with_side side (with_item (side_of side s) i f) s

-- two formulas in place of the one at a place
abbrev pub two_in_place : Side → ℕ → Form → Form → Sequent → Sequent
two_in_place side i f g s = with_side side (with_items (side_of side s) i (f ∷ g ∷ [])) s

-- one more formula at the end of a side
abbrev pub at_end : Side → Form → Sequent → Sequent
at_end side f s = with_side side (side_of side s ++ f ∷ []) s

-- without the formula at a place
abbrev pub without : Side → ℕ → Sequent → Sequent
without side i s = with_side side (without_item (side_of side s) i) s
