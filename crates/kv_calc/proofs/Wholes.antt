-- Sequents whose formulas are parts of a good sequent are good.
use Rattle.std.proofs.Common.{ℕ, ◌-◌, ◌∷◌, []}
use Rattle.kv_trees.specs.Trees.{Form, Sequent}
use Rattle.kv_syn.specs.declared.scripts.Side.{Side}
use Rattle.kv_syn.specs.declared.scripts.Side.TheVariants.{L, R}
use Rattle.kv_sig.specs.Members.{Every}
use Rattle.kv_sig.specs.Sequents.{in_place, two_in_place, at_end, without}
use Rattle.kv_calc.specs.Calculus.{Theory, Good}
use Rattle.kv_calc.proofs.Members.{every_push, every_set, every_without, every_with_items}
use Rattle.kv_calc.proofs.Parts.{Part, left_parts, right_parts, good_parts}

-- each formula of U is a part of S
abbrev pub Whole : Theory → Sequent → Sequent → Type 0
Whole T S U = Every (Part T S) U.left × Every (Part T S) U.right

pub whole_itself : (T : Theory) (S : Sequent) → Good T S → Whole T S S
whole_itself T S g = (left_parts T S g, right_parts T S g)

pub good_whole : (T : Theory) (S U : Sequent) → Good T S → Whole T S U → Good T U
good_whole T S U g w = good_parts T S g U.left U.right w.0 w.1

module _ (T : Theory) (S : Sequent) where
  pub whole_in_place : (side : Side) (i : ℕ) (f : Form) (U : Sequent) → Part T S f → Whole T S U → Whole T S (in_place side i f U)
  whole_in_place L i f U p w = (every_set (Part T S) U.left (i - 1) f w.0 p, w.1)
  whole_in_place R i f U p w = (w.0, every_set (Part T S) U.right (i - 1) f w.1 p)

  pub whole_two_in_place : (side : Side) (i : ℕ) (f g : Form) (U : Sequent) → Part T S f → Part T S g → Whole T S U → Whole T S (two_in_place side i f g U)
  whole_two_in_place L i f g U p q w = (every_with_items (Part T S) U.left i (f ∷ g ∷ []) w.0 (p, (q, tt)), w.1)
  whole_two_in_place R i f g U p q w = (w.0, every_with_items (Part T S) U.right i (f ∷ g ∷ []) w.1 (p, (q, tt)))

  pub whole_at_end : (side : Side) (f : Form) (U : Sequent) → Part T S f → Whole T S U → Whole T S (at_end side f U)
  whole_at_end L f U p w = (every_push (Part T S) U.left f w.0 p, w.1)
  whole_at_end R f U p w = (w.0, every_push (Part T S) U.right f w.1 p)

  pub whole_without : (side : Side) (i : ℕ) (U : Sequent) → Whole T S U → Whole T S (without side i U)
  whole_without L i U w = (every_without (Part T S) U.left i w.0, w.1)
  whole_without R i U w = (w.0, every_without (Part T S) U.right i w.1)
