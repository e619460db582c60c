-- An instance of a schema with good premises, by what the premises are.
use Rattle.std.proofs.Common.{ℕ, List, [], ◌∷◌, ◌++◌, Some, ◌≡◌, sym, subst}
use Rattle.kv_trees.specs.Trees.{Form, Sequent}
use Rattle.kv_syn.specs.declared.scripts.Side.{Side}
use Rattle.kv_syn.specs.declared.scripts.Side.TheVariants.{L, R}
use Rattle.kv_sig.specs.FreeNames.{free_form, assumed_form}
use Rattle.kv_sig.specs.Members.{In, Every}
use Rattle.kv_sig.specs.Places.{item_at}
use Rattle.kv_sig.specs.Sequents.{side_of}
use Rattle.kv_sig.specs.Typing.{IsForm}
use Rattle.kv_calc.specs.Calculus.{Theory, Good, Rule}
use Rattle.kv_calc.specs.Calculus as c
use Rattle.kv_calc.proofs.Members.{Sub, in_front, in_back, in_item, every_in}
use Rattle.kv_calc.proofs.Parts.{Part, left_parts, right_parts}
use Rattle.kv_calc.proofs.Wholes.{Whole, whole_itself, good_whole}
use Rattle.kv_prop.specs.Premises.{one, two}
use Rattle.kv_script.proofs.Inversions.{okay, ok_is, one_ok, two_ok}

-- an instance of a schema, with good premises
pub record Instance (T : Theory) (S : Sequent) (ps : List Sequent) : Type 0 where
  pub step : c.Step
  pub rule : Rule T step S ps
  pub good : Every (Good T) ps

module _ (T : Theory) (S : Sequent) (g : Good T S) where
  pub by_none : (step : c.Step) (ps : List Sequent) → okay [] ≡ okay ps → Rule T step S [] → Instance T S ps
  by_none step ps e r = let n = ok_is [] ps e in record { step = step; rule = subst (λ qs. Rule T step S qs) (sym n) r; good = subst (Every (Good T)) (sym n) tt }

  pub by_good : (step : c.Step) (U : Sequent) (ps : List Sequent) → one U ≡ okay ps → Rule T step S (U ∷ []) → Good T U → Instance T S ps
  by_good step U ps e r h =
      let n = one_ok U ps e in
      record { step = step; rule = subst (λ qs. Rule T step S qs) (sym n) r; good = subst (Every (Good T)) (sym n) (h, tt) }

  pub by_one : (step : c.Step) (U : Sequent) (ps : List Sequent) → one U ≡ okay ps → Rule T step S (U ∷ []) → Whole T S U → Instance T S ps
  by_one step U ps e r w = by_good step U ps e r (good_whole T S U g w)

  pub by_two : (step : c.Step) (U W : Sequent) (ps : List Sequent) → two U W ≡ okay ps → Rule T step S (U ∷ W ∷ []) → Whole T S U → Whole T S W → Instance T S ps
  by_two step U W ps e r p q =
      let n = two_ok U W ps e in
      record { step = step; rule = subst (λ qs. Rule T step S qs) (sym n) r; good = subst (Every (Good T)) (sym n) (good_whole T S U g p, (good_whole T S W g q, tt)) }

  pub all_of_it : Whole T S S
  all_of_it = whole_itself T S g

  pub part_at : (side : Side) (i : ℕ) (f : Form) → item_at (side_of side S) i ≡ Some f → Part T S f
  part_at L i f here = every_in (Part T S) S.left (left_parts T S g) f (in_item S.left i f here)
  part_at R i f here = every_in (Part T S) S.right (right_parts T S g) f (in_item S.right i f here)

  -- the parts of a formula of two parts
  pub both : (a b f : Form) → IsForm T.signature [] a → IsForm T.signature [] b → free_form f ≡ free_form a ++ free_form b → assumed_form f ≡ assumed_form a ++ assumed_form b
      → Part T S f → Part T S a × Part T S b
  both a b f ta tb vs qs p = (
    record {
      typed = ta;
      variables = λ x i. p.variables x (subst (In x) (sym vs) (in_front (free_form b) i));
      procedures = λ q i. p.procedures q (subst (In q) (sym qs) (in_front (assumed_form b) i));
    },
    record {
      typed = tb;
      variables = λ x i. p.variables x (subst (In x) (sym vs) (in_back (free_form a) i));
      procedures = λ q i. p.procedures q (subst (In q) (sym qs) (in_back (assumed_form a) i));
    },
  )

  -- the same names in another order
  pub turned : (f h : Form) → IsForm T.signature [] h → Sub (free_form h) (free_form f) → Sub (assumed_form h) (assumed_form f) → Part T S f → Part T S h
  turned f h t vs qs p = record { typed = t; variables = λ x i. p.variables x (vs x i); procedures = λ q i. p.procedures q (qs q i) }
