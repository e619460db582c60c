-- A variable whose name is new in a sequent can stand beside the sequent's own names.
use Rattle.std.proofs.Common.{List, [], ◌∷◌, ◌++◌, inl, inr, ◌≡◌, ◌⊎◌, refl, sym, ap, ◌∙◌, subst}
use Rattle.kv_trees.specs.Trees.{Term, Form, Sequent}
use Rattle.kv_syn.specs.declared.scripts.Side.TheVariants.{R}
use Rattle.kv_names.specs.declared.symbols.Var.{Var}
use Rattle.kv_trees.specs.declared.trees.Ref.TheVariants.{Free}
use Rattle.kv_sig.specs.Members.{In, here, there}
use Rattle.kv_sig.specs.Sequents.{at_end}
use Rattle.kv_sig.specs.Typing.{IsSort, IsForm}
use Rattle.kv_sig.specs.FreeNames.{free_form, free_forms, free_sequent, assumed_form, assumed_forms, assumed_sequent}
use Rattle.kv_calc.specs.Calculus.{Theory, Good, IsNew}
use Rattle.kv_calc.proofs.Members.{in_front, in_back, in_either, every_in, every_of, every_push}
use Rattle.kv_calc.proofs.Parts.{Part, left_parts, right_parts}
use Rattle.kv_calc.proofs.Wholes.{Whole}

-- an equation that names the variable
abbrev pub itself : Var → Form
itself x = Form.Equal (Term.Place (Free x)) (Term.Place (Free x))

-- the sequent with that equation behind it
abbrev pub beside : Var → Sequent → Sequent
beside x S = at_end R (itself x) S

-- ---- its names

forms_either : (fs gs : List Form) (y : Var) → In y (free_forms (fs ++ gs)) → In y (free_forms fs) ⊎ In y (free_forms gs)
forms_either [] gs y i = inr i
forms_either (f ∷ fs) gs y i = elim (in_either (free_form f) (free_forms (fs ++ gs)) i) [
  | inl j ↦ inl (in_front (free_forms fs) j)
  | inr j ↦ elim (forms_either fs gs y j) [ inl k ↦ inl (in_back (free_form f) k) | inr k ↦ inr k ]
]

either_of_two : (x y : Var) → In y (x ∷ x ∷ []) → y ≡ x
either_of_two x y here = refl
either_of_two x y (there here) = refl
either_of_two x y (there (there i)) = elim i [ ]

free_beside : (x : Var) (S : Sequent) (y : Var) → In y (free_sequent (beside x S)) → In y (free_sequent S) ⊎ (y ≡ x)
free_beside x S y i = elim (in_either (free_forms S.left) (free_forms (S.right ++ itself x ∷ [])) i) [
  | inl j ↦ inl (in_front (free_forms S.right) j)
  | inr j ↦ elim (forms_either S.right (itself x ∷ []) y j) [ inl k ↦ inl (in_back (free_forms S.left) k) | inr k ↦ inr (either_of_two x y k) ]
]

assumed_push : (fs : List Form) (x : Var) → assumed_forms (fs ++ itself x ∷ []) ≡ assumed_forms fs
assumed_push [] x = refl
assumed_push (f ∷ fs) x = ap (λ ps. assumed_form f ++ ps) (assumed_push fs x)

assumed_beside : (x : Var) (S : Sequent) → assumed_sequent (beside x S) ≡ assumed_sequent S
assumed_beside x S = ap (λ ps. assumed_forms S.left ++ ps) (assumed_push S.right x)

-- ---- it is good

module _ (T : Theory) (S : Sequent) (g : Good T S) (x : Var) (sort : IsSort T.signature x.sort) (new : IsNew x.name S) where
  one_sort : (y z : Var) → In y (free_sequent S) ⊎ (y ≡ x) → In z (free_sequent S) ⊎ (z ≡ x) → y.name ≡ z.name → y.sort ≡ z.sort
  one_sort y z (inl i) (inl j) e = g.consistent.sorts y z i j e
  one_sort y z (inl i) (inr k) e = absurd (new.variables y i (e ∙ ap (λ (v : Var). v.name) k))
  one_sort y z (inr h) (inl j) e = absurd (new.variables z j (sym e ∙ ap (λ (v : Var). v.name) h))
  one_sort y z (inr h) (inr k) e = ap (λ (v : Var). v.sort) (h ∙ sym k)

  pub good_beside : Good T (beside x S)
  good_beside = record {
    lawful = g.lawful;
    consistent = record {
      sorts = λ y z i j e. one_sort y z (free_beside x S y i) (free_beside x S z j) e;
      profiles = λ p q i j e. g.consistent.profiles p q (subst (In p) (assumed_beside x S) i) (subst (In q) (assumed_beside x S) j) e;
    };
    lefts = g.lefts;
    rights = every_push (IsForm T.signature []) S.right (itself x) g.rights (x.sort, (refl, sort), (refl, sort));
  }

-- the sequent's own formulas are parts of it, and the variable is one of its names
pub whole_beside : (T : Theory) (S : Sequent) (x : Var) → Good T (beside x S) → Whole T (beside x S) S
whole_beside T S x g = (
  left_parts T (beside x S) g,
  every_of (Part T (beside x S)) S.right (λ f i. every_in (Part T (beside x S)) (S.right ++ itself x ∷ []) (right_parts T (beside x S) g) f (in_front (itself x ∷ []) i)),
)

pub names_beside : (T : Theory) (S : Sequent) (x : Var) → Good T (beside x S) → In x (free_sequent (beside x S))
names_beside T S x g = (every_in (Part T (beside x S)) (S.right ++ itself x ∷ []) (right_parts T (beside x S) g) (itself x) (in_back S.right here)).variables x here
