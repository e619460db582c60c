-- Sequents of parts of a good sequent are good.
use Rattle.std.proofs.Common.{List, [], ◌∷◌, ◌++◌, inl, inr}
use Rattle.kv_names.specs.Names.{Name}
use Rattle.kv_trees.specs.Trees.{Form, Sequent}
use Rattle.kv_names.specs.declared.symbols.Profile.{Profile}
use Rattle.kv_names.specs.declared.symbols.Var.{Var}
use Rattle.kv_sig.specs.Members.{In, here, there, Every}
use Rattle.kv_sig.specs.Typing.{IsForm}
use Rattle.kv_sig.specs.FreeNames.{free_form, free_forms, free_sequent, assumed_form, assumed_forms, assumed_sequent, IsConsistent}
use Rattle.kv_calc.specs.Calculus.{Theory, Good, sequent}
use Rattle.kv_calc.proofs.Members.{Sub, in_front, in_back, in_either, every_in, every_of}

-- a typed formula whose free names are the sequent's
pub record Part (T : Theory) (S : Sequent) (f : Form) : Type 0 where
  pub typed : IsForm T.signature [] f
  pub variables : Sub (free_form f) (free_sequent S)
  pub procedures : Sub (assumed_form f) (assumed_sequent S)

free_in : {fs : List Form} {f : Form} {x : Var} → In f fs → In x (free_form f) → In x (free_forms fs)
free_in (here {x = f} {xs = fs}) j = in_front (free_forms fs) j
free_in (there {y = g} i) j = in_back (free_form g) (free_in i j)

assumed_in : {fs : List Form} {f : Form} {p : Name × Profile} → In f fs → In p (assumed_form f) → In p (assumed_forms fs)
assumed_in (here {x = f} {xs = fs}) j = in_front (assumed_forms fs) j
assumed_in (there {y = g} i) j = in_back (assumed_form g) (assumed_in i j)

pub left_parts : (T : Theory) (S : Sequent) → Good T S → Every (Part T S) S.left
left_parts T S g = every_of (Part T S) S.left (λ f i. record {
  typed = every_in (IsForm T.signature []) S.left g.lefts f i;
  variables = λ x j. in_front (free_forms S.right) (free_in i j);
  procedures = λ p j. in_front (assumed_forms S.right) (assumed_in i j);
})

pub right_parts : (T : Theory) (S : Sequent) → Good T S → Every (Part T S) S.right
right_parts T S g = every_of (Part T S) S.right (λ f i. record {
  typed = every_in (IsForm T.signature []) S.right g.rights f i;
  variables = λ x j. in_back (free_forms S.left) (free_in i j);
  procedures = λ p j. in_back (assumed_forms S.left) (assumed_in i j);
})

free_parts : (T : Theory) (S : Sequent) (fs : List Form) → Every (Part T S) fs → Sub (free_forms fs) (free_sequent S)
free_parts T S [] e x i = elim i [ ]
free_parts T S (f ∷ fs) e x i = elim (in_either (free_form f) (free_forms fs) i) [ inl j ↦ e.0.variables x j | inr j ↦ free_parts T S fs e.1 x j ]

assumed_parts : (T : Theory) (S : Sequent) (fs : List Form) → Every (Part T S) fs → Sub (assumed_forms fs) (assumed_sequent S)
assumed_parts T S [] e p i = elim i [ ]
assumed_parts T S (f ∷ fs) e p i = elim (in_either (assumed_form f) (assumed_forms fs) i) [ inl j ↦ e.0.procedures p j | inr j ↦ assumed_parts T S fs e.1 p j ]

consistent_parts : (T : Theory) (S : Sequent) → IsConsistent S → (l r : List Form) → Every (Part T S) l → Every (Part T S) r → IsConsistent (sequent l r)
consistent_parts T S c l r pl pr = record { sorts = λ x y i j e. c.sorts x y (free x i) (free y j) e; profiles = λ p q i j e. c.profiles p q (assumed p i) (assumed q j) e }
  where
    free : Sub (free_forms l ++ free_forms r) (free_sequent S)
    free x i = elim (in_either (free_forms l) (free_forms r) i) [ inl j ↦ free_parts T S l pl x j | inr j ↦ free_parts T S r pr x j ]

    assumed : Sub (assumed_forms l ++ assumed_forms r) (assumed_sequent S)
    assumed p i = elim (in_either (assumed_forms l) (assumed_forms r) i) [ inl j ↦ assumed_parts T S l pl p j | inr j ↦ assumed_parts T S r pr p j ]

pub good_parts : (T : Theory) (S : Sequent) → Good T S → (l r : List Form) → Every (Part T S) l → Every (Part T S) r → Good T (sequent l r)
good_parts T S g l r pl pr = record {
  lawful = g.lawful;
  consistent = consistent_parts T S g.consistent l r pl pr;
  lefts = every_of (IsForm T.signature []) l (λ f i. (every_in (Part T S) l pl f i).typed);
  rights = every_of (IsForm T.signature []) r (λ f i. (every_in (Part T S) r pr f i).typed);
}

-- a sequent of fewer formulas
pub good_sub : (T : Theory) (S : Sequent) → Good T S → (l r : List Form) → Sub l S.left → Sub r S.right → Good T (sequent l r)
good_sub T S g l r hl hr =
    good_parts T S g l r
    (every_of (Part T S) l (λ f i. every_in (Part T S) S.left (left_parts T S g) f (hl f i)))
    (every_of (Part T S) r (λ f i. every_in (Part T S) S.right (right_parts T S g) f (hr f i)))
