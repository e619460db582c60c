-- The laws of derivations.
use Rattle.std.proofs.Common.{List, [], ◌∷◌, ◌++◌, ◌≡◌, refl, sym, ap, subst}
use Rattle.kv_trees.specs.Trees.{Form, Sequent}
use Rattle.kv_sig.specs.Members.{here, there, Every}
use Rattle.kv_calc.specs.Calculus.{Theory, Good, Step, Rule, Deriv, Derivs, root_of, roots_of, Valid, AllValid, Derivable, sequent, alone}
use Rattle.kv_calc.specs.Laws.{extended, Dropping, Cutting}
use Rattle.kv_calc.proofs.Members.{in_front, in_back, every_in, every_of, every_push}
use Rattle.kv_calc.proofs.Parts.{Part, left_parts, right_parts, good_parts, good_sub}

-- ---- one step above derivations

pub by_all : (T : Theory) (step : Step) (S : Sequent) (ds : Derivs) → Good T S → Rule T step S (roots_of ds) → AllValid T ds → Derivable T S
by_all T step S ds g r v = (Deriv.node step S ds, record { valid = (g, r, v); root = refl })

pub by_one : (T : Theory) (step : Step) (S P : Sequent) → Good T S → Rule T step S (P ∷ []) → Derivable T P → Derivable T S
by_one T step S P g r d = by_all T step S (Derivs.more d.0 Derivs.none) g (subst (λ s. Rule T step S (s ∷ [])) (sym d.1.root) r) (d.1.valid, tt)

pub by_two : (T : Theory) (step : Step) (S P Q : Sequent) → Good T S → Rule T step S (P ∷ Q ∷ []) → Derivable T P → Derivable T Q → Derivable T S
by_two T step S P Q g r d e =
    let first = subst (λ s. Rule T step S (s ∷ Q ∷ [])) (sym d.1.root) r in
    let both = subst (λ s. Rule T step S (root_of d.0 ∷ s ∷ [])) (sym e.1.root) first in
    by_all T step S (Derivs.more d.0 (Derivs.more e.0 Derivs.none)) g both (d.1.valid, (e.1.valid, tt))

root_good : (T : Theory) (d : Deriv) → Valid T d → Good T (root_of d)
root_good T (Deriv.node step S ds) v = v.0

pub derivable_good : (T : Theory) (S : Sequent) → Derivable T S → Good T S
derivable_good T S d = subst (Good T) d.1.root (root_good T d.0 d.1.valid)

-- ---- more formulas, which are dropped

more_right : (T : Theory) (l es r : List Form) → Derivable T (sequent l r) → Good T (sequent l (es ++ r)) → Derivable T (sequent l (es ++ r))
more_right T l [] r d g = d
more_right T l (e ∷ es) r d g =
    let g' = good_sub T (sequent l (e ∷ es ++ r)) g l (es ++ r) (λ x i. i) (λ x i. there i) in
    by_one T (Step.drop_right 1) (sequent l (e ∷ es ++ r)) (sequent l (es ++ r)) g (e, refl, refl) (more_right T l es r d g')

more_left : (T : Theory) (es l r : List Form) → Derivable T (sequent l r) → Good T (sequent (es ++ l) r) → Derivable T (sequent (es ++ l) r)
more_left T [] l r d g = d
more_left T (e ∷ es) l r d g =
    let g' = good_sub T (sequent (e ∷ es ++ l) r) g (es ++ l) r (λ x i. there i) (λ x i. i) in
    by_one T (Step.drop_left 1) (sequent (e ∷ es ++ l) r) (sequent (es ++ l) r) g (e, refl, refl) (more_left T es l r d g')

pub dropping : Dropping
dropping T extra S d g =
    let r = extra.right ++ S.right in
    let g' = good_sub T (extended extra S) g S.left r (λ x i. in_back extra.left i) (λ x i. i) in
    more_left T extra.left S.left r (more_right T S.left extra.right S.right d g') g

-- ---- a formula with a derivation of its own

append_nil : {A : Type 0} (xs : List A) → xs ++ [] ≡ xs
append_nil [] = refl
append_nil (x ∷ xs) = ap (λ z. x ∷ z) (append_nil xs)

pub cutting : Cutting
cutting T S f lemma d =
    let U = sequent (S.left ++ f ∷ []) S.right in
    let g = derivable_good T U d in
    let left : Every (Part T U) S.left = every_of (Part T U) S.left (λ x i. every_in (Part T U) U.left (left_parts T U g) x (in_front (f ∷ []) i)) in
    let cut : Part T U f = every_in (Part T U) U.left (left_parts T U g) f (in_back S.left here) in
    let shown = good_parts T U g S.left (S.right ++ f ∷ []) left (every_push (Part T U) S.right f (right_parts T U g) cut) in
    let nil = append_nil S.left in
    let beside = dropping T S (alone f) lemma (subst (λ l. Good T (sequent l (S.right ++ f ∷ []))) (sym nil) shown) in
    let first = subst (λ l. Derivable T (sequent l (S.right ++ f ∷ []))) nil beside in
    by_two T (Step.cut f) S (sequent S.left (S.right ++ f ∷ [])) U (good_parts T U g S.left S.right left (right_parts T U g)) refl first d
