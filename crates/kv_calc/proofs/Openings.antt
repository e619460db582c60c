-- The body of a quantifier of a sequent, opened at a term, is a formula of parts of the sequent.
use Rattle.std.proofs.Common.{ℕ, ◌+◌, ◌-◌, List, [], ◌∷◌, ◌++◌, Some, None, inl, inr, ◌≡◌, refl, sym, subst}
use Rattle.std.specs.Prelude.{Bool, true, false, ◌==◌, if◌then◌else◌, nat_lt}
use Rattle.kv_names.specs.Names.{Name}
use Rattle.kv_trees.specs.Trees.{Term, Terms, Form, Sequent}
use Rattle.kv_names.specs.declared.symbols.Var.{Var}
use Rattle.kv_trees.specs.declared.trees.Ref.{Ref}
use Rattle.kv_trees.specs.declared.trees.Ref.TheVariants.{Free, Bound}
use Rattle.kv_sig.specs.Members.{In}
use Rattle.kv_sig.specs.FreeNames.{free_ref, free_term, free_terms, free_form, free_sequent, assumed_form, assumed_sequent}
use Rattle.kv_sig.specs.Typing.{IsTerm, IsForm}
use Rattle.kv_subst.specs.Changing.{changed_form}
use Rattle.kv_subst.specs.Opening.{raised_term, raised_terms, opened, is_admissible, open_form}
use Rattle.kv_calc.proofs.Typings.{opening_typed}
use Rattle.kv_calc.specs.Calculus.{Theory}
use Rattle.kv_calc.proofs.Members.{Sub, in_front, in_either}
use Rattle.kv_calc.proofs.Changed.{form_names, same_assumed}
use Rattle.kv_calc.proofs.Parts.{Part}

mutual
  pub free_raised : (k : ℕ) (t : Term) → free_term (raised_term k t) ≡ free_term t
  free_raised k (Term.Place (Free x)) = refl
  free_raised k (Term.Place (Bound n)) = refl
  free_raised k (Term.App f ts) = frees_raised k ts

  frees_raised : (k : ℕ) (ts : Terms) → free_terms (raised_terms k ts) ≡ free_terms ts
  frees_raised k Terms.none = refl
  frees_raised k (Terms.more t ts) = λ i. free_raised k t i ++ frees_raised k ts i

-- one of two terms
either_term : (names : List Var) (b : Bool) (t u : Term) → Sub (free_term t) names → Sub (free_term u) names → Sub (free_term (if b then t else u)) names
either_term names true t u h k = h
either_term names false t u h k = k

opened_names : (t : Term) (k : ℕ) (r : Ref) → Sub (free_term (opened t k r)) (free_ref r ++ free_term t)
opened_names t k (Free x) = λ y i. in_front (free_term t) i
opened_names t k (Bound m) =
    either_term (free_term t) (nat_lt m k) (Term.Place (Bound m)) (if m == k then raised_term k t else Term.Place (Bound (m - 1))) (λ y i. elim i [ ])
    (either_term (free_term t) (m == k) (raised_term k t) (Term.Place (Bound (m - 1))) (λ y i. subst (In y) (free_raised k t) i) (λ y i. elim i [ ]))

-- the value of a choice that has one
chosen : (b : Bool) (x y : Form) → (if b then Some x else None) ≡ Some y → x ≡ y
chosen true x y e = cc
chosen false x y e = cc

pub opened_part : (T : Theory) (S : Sequent) (s : Name) (a b : Form) (t : Term) → IsForm T.signature (s ∷ []) a → Sub (free_form a) (free_sequent S) → Sub (assumed_form a) (assumed_sequent S)
    → IsTerm T.signature [] t s → Sub (free_term t) (free_sequent S) → open_form a t ≡ Some b → Part T S b
opened_part T S s a b t body variables procedures term names opens = record {
  typed = opening_typed.of_form T.signature [] s t a b term body opens;
  variables = λ x i. elim (in_either (free_form a) (free_term t) (form_names (opened t) (free_term t) (opened_names t) 0 a x (subst (λ f. In x (free_form f)) (sym same) i))) [
    | inl j ↦ variables x j
    | inr j ↦ names x j
  ];
  procedures = λ p i. procedures p (subst (In p) (same_assumed (opened t) 0 a) (subst (λ f. In p (assumed_form f)) (sym same) i));
} where
  same : changed_form (opened t) 0 a ≡ b
  same = chosen (is_admissible a t) (changed_form (opened t) 0 a) b opens
