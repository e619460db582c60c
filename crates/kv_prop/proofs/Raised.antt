-- Terms that are equal, and lists of them.
use Rattle.std.proofs.Common.{◌≡◌, ℕ, List, [], ◌∷◌, length, true, false, ap, sym, ◌∙◌, refl, arith}
use Rattle.std.specs.Bool.{one_answer}
use Rattle.std.specs.Prelude.{Bool}
use Rattle.std.proofs.lemmas.Bool.{cond-true}
use Rattle.kv_trees.specs.Bridge.{plain_term, plain_terms}
use Rattle.kv_trees.specs.Same.{term_eq, terms_eq}
use Rattle.kv_trees.specs.Trees.{Term}
use Rattle.kv_trees.specs.declared.trees.Term.{Term as TermRow}
use Rattle.kv_trees.proofs.Same.{parts, term_is, term_same}
use Rattle.kv_subst.specs.Opening.{raised_term, raised_terms}
use Rattle.kv_prop.specs.Replacing.{replaced_term, replaced_terms}

pub same_lengths : (k : ℕ) (ts us : List TermRow) → terms_eq (plain_terms ts) (raised_terms k (plain_terms us)) ≡ true → length ts ≡ length us
same_lengths k [] [] e = refl
same_lengths k [] (u ∷ us) e = cc
same_lengths k (t ∷ ts) [] e = cc
same_lengths k (t ∷ ts) (u ∷ us) e =
    let rest = same_lengths k ts us (parts (term_eq (plain_term t) (raised_term k (plain_term u))) (terms_eq (plain_terms ts) (raised_terms k (plain_terms us))) e).1 in
    omega arith

one_way : (t u : Term) → term_eq t u ≡ true → term_eq u t ≡ true
one_way t u e = ap (λ v. term_eq v t) (sym (term_is t u e)) ∙ term_same t

pub other_way : (t u : Term) → term_eq t u ≡ term_eq u t
other_way t u = one_answer (term_eq t u) (term_eq u t) (one_way t u, one_way u t) ((λ e. e), (λ e. e))

is_false : (b : Bool) → (b ≡ true → ⊥) → false ≡ b
is_false true n = absurd (n refl)
is_false false n = refl

pub other_lengths : (k : ℕ) (ts us : List TermRow) → (length ts ≡ length us → ⊥) → false ≡ terms_eq (plain_terms ts) (raised_terms k (plain_terms us))
other_lengths k ts us n = is_false (terms_eq (plain_terms ts) (raised_terms k (plain_terms us))) (λ e. n (same_lengths k ts us e))

-- at a place that is equal to t
pub replaced_here : (t u v : Term) → term_eq v t ≡ true → replaced_term t u v ≡ u
replaced_here t u (Term.Place r) e = cond-true (term_eq (Term.Place r) t) u (Term.Place r) e
replaced_here t u (Term.App f ts) e = cond-true (term_eq (Term.App f ts) t) u (Term.App f (replaced_terms t u ts)) e

pub stays_here : (t u v : Term) → term_eq v t ≡ true → term_eq (replaced_term t u v) v ≡ term_eq v u
stays_here t u v e = ap (λ w. term_eq w v) (replaced_here t u v e) ∙ other_way u v
