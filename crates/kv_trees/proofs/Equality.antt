-- The tests for equal trees decide equality.
use Rattle.std.specs.Prelude.{◌≡◌, ◌↔◌, Bool, true}
use Rattle.std.proofs.Common.{subst, sym}
use Rattle.kv_trees.specs.Laws.{Equality}
use Rattle.kv_trees.specs.Same.{term_eq, form_eq, prog_eq, profile_eq}
use Rattle.kv_trees.proofs.Same.{form_is, form_same, prog_is, prog_same, profile_is, profile_same, term_is, term_same}

-- a test that holds of each value and itself, and of equal ones alone, decides equality
decides : {A : Type 0} (test : A → A → Bool) → ((a b : A) → test a b ≡ true → a ≡ b) → ((a : A) → test a a ≡ true)
    → (a b : A) → (test a b ≡ true) ↔ (a ≡ b)
decides test is same a b = (is a b, λ e. subst (λ c. test a c ≡ true) e (same a))

pub equality : Equality
equality = record {
  terms = decides term_eq term_is term_same;
  forms = decides form_eq form_is form_same;
  progs = decides prog_eq prog_is prog_same;
  profiles = decides profile_eq profile_is profile_same;
}
