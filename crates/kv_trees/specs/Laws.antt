-- The tests for equal trees decide equality.
use Rattle.std.specs.Prelude.{◌≡◌, ◌↔◌, true}
use Rattle.kv_trees.specs.Same.{term_eq, form_eq, prog_eq, profile_eq}
use Rattle.kv_trees.specs.Trees.{Term, Form, Prog}
use Rattle.kv_names.specs.declared.symbols.Profile.{Profile}

-- each test holds exactly where both trees are the same
pub record Equality : Type 0 where
  pub terms : (t u : Term) → (term_eq t u ≡ true) ↔ (t ≡ u)
  pub forms : (f g : Form) → (form_eq f g ≡ true) ↔ (f ≡ g)
  pub progs : (a b : Prog) → (prog_eq a b ≡ true) ↔ (a ≡ b)
  pub profiles : (p q : Profile) → (profile_eq p q ≡ true) ↔ (p ≡ q)
