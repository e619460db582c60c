-- The laws.
use Rattle.std.proofs.Common.{◌≡◌, ℕ, ◌+◌, refl, sym, ap, ◌∙◌}
use Rattle.std.specs.Prelude.{Bool, true, false, not, ◌&&◌, ◌||◌, Some, None}
use Rattle.std.proofs.lemmas.Bool.{cond-true, or_right}
use Rattle.kv_trees.specs.Same.{ref_eq}
use Rattle.kv_names.specs.Names.{Name}
use Rattle.kv_trees.specs.Trees.{Term, Form, Prog}
use Rattle.kv_names.specs.declared.symbols.Var.{Var}
use Rattle.kv_trees.specs.declared.trees.Ref.{Ref}
use Rattle.kv_trees.specs.declared.trees.Ref.TheVariants.{Free, Bound}
use Rattle.kv_trees.specs.Variables.{raised_ref, term_has, form_has, prog_has, modifies}
use Rattle.kv_subst.specs.Changing.{Change, changed_term, changed_ref, variable_or, changed_form, changed_prog}
use Rattle.kv_subst.specs.Opening.{raised, raised_term, raised_var, opened, closed, closed_var, renamed, is_admissible, form_keeps, is_new, close_form, close_prog}
use Rattle.kv_subst.specs.Fitting.{FormRefs, ProgRefs, IsPlace, FormFits, ProgFits}
use Rattle.kv_subst.specs.Laws as law
use Rattle.kv_subst.proofs.Single.{raising_by_none, raising_twice, opening_raised, opening_closed}
use Rattle.kv_subst.proofs.Openings.{opening_twice, opening_refs_twice, raising_opened, raising_refs_opened, renaming_opened, renaming_refs_opened}
use Rattle.kv_subst.proofs.Refs.{form_refs, prog_refs}
use Rattle.kv_subst.proofs.Twice.{form_twice, prog_twice}
use Rattle.kv_subst.proofs.Unchanged.{left, form_left, prog_left}
use Rattle.kv_subst.proofs.Inside.{inside, form_inside, prog_inside}
use Rattle.kv_subst.proofs.Anywhere.{form_anywhere, prog_anywhere}
use Rattle.kv_subst.proofs.Found.{form_found, prog_found, mod_found}
use Rattle.kv_subst.proofs.FreeIn.{or_joined, and_joined, place_opened, ref_as_term, place_renamed, place_closed}
use Rattle.kv_subst.proofs.Fits.{admissible_fits, prog_admissible_fits}
use Rattle.kv_trees.proofs.Depths.{form_within, prog_within}

-- no condition on references
abbrev Any : ℕ → Ref → Type 0
Any k r = Unit {0}

form_any : (k : ℕ) (f : Form) → FormRefs Any k f
form_any = form_refs Any (λ k r. tt)

prog_any : (k : ℕ) (a : Prog) → ProgRefs Any k a
prog_any = prog_refs Any (λ k r. tt)

-- ---- raising

pub raising_none : law.RaisingByNone
raising_none = record {
  of_form = λ k f. ap (λ (c : Change). changed_form c k f) same ∙ form_left k f;
  of_prog = λ k a. ap (λ (c : Change). changed_prog c k a) same ∙ prog_left k a;
} where
  same : ◌≡◌ {A = Change} (raised 0) left
  same = λ i k r. Term.Place (raising_by_none k r i)

pub raisings : law.RaisingTwice
raisings = record {
  of_form = λ n m k f. form_twice (raised n) (raised m) (raised (n + m)) left Any (place n m) (ref n m) k f (form_any k f) ∙ form_left k (changed_form (raised (n + m)) k f);
  of_prog = λ n m k a. prog_twice (raised n) (raised m) (raised (n + m)) left Any (place n m) (ref n m) k a (prog_any k a) ∙ prog_left k (changed_prog (raised (n + m)) k a);
} where
  place : (n m k : ℕ) (r : Ref) → Term.Place (raised_var m k (raised_var n k r)) ≡ Term.Place (raised_var (n + m) k r)
  place n m k r = ap Term.Place (raising_twice n m k r)

  ref : (n m k : ℕ) (r : Ref) → Any k r → raised_var m k (raised_var n k r) ≡ raised_var (n + m) k r
  ref n m k r v = raising_twice n m k r

-- ---- opening and another change

pub openings : law.OpeningTwice
openings = record {
  of_form = λ t u k f v.
      form_twice (opened t) (opened u) (inside (opened u)) (opened (changed_term (opened u 0) t)) (λ k r. IsPlace (opened t k r)) (opening_twice t u) (opening_refs_twice t u) k f v
      ∙ ap (changed_form (opened (changed_term (opened u 0) t)) k) (sym (form_inside (opened u) k f));
  of_prog = λ t u k a v.
      prog_twice (opened t) (opened u) (inside (opened u)) (opened (changed_term (opened u 0) t)) (λ k r. IsPlace (opened t k r)) (opening_twice t u) (opening_refs_twice t u) k a v
      ∙ ap (changed_prog (opened (changed_term (opened u 0) t)) k) (sym (prog_inside (opened u) k a));
}

pub opening_of_raised : law.OpeningRaised
opening_of_raised = record {
  of_form = λ t n k f. form_twice (raised (n + 1)) (opened t) (raised n) left Any (opening_raised t n) (ref t n) k f (form_any k f) ∙ form_left k (changed_form (raised n) k f);
  of_prog = λ t n k a. prog_twice (raised (n + 1)) (opened t) (raised n) left Any (opening_raised t n) (ref t n) k a (prog_any k a) ∙ prog_left k (changed_prog (raised n) k a);
} where
  ref : (t : Term) (n k : ℕ) (r : Ref) → Any k r → variable_or (raised_var (n + 1) k r) (opened t k (raised_var (n + 1) k r)) ≡ raised_var n k r
  ref t n k r v = ap (variable_or (raised_var (n + 1) k r)) (opening_raised t n k r)

pub raising_of_opened : law.RaisingOpened
raising_of_opened = record {
  of_form = λ t n k f v.
      form_twice (opened t) (raised n) (inside (raised n)) (opened (raised_term n t)) (λ k r. IsPlace (opened t k r)) (raising_opened t n) (raising_refs_opened t n) k f v
      ∙ ap (changed_form (opened (raised_term n t)) k) (sym (form_inside (raised n) k f));
  of_prog = λ t n k a v.
      prog_twice (opened t) (raised n) (inside (raised n)) (opened (raised_term n t)) (λ k r. IsPlace (opened t k r)) (raising_opened t n) (raising_refs_opened t n) k a v
      ∙ ap (changed_prog (opened (raised_term n t)) k) (sym (prog_inside (raised n) k a));
}

pub renaming_of_opened : law.RenamingOpened
renaming_of_opened = record {
  of_form = λ t x to k f.
      form_twice (opened t) (renamed x to) (renamed x to) (opened (changed_term (renamed x to 0) t)) Any (renaming_opened t x to) (λ k r v. renaming_refs_opened t x to k r) k f (form_any k f);
  of_prog = λ t x to k a.
      prog_twice (opened t) (renamed x to) (renamed x to) (opened (changed_term (renamed x to 0) t)) Any (renaming_opened t x to) (λ k r v. renaming_refs_opened t x to k r) k a (prog_any k a);
}

-- ---- closing and opening

module _ (x : Var) where
  abbrev itself : Term
  itself = Term.Place (Free x)

  ref_back : (k : ℕ) (r : Ref) → Any k r → variable_or (closed_var x k r) (opened itself k (closed_var x k r)) ≡ r
  ref_back k r v = ap (variable_or (closed_var x k r)) (opening_closed x k r)

  form_back : (k : ℕ) (f : Form) → changed_form (opened itself) k (changed_form (closed x) k f) ≡ f
  form_back k f = form_twice (closed x) (opened itself) left left Any (opening_closed x) ref_back k f (form_any k f) ∙ form_left k (changed_form left k f) ∙ form_left k f

  prog_back : (k : ℕ) (a : Prog) → changed_prog (opened itself) k (changed_prog (closed x) k a) ≡ a
  prog_back k a = prog_twice (closed x) (opened itself) left left Any (opening_closed x) ref_back k a (prog_any k a) ∙ prog_left k (changed_prog left k a) ∙ prog_left k a

  abbrev never : Bool → Bool → Bool
  never a b = false

  form_lacks : (j : ℕ) (f : Form) → form_has (Free x) j (close_form x f) ≡ false
  form_lacks j f =
      form_anywhere x j 0 (close_form x f)
      ∙ form_found (closed x) (Free x) (Free x) (Free x) never refl (λ a b c d. refl) Any (place_closed x) (λ k q v. place_closed x k q) 0 f (form_any 0 f)

  prog_lacks : (j : ℕ) (a : Prog) → prog_has (Free x) j (close_prog x a) ≡ false
  prog_lacks j a =
      prog_anywhere x j 0 (close_prog x a)
      ∙ prog_found (closed x) (Free x) (Free x) (Free x) never refl (λ a b c d. refl) Any (place_closed x) (λ k q v. place_closed x k q) 0 a (prog_any 0 a)

new_admissible : (f : Form) (t : Term) → is_new f t ≡ true → is_admissible f t ≡ true
unfolding is_admissible
new_admissible f t e = or_right (form_keeps t 0 f) (is_new f t) e

pub opening_of_closed : law.OpeningClosed
opening_of_closed = record {
  of_form = λ x f.
      cond-true (is_admissible (close_form x f) (Term.Place (Free x))) (Some (changed_form (opened (Term.Place (Free x))) 0 (close_form x f))) None
      (new_admissible (close_form x f) (Term.Place (Free x)) (ap not (form_lacks x 1 f)))
      ∙ ap Some (form_back x 0 f);
  of_prog = λ x a.
      cond-true (is_admissible (Form.After (close_prog x a) Form.True) (Term.Place (Free x))) (Some (changed_prog (opened (Term.Place (Free x))) 0 (close_prog x a))) None
      (new_admissible (Form.After (close_prog x a) Form.True) (Term.Place (Free x)) (ap (λ b. not (b || false)) (prog_lacks x 1 a)))
      ∙ ap Some (prog_back x 0 a);
}

-- ---- free and modified variables

module _ (t : Term) (r : Ref) where
  abbrev opened_mix : Bool → Bool → Bool
  opened_mix a b = a || (b && term_has r t)

  opened_joined : (a a' b b' : Bool) → opened_mix (a || a') (b || b') ≡ (opened_mix a b || opened_mix a' b')
  opened_joined a a' b b' = ap (λ z. (a || a') || z) (and_joined b b' (term_has r t)) ∙ or_joined a a' (b && term_has r t) (b' && term_has r t)

  abbrev Placed : ℕ → Ref → Type 0
  Placed k q = IsPlace (opened t k q)

  ref_opened : (k : ℕ) (q : Ref) → Placed k q → ref_eq (changed_ref (opened t k) q) (raised_ref k r) ≡ opened_mix (ref_eq q (raised_ref k (raised_ref 1 r))) (ref_eq q (raised_ref k (Bound 0)))
  ref_opened k q v = ref_as_term q (raised_ref k r) (opened t k q) v ∙ place_opened t r k q

  form_opened : (k : ℕ) (f : Form) → FormFits (opened t) k f → form_has r k (changed_form (opened t) k f) ≡ opened_mix (form_has (raised_ref 1 r) k f) (form_has (Bound 0) k f)
  form_opened = form_found (opened t) r (raised_ref 1 r) (Bound 0) opened_mix refl opened_joined Placed (place_opened t r) ref_opened

  prog_opened : (k : ℕ) (a : Prog) → ProgFits (opened t) k a → prog_has r k (changed_prog (opened t) k a) ≡ opened_mix (prog_has (raised_ref 1 r) k a) (prog_has (Bound 0) k a)
  prog_opened = prog_found (opened t) r (raised_ref 1 r) (Bound 0) opened_mix refl opened_joined Placed (place_opened t r) ref_opened

  mod_opened : (k : ℕ) (a : Prog) → ProgFits (opened t) k a → modifies r k (changed_prog (opened t) k a) ≡ opened_mix (modifies (raised_ref 1 r) k a) (modifies (Bound 0) k a)
  mod_opened = mod_found (opened t) r (raised_ref 1 r) (Bound 0) opened_mix refl opened_joined Placed (place_opened t r) ref_opened

pub variables_opened : law.VariablesOpened
variables_opened = record { of_form = form_opened; of_prog = prog_opened; of_mod = mod_opened }

module _ (x : Var) (to : Name) (r : Ref) where
  abbrev renamed_mix : Bool → Bool → Bool
  renamed_mix a b = (a && not (ref_eq r (Free x))) || (b && ref_eq r (law.as_named x to))

  renamed_joined : (a a' b b' : Bool) → renamed_mix (a || a') (b || b') ≡ (renamed_mix a b || renamed_mix a' b')
  renamed_joined a a' b b' =
      (λ i. and_joined a a' (not (ref_eq r (Free x))) i || and_joined b b' (ref_eq r (law.as_named x to)) i)
      ∙ or_joined (a && not (ref_eq r (Free x))) (a' && not (ref_eq r (Free x))) (b && ref_eq r (law.as_named x to)) (b' && ref_eq r (law.as_named x to))

  pub form_renamed : (k : ℕ) (f : Form) → form_has r k (changed_form (renamed x to) k f) ≡ renamed_mix (form_has r k f) (form_has (Free x) k f)
  form_renamed k f = form_found (renamed x to) r r (Free x) renamed_mix refl renamed_joined Any (place_renamed x to r) (λ k q v. place_renamed x to r k q) k f (form_any k f)

  pub prog_renamed : (k : ℕ) (a : Prog) → prog_has r k (changed_prog (renamed x to) k a) ≡ renamed_mix (prog_has r k a) (prog_has (Free x) k a)
  prog_renamed k a = prog_found (renamed x to) r r (Free x) renamed_mix refl renamed_joined Any (place_renamed x to r) (λ k q v. place_renamed x to r k q) k a (prog_any k a)

  pub mod_renamed : (k : ℕ) (a : Prog) → modifies r k (changed_prog (renamed x to) k a) ≡ renamed_mix (modifies r k a) (modifies (Free x) k a)
  mod_renamed k a = mod_found (renamed x to) r r (Free x) renamed_mix refl renamed_joined Any (place_renamed x to r) (λ k q v. place_renamed x to r k q) k a (prog_any k a)

pub variables_renamed : law.VariablesRenamed
variables_renamed = record { of_form = form_renamed; of_prog = prog_renamed; of_mod = mod_renamed }

-- ---- admissible openings, and sizes

pub admissible_openings : law.AdmissibleFits
admissible_openings = record { of_form = admissible_fits; of_prog = prog_admissible_fits }

pub binders_within : law.BindersWithinDepth
binders_within = record { of_form = form_within; of_prog = prog_within }
