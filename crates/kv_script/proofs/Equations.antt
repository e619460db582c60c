-- The steps of equations: each is an instance of its schema, with good premises.
use Rattle.std.proofs.Common.{ℕ, List, [], Some, inl, inr, ◌≡◌, refl, sym, ap, ◌∙◌, subst}
use Rattle.kv_trees.specs.Same.{term_eq}
use Rattle.kv_trees.specs.Trees.{Term, Form, Sequent}
use Rattle.kv_syn.specs.declared.scripts.Side.{Side}
use Rattle.kv_syn.specs.declared.scripts.Side.TheVariants.{L}
use Rattle.kv_trees.proofs.Same.{term_is}
use Rattle.kv_sig.specs.FreeNames.{free_term, free_form}
use Rattle.kv_sig.specs.Members.{In}
use Rattle.kv_sig.specs.Places.{item_at}
use Rattle.kv_sig.specs.Sequents.{side_of, in_place}
use Rattle.kv_sig.specs.Views.{View}
use Rattle.kv_calc.specs.Calculus.{Theory, Good}
use Rattle.kv_calc.specs.Calculus as c
use Rattle.kv_calc.proofs.Members.{in_back, in_either}
use Rattle.kv_calc.proofs.Parts.{Part}
use Rattle.kv_calc.proofs.Wholes.{whole_in_place}
use Rattle.kv_prop.specs.Premises.{one, premises_of}
use Rattle.kv_prop.specs.Replacing.{replaced_form}
use Rattle.kv_prop.specs.Rows.{Row}
use Rattle.kv_script.proofs.Bodies.{body_of, body_old, body_new}
use Rattle.kv_script.proofs.Connectives.{swapped}
use Rattle.kv_script.proofs.Inversions.{okay, position_ok, when_ok, equal_ok, elsewhere_ok, changed_ok}
use Rattle.kv_script.proofs.Instances.{Instance, by_none, by_one, all_of_it, part_at, turned}
use Rattle.kv_script.proofs.Marked.{form_marked}
use Rattle.kv_script.proofs.Replaced.{form_replaced, form_names, same_assumed}

module _ (v : View) (T : Theory) (S : Sequent) (g : Good T S) where
  pub of_reflexive : (i : ℕ) (ps : List Sequent) → premises_of v S (Row.reflexive i) ≡ okay ps → Instance T S ps
  of_reflexive i ps e =
      let x = position_ok (item_at S.right i) _ ps e in
      let y = equal_ok x.0 _ ps x.2 in
      let z = when_ok (term_eq y.0 y.1) (okay []) _ ps y.3 in
      let same = term_is y.0 y.1 z.0 in
      by_none T S g (c.Step.reflexive i) ps z.1 (y.0, x.1 ∙ ap Some (y.2 ∙ ap (Form.Equal y.0) (sym same)), refl)

  pub of_swap : (side : Side) (i : ℕ) (ps : List Sequent) → premises_of v S (Row.swap side i) ≡ okay ps → Instance T S ps
  of_swap side i ps e =
      let x = position_ok (item_at (side_of side S) i) _ ps e in
      let y = equal_ok x.0 _ ps x.2 in
      let t = y.0 in
      let u = y.1 in
      let here = x.1 ∙ ap Some y.2 in
      let p = part_at T S g side i (Form.Equal t u) here in
      let back = turned T S g (Form.Equal t u) (Form.Equal u t) (p.typed.0, p.typed.2, p.typed.1) (swapped (free_term t) (free_term u)) (λ z j. j) p in
      by_one T S g (c.Step.swap side i) (in_place side i (Form.Equal u t) S) ps y.3 (t, u, here, refl) (whole_in_place T S side i (Form.Equal u t) S back (all_of_it T S g))

  -- a part with u for t, where both are terms of an equation of the sequent
  replaced_part : (t u : Term) (f : Form) → Part T S (Form.Equal t u) → Part T S f → Part T S (replaced_form t u 0 f)
  replaced_part t u f e p = record {
    typed = form_replaced T.signature [] t u e.typed.0 e.typed.1 e.typed.2 0 [] f refl p.typed;
    variables = λ x i. elim (in_either (free_form f) (free_term u) (form_names t u 0 f x i)) [ inl j ↦ p.variables x j | inr j ↦ e.variables x (in_back (free_term t) j) ];
    procedures = λ q i. p.procedures q (subst (In q) (same_assumed t u 0 f) i);
  }

  pub of_replace : (i : ℕ) (side : Side) (j : ℕ) (ps : List Sequent) → premises_of v S (Row.replace i side j) ≡ okay ps → Instance T S ps
  of_replace i side j ps e =
      let w = elsewhere_ok i side j _ ps e in
      let x = position_ok (item_at S.left i) _ ps w.1 in
      let y = position_ok (item_at (side_of side S) j) _ ps x.2 in
      let z = equal_ok x.0 _ ps y.2 in
      let t = z.0 in
      let u = z.1 in
      let f = y.0 in
      let h = replaced_form t u 0 f in
      let here = x.1 ∙ ap Some z.2 in
      let premise = changed_ok t u f (λ a. one (in_place side j a S)) ps z.3 in
      let equation = part_at T S g L i (Form.Equal t u) here in
      let old = part_at T S g side j f y.1 in
      let sort = equation.typed.0 in
      let body = form_marked T.signature [] sort t u equation.typed.1 0 [] f refl old.typed in
      let p = replaced_part t u f equation old in
      by_one T S g (c.Step.replace i side j (body_of t u f)) (in_place side j h S) ps premise
      (t, u, sort, f, h, here, y.1, w.0, equation.typed.1, body, body_old t u f, body_new t u f, refl) (whole_in_place T S side j h S p (all_of_it T S g))
