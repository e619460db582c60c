-- The steps of the connectives, and those that close or drop: each is an instance of its schema, with good premises.
use Rattle.std.proofs.Common.{ℕ, List, [], ◌++◌, Some, inl, inr, ◌≡◌, refl, sym, ap, ◌∙◌}
use Rattle.kv_trees.specs.Same.{form_eq}
use Rattle.kv_trees.specs.Trees.{Form, Sequent}
use Rattle.kv_syn.specs.declared.scripts.Side.TheVariants.{L, R}
use Rattle.kv_trees.proofs.Same.{form_is}
use Rattle.kv_sig.specs.FreeNames.{free_form, assumed_form}
use Rattle.kv_sig.specs.Places.{item_at}
use Rattle.kv_sig.specs.Sequents.{in_place, two_in_place, at_end, without}
use Rattle.kv_sig.specs.Views.{View}
use Rattle.kv_calc.specs.Calculus.{Theory, Good}
use Rattle.kv_calc.specs.Calculus as c
use Rattle.kv_calc.proofs.Members.{Sub, in_front, in_back, in_either}
use Rattle.kv_calc.proofs.Wholes.{whole_in_place, whole_two_in_place, whole_at_end, whole_without}
use Rattle.kv_prop.specs.Premises.{premises_of}
use Rattle.kv_prop.specs.Rows.{Row}
use Rattle.kv_script.proofs.Inversions.{okay, position_ok, when_ok, false_ok, true_ok, not_ok, and_ok, or_ok, imp_ok, iff_ok}
use Rattle.kv_script.proofs.Instances.{Instance, by_none, by_one, by_two, all_of_it, part_at, both, turned}

pub swapped : {A : Type 0} (xs ys : List A) → Sub (ys ++ xs) (xs ++ ys)
swapped xs ys z i = elim (in_either ys xs i) [ inl j ↦ in_back xs j | inr j ↦ in_front ys j ]

module _ (v : View) (T : Theory) (S : Sequent) (g : Good T S) where
  pub of_close : (i j : ℕ) (ps : List Sequent) → premises_of v S (Row.close i j) ≡ okay ps → Instance T S ps
  of_close i j ps e =
      let x = position_ok (item_at S.left i) _ ps e in
      let y = position_ok (item_at S.right j) _ ps x.2 in
      let z = when_ok (form_eq x.0 y.0) (okay []) _ ps y.2 in
      by_none T S g (c.Step.close i j) ps z.1 (x.0, x.1, y.1 ∙ ap Some (sym (form_is x.0 y.0 z.0)), refl)

  pub of_false_left : (i : ℕ) (ps : List Sequent) → premises_of v S (Row.false_left i) ≡ okay ps → Instance T S ps
  of_false_left i ps e =
      let x = position_ok (item_at S.left i) _ ps e in
      let y = false_ok x.0 (okay []) ps x.2 in
      by_none T S g (c.Step.false_left i) ps y.1 (x.1 ∙ ap Some y.0, refl)

  pub of_true_right : (i : ℕ) (ps : List Sequent) → premises_of v S (Row.true_right i) ≡ okay ps → Instance T S ps
  of_true_right i ps e =
      let x = position_ok (item_at S.right i) _ ps e in
      let y = true_ok x.0 (okay []) ps x.2 in
      by_none T S g (c.Step.true_right i) ps y.1 (x.1 ∙ ap Some y.0, refl)

  pub of_not_left : (i : ℕ) (ps : List Sequent) → premises_of v S (Row.not_left i) ≡ okay ps → Instance T S ps
  of_not_left i ps e =
      let x = position_ok (item_at S.left i) _ ps e in
      let y = not_ok x.0 _ ps x.2 in
      let here = x.1 ∙ ap Some y.1 in
      let p = part_at T S g L i (Form.Not y.0) here in
      let a = turned T S g (Form.Not y.0) y.0 p.typed (λ z j. j) (λ z j. j) p in
      by_one T S g (c.Step.not_left i) (at_end R y.0 (without L i S)) ps y.2 (y.0, here, refl)
      (whole_at_end T S R y.0 (without L i S) a (whole_without T S L i S (all_of_it T S g)))

  pub of_not_right : (i : ℕ) (ps : List Sequent) → premises_of v S (Row.not_right i) ≡ okay ps → Instance T S ps
  of_not_right i ps e =
      let x = position_ok (item_at S.right i) _ ps e in
      let y = not_ok x.0 _ ps x.2 in
      let here = x.1 ∙ ap Some y.1 in
      let p = part_at T S g R i (Form.Not y.0) here in
      let a = turned T S g (Form.Not y.0) y.0 p.typed (λ z j. j) (λ z j. j) p in
      by_one T S g (c.Step.not_right i) (at_end L y.0 (without R i S)) ps y.2 (y.0, here, refl)
      (whole_at_end T S L y.0 (without R i S) a (whole_without T S R i S (all_of_it T S g)))

  pub of_and_left : (i : ℕ) (ps : List Sequent) → premises_of v S (Row.and_left i) ≡ okay ps → Instance T S ps
  of_and_left i ps e =
      let x = position_ok (item_at S.left i) _ ps e in
      let y = and_ok x.0 _ ps x.2 in
      let a = y.0 in
      let b = y.1 in
      let here = x.1 ∙ ap Some y.2 in
      let p = part_at T S g L i (Form.And a b) here in
      let q = both T S g a b (Form.And a b) p.typed.0 p.typed.1 refl refl p in
      by_one T S g (c.Step.and_left i) (two_in_place L i a b S) ps y.3 (a, b, here, refl) (whole_two_in_place T S L i a b S q.0 q.1 (all_of_it T S g))

  pub of_or_right : (i : ℕ) (ps : List Sequent) → premises_of v S (Row.or_right i) ≡ okay ps → Instance T S ps
  of_or_right i ps e =
      let x = position_ok (item_at S.right i) _ ps e in
      let y = or_ok x.0 _ ps x.2 in
      let a = y.0 in
      let b = y.1 in
      let here = x.1 ∙ ap Some y.2 in
      let p = part_at T S g R i (Form.Or a b) here in
      let q = both T S g a b (Form.Or a b) p.typed.0 p.typed.1 refl refl p in
      by_one T S g (c.Step.or_right i) (two_in_place R i a b S) ps y.3 (a, b, here, refl) (whole_two_in_place T S R i a b S q.0 q.1 (all_of_it T S g))

  pub of_and_right : (i : ℕ) (ps : List Sequent) → premises_of v S (Row.and_right i) ≡ okay ps → Instance T S ps
  of_and_right i ps e =
      let x = position_ok (item_at S.right i) _ ps e in
      let y = and_ok x.0 _ ps x.2 in
      let a = y.0 in
      let b = y.1 in
      let here = x.1 ∙ ap Some y.2 in
      let p = part_at T S g R i (Form.And a b) here in
      let q = both T S g a b (Form.And a b) p.typed.0 p.typed.1 refl refl p in
      by_two T S g (c.Step.and_right i) (in_place R i a S) (in_place R i b S) ps y.3 (a, b, here, refl)
      (whole_in_place T S R i a S q.0 (all_of_it T S g)) (whole_in_place T S R i b S q.1 (all_of_it T S g))

  pub of_or_left : (i : ℕ) (ps : List Sequent) → premises_of v S (Row.or_left i) ≡ okay ps → Instance T S ps
  of_or_left i ps e =
      let x = position_ok (item_at S.left i) _ ps e in
      let y = or_ok x.0 _ ps x.2 in
      let a = y.0 in
      let b = y.1 in
      let here = x.1 ∙ ap Some y.2 in
      let p = part_at T S g L i (Form.Or a b) here in
      let q = both T S g a b (Form.Or a b) p.typed.0 p.typed.1 refl refl p in
      by_two T S g (c.Step.or_left i) (in_place L i a S) (in_place L i b S) ps y.3 (a, b, here, refl)
      (whole_in_place T S L i a S q.0 (all_of_it T S g)) (whole_in_place T S L i b S q.1 (all_of_it T S g))

  pub of_imp_left : (i : ℕ) (ps : List Sequent) → premises_of v S (Row.imp_left i) ≡ okay ps → Instance T S ps
  of_imp_left i ps e =
      let x = position_ok (item_at S.left i) _ ps e in
      let y = imp_ok x.0 _ ps x.2 in
      let a = y.0 in
      let b = y.1 in
      let here = x.1 ∙ ap Some y.2 in
      let p = part_at T S g L i (Form.Imp a b) here in
      let q = both T S g a b (Form.Imp a b) p.typed.0 p.typed.1 refl refl p in
      by_two T S g (c.Step.imp_left i) (at_end R a (without L i S)) (in_place L i b S) ps y.3 (a, b, here, refl)
      (whole_at_end T S R a (without L i S) q.0 (whole_without T S L i S (all_of_it T S g))) (whole_in_place T S L i b S q.1 (all_of_it T S g))

  pub of_imp_right : (i : ℕ) (ps : List Sequent) → premises_of v S (Row.imp_right i) ≡ okay ps → Instance T S ps
  of_imp_right i ps e =
      let x = position_ok (item_at S.right i) _ ps e in
      let y = imp_ok x.0 _ ps x.2 in
      let a = y.0 in
      let b = y.1 in
      let here = x.1 ∙ ap Some y.2 in
      let p = part_at T S g R i (Form.Imp a b) here in
      let q = both T S g a b (Form.Imp a b) p.typed.0 p.typed.1 refl refl p in
      by_one T S g (c.Step.imp_right i) (at_end L a (in_place R i b S)) ps y.3 (a, b, here, refl)
      (whole_at_end T S L a (in_place R i b S) q.0 (whole_in_place T S R i b S q.1 (all_of_it T S g)))

  pub of_iff_left : (i : ℕ) (ps : List Sequent) → premises_of v S (Row.iff_left i) ≡ okay ps → Instance T S ps
  of_iff_left i ps e =
      let x = position_ok (item_at S.left i) _ ps e in
      let y = iff_ok x.0 _ ps x.2 in
      let a = y.0 in
      let b = y.1 in
      let here = x.1 ∙ ap Some y.2 in
      let p = part_at T S g L i (Form.Iff a b) here in
      let there = turned T S g (Form.Iff a b) (Form.Imp a b) p.typed (λ z j. j) (λ z j. j) p in
      let back = turned T S g (Form.Iff a b) (Form.Imp b a) (p.typed.1, p.typed.0) (swapped (free_form a) (free_form b)) (swapped (assumed_form a) (assumed_form b)) p in
      by_one T S g (c.Step.iff_left i) (two_in_place L i (Form.Imp a b) (Form.Imp b a) S) ps y.3 (a, b, here, refl)
      (whole_two_in_place T S L i (Form.Imp a b) (Form.Imp b a) S there back (all_of_it T S g))

  pub of_iff_right : (i : ℕ) (ps : List Sequent) → premises_of v S (Row.iff_right i) ≡ okay ps → Instance T S ps
  of_iff_right i ps e =
      let x = position_ok (item_at S.right i) _ ps e in
      let y = iff_ok x.0 _ ps x.2 in
      let a = y.0 in
      let b = y.1 in
      let here = x.1 ∙ ap Some y.2 in
      let p = part_at T S g R i (Form.Iff a b) here in
      let there = turned T S g (Form.Iff a b) (Form.Imp a b) p.typed (λ z j. j) (λ z j. j) p in
      let back = turned T S g (Form.Iff a b) (Form.Imp b a) (p.typed.1, p.typed.0) (swapped (free_form a) (free_form b)) (swapped (assumed_form a) (assumed_form b)) p in
      by_two T S g (c.Step.iff_right i) (in_place R i (Form.Imp a b) S) (in_place R i (Form.Imp b a) S) ps y.3 (a, b, here, refl)
      (whole_in_place T S R i (Form.Imp a b) S there (all_of_it T S g)) (whole_in_place T S R i (Form.Imp b a) S back (all_of_it T S g))

  pub of_drop_left : (i : ℕ) (ps : List Sequent) → premises_of v S (Row.drop_left i) ≡ okay ps → Instance T S ps
  of_drop_left i ps e =
      let x = position_ok (item_at S.left i) _ ps e in
      by_one T S g (c.Step.drop_left i) (without L i S) ps x.2 (x.0, x.1, refl) (whole_without T S L i S (all_of_it T S g))

  pub of_drop_right : (i : ℕ) (ps : List Sequent) → premises_of v S (Row.drop_right i) ≡ okay ps → Instance T S ps
  of_drop_right i ps e =
      let x = position_ok (item_at S.right i) _ ps e in
      by_one T S g (c.Step.drop_right i) (without R i S) ps x.2 (x.0, x.1, refl) (whole_without T S R i S (all_of_it T S g))
