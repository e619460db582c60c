-- The steps of the quantifiers: each is an instance of its schema, with a good premise.
use Rattle.std.proofs.Common.{ℕ, Bool, true, false, not, ◌&&◌, List, [], ◌∷◌, Option, Some, is_none, ◌≡◌, refl, sym, ap, ◌∙◌, subst}
use Rattle.std.specs.List.{list_any}
use Rattle.std.specs.Str.{bytes_eq}
use Rattle.std.proofs.lemmas.Bool.{or_parts, not-true, true≢false}
use Rattle.kv_names.specs.Names.{Name}
use Rattle.kv_trees.specs.Trees.{Term, Form, Sequent}
use Rattle.kv_syn.specs.declared.scripts.Side.TheVariants.{L, R}
use Rattle.kv_names.specs.declared.symbols.Profile.{Profile}
use Rattle.kv_names.specs.declared.symbols.Profile.TheVariants.{Fun}
use Rattle.kv_names.specs.declared.symbols.Var.{Var}
use Rattle.kv_trees.specs.declared.trees.Ref.TheVariants.{Free, Bound}
use Rattle.kv_trees.proofs.Same.{parts, name_same}
use Rattle.kv_sig.specs.FreeNames.{free_term, free_sequent, assumed_sequent}
use Rattle.kv_sig.specs.Members.{In, here, there}
use Rattle.kv_sig.specs.Places.{item_at}
use Rattle.kv_sig.specs.Sequents.{in_place, at_end}
use Rattle.kv_sig.specs.Signatures.{profile_of}
use Rattle.kv_sig.specs.Typing.{IsTerm}
use Rattle.kv_sig.specs.Views.{View}
use Rattle.kv_subst.specs.Opening.{open_form}
use Rattle.kv_calc.specs.Calculus.{Theory, Good, IsNew}
use Rattle.kv_trees.specs.Variables.{variable}
use Rattle.kv_calc.specs.Calculus as c
use Rattle.kv_calc.proofs.Members.{Sub, in_item, every_in}
use Rattle.kv_calc.proofs.News.{beside, good_beside, whole_beside, names_beside}
use Rattle.kv_calc.proofs.Openings.{opened_part}
use Rattle.kv_calc.proofs.Parts.{Part}
use Rattle.kv_calc.proofs.Wholes.{good_whole, whole_in_place, whole_at_end}
use Rattle.kv_prop.specs.Premises.{result_of, sort_of, is_fresh, premises_of}
use Rattle.kv_prop.specs.Rows.{Row}
use Rattle.kv_script.proofs.Inversions.{okay, position_ok, all_ok, ex_ok, sort_ok, fresh_ok, captured_ok}
use Rattle.kv_script.proofs.Instances.{Instance, by_good, by_one, all_of_it, part_at}

-- ---- a new name

none_has : {A : Type 0} (test : A → Bool) (xs : List A) → list_any test xs ≡ false → (x : A) → In x xs → test x ≡ false
none_has test [] e x i = elim i [ ]
none_has test (y ∷ xs) e x here = (or_parts (test y) (list_any test xs) e).0
none_has test (y ∷ xs) e x (there i) = none_has test xs (or_parts (test y) (list_any test xs) e).1 x i

-- a test of names that fails tells them apart
apart : (y x : Name) → bytes_eq y x ≡ false → y ≡ x → ⊥
apart y x e same = true≢false (sym (subst (λ (z : Name). bytes_eq y z ≡ true) same (name_same y)) ∙ e)

pub new_name : (v : View) (S : Sequent) (x : Name) → is_fresh v S x ≡ true → IsNew x S
new_name v S x e =
    let none = λ (y : Var). bytes_eq y.name x in
    let neither = λ (p : Name × Profile). bytes_eq p.0 x in
    let p = parts (not (list_any none (free_sequent S)) && not (list_any neither (assumed_sequent S))) (is_none (v.symbol x)) e in
    let q = parts (not (list_any none (free_sequent S))) (not (list_any neither (assumed_sequent S))) p.0 in
    record {
      variables = λ y i. apart y.name x (none_has none (free_sequent S) (not-true (list_any none (free_sequent S)) q.0) y i);
      procedures = λ r i. apart r.0 x (none_has neither (assumed_sequent S) (not-true (list_any neither (assumed_sequent S)) q.1) r i);
    }

-- ---- the sort of a term

fun_is : (args others : List Name) (s t : Name) → ◌≡◌ {A = Option Profile} (Some (Fun args s)) (Some (Fun others t)) → s ≡ t
fun_is args others s t e = cc

some_is : (s t : Name) → ◌≡◌ {A = Option Name} (Some s) (Some t) → s ≡ t
some_is s t e = cc

-- the sort that the rules see is the one that the term is typed at
sort_typed : (v : View) (T : Theory) → v.symbol ≡ profile_of T.signature → (t : Term) (s want : Name) → IsTerm T.signature [] t s → sort_of v t ≡ Some want → s ≡ want
sort_typed v T symbols (Term.Place (Free x)) s want typed e = sym typed.0 ∙ some_is x.sort want e
sort_typed v T symbols (Term.Place (Bound n)) s want typed e = cc
sort_typed v T symbols (Term.App f ts) s want typed e =
    let known : v.symbol f ≡ Some (Fun typed.0 s) = ap (λ (look : Name → Option Profile). look f) symbols ∙ typed.1 in
    some_is s want (sym (ap result_of known) ∙ e)

-- ---- each row

-- a new variable is a name of the sequent beside which it stands
own : (T : Theory) (S : Sequent) (x : Var) → Good T (beside x S) → Sub (x ∷ []) (free_sequent (beside x S))
own T S x wide y here = names_beside T S x wide
own T S x wide y (there j) = elim j [ ]

module _ (v : View) (T : Theory) (S : Sequent) (g : Good T S) where
  pub of_all_right : (i : ℕ) (x : Name) (ps : List Sequent) → premises_of v S (Row.all_right i x) ≡ okay ps → Instance T S ps
  of_all_right i x ps e =
      let y = position_ok (item_at S.right i) _ ps e in
      let z = all_ok y.0 _ ps y.2 in
      let s = z.0 in
      let a = z.1 in
      let w = fresh_ok x (is_fresh v S x) _ ps z.3 in
      let b = captured_ok (open_form a (variable x s)) _ ps w.1 in
      let found = y.1 ∙ ap Some z.2 in
      let new = new_name v S x w.0 in
      let it : Var = record { name = x; sort = s } in
      let p = part_at T S g R i (Form.All s a) found in
      let wide = good_beside T S g it p.typed.0 new in
      let whole = whole_beside T S it wide in
      let q = every_in (Part T (beside it S)) S.right whole.1 (Form.All s a) (in_item S.right i (Form.All s a) found) in
      let r = opened_part T (beside it S) s a b.0 (variable x s) q.typed.1 q.variables q.procedures (refl, p.typed.0) (own T S it wide) b.1 in
      by_good T S g (c.Step.all_right i x) (in_place R i b.0 S) ps b.2 (s, a, b.0, found, new, b.1, refl)
      (good_whole T (beside it S) (in_place R i b.0 S) wide (whole_in_place T (beside it S) R i b.0 S r whole))

  pub of_ex_left : (i : ℕ) (x : Name) (ps : List Sequent) → premises_of v S (Row.ex_left i x) ≡ okay ps → Instance T S ps
  of_ex_left i x ps e =
      let y = position_ok (item_at S.left i) _ ps e in
      let z = ex_ok y.0 _ ps y.2 in
      let s = z.0 in
      let a = z.1 in
      let w = fresh_ok x (is_fresh v S x) _ ps z.3 in
      let b = captured_ok (open_form a (variable x s)) _ ps w.1 in
      let found = y.1 ∙ ap Some z.2 in
      let new = new_name v S x w.0 in
      let it : Var = record { name = x; sort = s } in
      let p = part_at T S g L i (Form.Ex s a) found in
      let wide = good_beside T S g it p.typed.0 new in
      let whole = whole_beside T S it wide in
      let q = every_in (Part T (beside it S)) S.left whole.0 (Form.Ex s a) (in_item S.left i (Form.Ex s a) found) in
      let r = opened_part T (beside it S) s a b.0 (variable x s) q.typed.1 q.variables q.procedures (refl, p.typed.0) (own T S it wide) b.1 in
      by_good T S g (c.Step.ex_left i x) (in_place L i b.0 S) ps b.2 (s, a, b.0, found, new, b.1, refl)
      (good_whole T (beside it S) (in_place L i b.0 S) wide (whole_in_place T (beside it S) L i b.0 S r whole))

  module _ (symbols : v.symbol ≡ profile_of T.signature) (t : Term) (sort : Name) (typed : IsTerm T.signature [] t sort) (names : Sub (free_term t) (free_sequent S)) where
    pub of_all_left : (i : ℕ) (ps : List Sequent) → premises_of v S (Row.all_left i t) ≡ okay ps → Instance T S ps
    of_all_left i ps e =
        let y = position_ok (item_at S.left i) _ ps e in
        let z = all_ok y.0 _ ps y.2 in
        let s = z.0 in
        let a = z.1 in
        let w = sort_ok s (sort_of v t) _ ps z.3 in
        let b = captured_ok (open_form a t) _ ps w.1 in
        let found = y.1 ∙ ap Some z.2 in
        let p = part_at T S g L i (Form.All s a) found in
        let at = subst (IsTerm T.signature [] t) (sort_typed v T symbols t sort s typed w.0) typed in
        let r = opened_part T S s a b.0 t p.typed.1 p.variables p.procedures at names b.1 in
        by_one T S g (c.Step.all_left i t) (at_end L b.0 S) ps b.2 (s, a, b.0, found, at, b.1, refl) (whole_at_end T S L b.0 S r (all_of_it T S g))

    pub of_ex_right : (i : ℕ) (ps : List Sequent) → premises_of v S (Row.ex_right i t) ≡ okay ps → Instance T S ps
    of_ex_right i ps e =
        let y = position_ok (item_at S.right i) _ ps e in
        let z = ex_ok y.0 _ ps y.2 in
        let s = z.0 in
        let a = z.1 in
        let w = sort_ok s (sort_of v t) _ ps z.3 in
        let b = captured_ok (open_form a t) _ ps w.1 in
        let found = y.1 ∙ ap Some z.2 in
        let p = part_at T S g R i (Form.Ex s a) found in
        let at = subst (IsTerm T.signature [] t) (sort_typed v T symbols t sort s typed w.0) typed in
        let r = opened_part T S s a b.0 t p.typed.1 p.variables p.procedures at names b.1 in
        by_one T S g (c.Step.ex_right i t) (at_end R b.0 S) ps b.2 (s, a, b.0, found, at, b.1, refl) (whole_at_end T S R b.0 S r (all_of_it T S g))
