-- What was raised for a binder doesn't have the binder's variable: it modifies what it modified before, and each box and diamond
-- in it may stand where the binder opens.
use Rattle.std.proofs.Common.{◌≡◌, ℕ, ◌+◌, List, [], ◌∷◌, map, refl, sym, ap, ◌∙◌, inl, inr, arith}
use Rattle.std.specs.Prelude.{Bool, true, false, ◌||◌, ◌==◌}
use Rattle.std.proofs.lemmas.Bool.{cases_lt, ne_eqb}
use Rattle.std.proofs.lemmas.Bool.Decides.{same_from_decides, Decides-eqb, Decides-like}
use Rattle.kv_trees.specs.Same.{ref_eq}
use Rattle.kv_trees.specs.Trees.{Term, Form, Prog}
use Rattle.kv_trees.specs.Variables.{raised_ref, refs_have, form_has, prog_has, modifies, term_any}
use Rattle.kv_trees.specs.declared.trees.Ref.{Ref}
use Rattle.kv_trees.specs.declared.trees.Ref.TheVariants.{Free, Bound}
use Rattle.kv_subst.specs.Changing.{changed_ref, changed_form, changed_prog}
use Rattle.kv_subst.specs.Opening.{raised_var, raised, opened, keeps, form_keeps, prog_keeps}
use Rattle.kv_subst.specs.Opening.{raised_term}
use Rattle.kv_subst.proofs.Found.{form_found, prog_found, mod_found}
use Rattle.kv_subst.proofs.Proved.{raising_none, opening_of_raised}
use Rattle.kv_subst.proofs.Refs.{form_refs, prog_refs}
use Rattle.kv_subst.proofs.Single.{raised_below, raised_above, opened_here, opening_raised, raising_by_none}
use Rattle.kv_script.proofs.Marks.{both_true, kept_by, none_and}

-- ---- opening gives back what was raised

pub here : (w : Term) (k : ℕ) → opened w k (Bound k) ≡ raised_term k w
here w k = opened_here w k k refl

pub back : (w : Term) (k : ℕ) (r : Ref) → opened w k (raised_var 1 k r) ≡ Term.Place r
back w k r = opening_raised w 0 k r ∙ ap Term.Place (raising_by_none k r)

pub form_back : (w : Term) (k : ℕ) (f : Form) → changed_form (opened w) k (changed_form (raised 1) k f) ≡ f
form_back w k f = opening_of_raised.of_form w 0 k f ∙ raising_none.of_form k f

pub prog_back : (w : Term) (k : ℕ) (a : Prog) → changed_prog (opened w) k (changed_prog (raised 1) k a) ≡ a
prog_back w k a = opening_of_raised.of_prog w 0 k a ∙ raising_none.of_prog k a

-- ---- the binder's variable stands nowhere

apart : (k : ℕ) (q : Ref) → ref_eq (raised_var 1 k q) (raised_ref k (Bound 0)) ≡ false
apart k (Free x) = refl
apart k (Bound m) = elim (cases_lt m k) [
  | inl h ↦ ap (λ r. ref_eq r (raised_ref k (Bound 0))) (raised_below 1 k m h) ∙ ne_eqb m (0 + k) (λ e. omega arith)
  | inr h ↦ ap (λ r. ref_eq r (raised_ref k (Bound 0))) (raised_above 1 k m h) ∙ ne_eqb (m + 1) (0 + k) (λ e. omega arith)
]

-- no condition on references
abbrev Any : ℕ → Ref → Type 0
Any k r = Unit {0}

abbrev never : Bool → Bool → Bool
never a b = false

pub not_in_form : (k : ℕ) (f : Form) → form_has (Bound 0) k (changed_form (raised 1) k f) ≡ false
not_in_form k f = form_found (raised 1) (Bound 0) (Bound 0) (Bound 0) never refl (λ a b c d. refl) Any apart (λ k q v. apart k q) k f (form_refs Any (λ k r. tt) k f)

pub not_in_prog : (k : ℕ) (a : Prog) → prog_has (Bound 0) k (changed_prog (raised 1) k a) ≡ false
not_in_prog k a = prog_found (raised 1) (Bound 0) (Bound 0) (Bound 0) never refl (λ a b c d. refl) Any apart (λ k q v. apart k q) k a (prog_refs Any (λ k r. tt) k a)

pub unmodified : (k : ℕ) (a : Prog) → modifies (Bound 0) k (changed_prog (raised 1) k a) ≡ false
unmodified k a = mod_found (raised 1) (Bound 0) (Bound 0) (Bound 0) never refl (λ a b c d. refl) Any apart (λ k q v. apart k q) k a (prog_refs Any (λ k r. tt) k a)

-- ---- the other variables are as they were, called one more

same_tests : (a b c d : ℕ) → (a ≡ b → c ≡ d) → (c ≡ d → a ≡ b) → (a == b) ≡ (c == d)
same_tests a b c d there turned = same_from_decides (a == b) (c == d) (Decides-eqb a b) (Decides-like (c == d) turned there (Decides-eqb c d))

one_more : (k : ℕ) (r q : Ref) → ref_eq (raised_var 1 k q) (raised_ref (k + 1) r) ≡ ref_eq q (raised_ref k r)
one_more k (Free y) (Free x) = refl
one_more k (Bound j) (Free x) = refl
one_more k (Free y) (Bound m) = elim (cases_lt m k) [
  | inl h ↦ ap (λ r. ref_eq r (Free y)) (raised_below 1 k m h)
  | inr h ↦ ap (λ r. ref_eq r (Free y)) (raised_above 1 k m h)
]
one_more k (Bound j) (Bound m) = elim (cases_lt m k) [
  | inl h ↦ ap (λ r. ref_eq r (Bound (j + (k + 1)))) (raised_below 1 k m h) ∙ ne_eqb m (j + (k + 1)) (λ e. omega arith) ∙ sym (ne_eqb m (j + k) (λ e. omega arith))
  | inr h ↦ ap (λ r. ref_eq r (Bound (j + (k + 1)))) (raised_above 1 k m h) ∙ same_tests (m + 1) (j + (k + 1)) m (j + k) (λ e. omega arith) (λ e. omega arith)
]

refs_more : (k : ℕ) (r : Ref) (qs : List Ref) → refs_have (raised_ref (k + 1) r) (map (changed_ref (raised 1 k)) qs) ≡ refs_have (raised_ref k r) qs
refs_more k r [] = refl
refs_more k r (q ∷ qs) = λ i. one_more k r q i || refs_more k r qs i

pub modified : (k : ℕ) (a : Prog) (r : Ref) → modifies r (k + 1) (changed_prog (raised 1) k a) ≡ modifies r k a
modified k Prog.Skip r = refl
modified k Prog.Abort r = refl
modified k (Prog.Assign x t) r = one_more k r x
modified k (Prog.Seq a b) r = λ i. modified k a r i || modified k b r i
modified k (Prog.If e a b) r = λ i. modified k a r i || modified k b r i
modified k (Prog.While e a) r = modified k a r
modified k (Prog.Local s t a) r = modified (k + 1) a r
modified k (Prog.Call p ts rs) r = refs_more k r rs
modified k (Prog.Choice a b) r = λ i. modified k a r i || modified k b r i

-- ---- each box and diamond may stand

stands : (w : Term) (k : ℕ) (a : Prog) (f : Form) → keeps w k (changed_prog (raised 1) k a) (changed_form (raised 1) k f) ≡ true
unfolding keeps
stands w k a f =
    let a' = changed_prog (raised 1) k a in
    let f' = changed_form (raised 1) k f in
    let clash = term_any (λ r. modifies r (k + 1) a') w in
    kept_by (modifies (Bound 0) k a') (prog_has (Bound 0) k a') (form_has (Bound 0) k f') clash (unmodified k a) (not_in_prog k a) (none_and (form_has (Bound 0) k f') clash (not_in_form k f))

module _ (w : Term) where
  mutual
    pub form_kept : (k : ℕ) (f : Form) → form_keeps w k (changed_form (raised 1) k f) ≡ true
    form_kept k Form.True = refl
    form_kept k Form.False = refl
    form_kept k (Form.Atom p ts) = refl
    form_kept k (Form.Equal s t) = refl
    form_kept k (Form.Not f) = form_kept k f
    form_kept k (Form.And f g) = both_true _ _ (form_kept k f) (form_kept k g)
    form_kept k (Form.Or f g) = both_true _ _ (form_kept k f) (form_kept k g)
    form_kept k (Form.Imp f g) = both_true _ _ (form_kept k f) (form_kept k g)
    form_kept k (Form.Iff f g) = both_true _ _ (form_kept k f) (form_kept k g)
    form_kept k (Form.All s f) = form_kept (k + 1) f
    form_kept k (Form.Ex s f) = form_kept (k + 1) f
    form_kept k (Form.After a f) = both_true _ _ (stands w k a f) (both_true _ _ (prog_kept k a) (form_kept k f))
    form_kept k (Form.Can a f) = both_true _ _ (stands w k a f) (both_true _ _ (prog_kept k a) (form_kept k f))

    pub prog_kept : (k : ℕ) (a : Prog) → prog_keeps w k (changed_prog (raised 1) k a) ≡ true
    prog_kept k Prog.Skip = refl
    prog_kept k Prog.Abort = refl
    prog_kept k (Prog.Assign x t) = refl
    prog_kept k (Prog.Seq a b) = both_true _ _ (prog_kept k a) (prog_kept k b)
    prog_kept k (Prog.If e a b) = both_true _ _ (form_kept k e) (both_true _ _ (prog_kept k a) (prog_kept k b))
    prog_kept k (Prog.While e a) = both_true _ _ (form_kept k e) (prog_kept k a)
    prog_kept k (Prog.Local s t a) = prog_kept (k + 1) a
    prog_kept k (Prog.Call p ts rs) = refl
    prog_kept k (Prog.Choice a b) = both_true _ _ (prog_kept k a) (prog_kept k b)
