-- Renaming to a new name: what could be opened can still be, and nothing else.
use Rattle.std.proofs.Common.{◌≡◌, ℕ, ◌+◌, refl, sym, ap, ◌∙◌, inl, inr}
use Rattle.std.specs.Prelude.{Bool, true, false, not, ◌&&◌, ◌||◌, if◌then◌else◌, Some, None}
use Rattle.std.specs.Option.{option_map}
use Rattle.std.proofs.lemmas.Bool.{cond-true, cond-false, cases_Bool, or_parts, or_from}
use Rattle.kv_trees.specs.Same.{var_eq, ref_eq}
use Rattle.kv_trees.proofs.Same.{var_is, ref_same}
use Rattle.kv_names.specs.Names.{Name}
use Rattle.kv_trees.specs.Trees.{Term, Terms, Form, Prog}
use Rattle.kv_names.specs.declared.symbols.Var.{Var}
use Rattle.kv_trees.specs.declared.trees.Ref.{Ref}
use Rattle.kv_trees.specs.declared.trees.Ref.TheVariants.{Free, Bound}
use Rattle.kv_trees.specs.Variables.{raised_ref, term_any, terms_any, term_has, terms_have, refs_have, form_has, prog_has, modifies}
use Rattle.kv_subst.specs.Changing.{changed_term, changed_terms, changed_form, changed_prog}
use Rattle.kv_subst.specs.Opening.{opened, renamed_var, renamed, keeps, form_keeps, prog_keeps, is_new, is_admissible}
use Rattle.kv_subst.specs.Laws as law
use Rattle.kv_subst.specs.Laws.{as_named}
use Rattle.kv_subst.proofs.FreeIn.{or_false, and_true, and_false}
use Rattle.kv_subst.proofs.Inside.{form_inside, prog_inside}
use Rattle.kv_subst.proofs.Anywhere.{form_anywhere, prog_anywhere}
use Rattle.kv_subst.proofs.Proved.{form_renamed, prog_renamed, mod_renamed, renaming_of_opened}

-- what isn't free isn't modified
unmodified : (r : Ref) (k : ℕ) (a : Prog) → prog_has r k a ≡ false → modifies r k a ≡ false
unmodified r k Prog.Skip e = refl
unmodified r k Prog.Abort e = refl
unmodified r k (Prog.Assign x t) e = (or_parts (ref_eq x (raised_ref k r)) (term_has (raised_ref k r) t) e).0
unmodified r k (Prog.Seq a b) e =
    let p = or_parts (prog_has r k a) (prog_has r k b) e in
    or_from (modifies r k a) (modifies r k b) (unmodified r k a p.0) (unmodified r k b p.1)
unmodified r k (Prog.If f a b) e =
    let p = or_parts (form_has r k f) (prog_has r k a || prog_has r k b) e in
    let q = or_parts (prog_has r k a) (prog_has r k b) p.1 in
    or_from (modifies r k a) (modifies r k b) (unmodified r k a q.0) (unmodified r k b q.1)
unmodified r k (Prog.While f a) e = unmodified r k a (or_parts (form_has r k f) (prog_has r k a) e).1
unmodified r k (Prog.Local s t a) e = unmodified r (k + 1) a (or_parts (term_has (raised_ref k r) t) (prog_has r (k + 1) a) e).1
unmodified r k (Prog.Call p ts rs) e = (or_parts (terms_have (raised_ref k r) ts) (refs_have (raised_ref k r) rs) e).1
unmodified r k (Prog.Choice a b) e =
    let p = or_parts (prog_has r k a) (prog_has r k b) e in
    or_from (modifies r k a) (modifies r k b) (unmodified r k a p.0) (unmodified r k b p.1)

-- neither the old variable nor the new one
neither : (b d : Bool) → ((b && true) || (d && false)) ≡ b
neither b d = (λ i. and_true b i || and_false d i) ∙ or_false b

module _ (x : Var) (to : Name) where
  abbrev by_name : Var
  by_name = record { name = to; sort = x.sort }

  -- a test that renaming turns from h into h', at a variable and at what it becomes
  moved : (h h' : Ref → Bool) → ((r : Ref) → h' r ≡ ((h r && not (ref_eq r (Free x))) || (h (Free x) && ref_eq r (as_named x to)))) → h (as_named x to) ≡ false →
      (r : Ref) → ref_eq r (as_named x to) ≡ false → h' (renamed_var x to r) ≡ h r
  moved h h' turns new (Bound m) e = turns (Bound m) ∙ neither (h (Bound m)) (h (Free x))
  moved h h' turns new (Free z) e = elim (cases_Bool (var_eq z x)) [
    | inl g ↦
        ap (λ v. h' (Free v)) (cond-true (var_eq z x) by_name z g) ∙ turns (as_named x to)
        ∙ (λ i. (new i && not (ref_eq (as_named x to) (Free x))) || (h (Free x) && ref_same (as_named x to) i)) ∙ and_true (h (Free x))
        ∙ ap (λ v. h (Free v)) (sym (var_is z x g))
    | inr g ↦
        ap (λ v. h' (Free v)) (cond-false (var_eq z x) by_name z g) ∙ turns (Free z)
        ∙ (λ i. (h (Free z) && not (g i)) || (h (Free x) && e i)) ∙ neither (h (Free z)) (h (Free x))
  ]

module _ (x : Var) (to : Name) (k : ℕ) (a : Prog) (new : prog_has (as_named x to) (k + 1) a ≡ false) where
  turned : (r : Ref) → modifies r (k + 1) (changed_prog (renamed x to) k a) ≡ ((modifies r (k + 1) a && not (ref_eq r (Free x))) || (modifies (Free x) (k + 1) a && ref_eq r (as_named x to)))
  turned r = ap (modifies r (k + 1)) (sym (prog_inside (renamed x to) k a)) ∙ mod_renamed x to r (k + 1) a

  mutual
    term_modified : (t : Term) → term_has (as_named x to) t ≡ false →
        term_any (λ r. modifies r (k + 1) (changed_prog (renamed x to) k a)) (changed_term (renamed x to 0) t) ≡ term_any (λ r. modifies r (k + 1) a) t
    term_modified (Term.Place r) e =
        moved x to (λ q. modifies q (k + 1) a) (λ q. modifies q (k + 1) (changed_prog (renamed x to) k a)) turned (unmodified (as_named x to) (k + 1) a new) r e
    term_modified (Term.App f ts) e = terms_modified ts e

    terms_modified : (ts : Terms) → terms_have (as_named x to) ts ≡ false →
        terms_any (λ r. modifies r (k + 1) (changed_prog (renamed x to) k a)) (changed_terms (renamed x to 0) ts) ≡ terms_any (λ r. modifies r (k + 1) a) ts
    terms_modified Terms.none e = refl
    terms_modified (Terms.more t ts) e =
        let p = or_parts (term_has (as_named x to) t) (terms_have (as_named x to) ts) e in
        λ i. term_modified t p.0 i || terms_modified ts p.1 i

module _ (x : Var) (to : Name) (t : Term) (new : term_has (as_named x to) t ≡ false) where
  abbrev after : Term
  after = changed_term (renamed x to 0) t

  same_keeps : (k : ℕ) (a : Prog) (f : Form) → prog_has (as_named x to) k a ≡ false → keeps after k (changed_prog (renamed x to) k a) (changed_form (renamed x to) k f) ≡ keeps t k a f
  unfolding keeps
  same_keeps k a f e =
      let m = mod_renamed x to (Bound 0) k a ∙ neither (modifies (Bound 0) k a) (modifies (Free x) k a) in
      let p = prog_renamed x to (Bound 0) k a ∙ neither (prog_has (Bound 0) k a) (prog_has (Free x) k a) in
      let q = form_renamed x to (Bound 0) k f ∙ neither (form_has (Bound 0) k f) (form_has (Free x) k f) in
      let w = term_modified x to k a (prog_anywhere (by_name x to) (k + 1) k a ∙ e) t new in
      λ i. not (m i) && not ((p i || q i) && w i)

  mutual
    form_same : (k : ℕ) (f : Form) → form_has (as_named x to) k f ≡ false → form_keeps after k (changed_form (renamed x to) k f) ≡ form_keeps t k f
    form_same k Form.True e = refl
    form_same k Form.False e = refl
    form_same k (Form.Atom p ts) e = refl
    form_same k (Form.Equal s u) e = refl
    form_same k (Form.Not f) e = form_same k f e
    form_same k (Form.And f g) e =
        let p = or_parts (form_has (as_named x to) k f) (form_has (as_named x to) k g) e in
        λ i. form_same k f p.0 i && form_same k g p.1 i
    form_same k (Form.Or f g) e =
        let p = or_parts (form_has (as_named x to) k f) (form_has (as_named x to) k g) e in
        λ i. form_same k f p.0 i && form_same k g p.1 i
    form_same k (Form.Imp f g) e =
        let p = or_parts (form_has (as_named x to) k f) (form_has (as_named x to) k g) e in
        λ i. form_same k f p.0 i && form_same k g p.1 i
    form_same k (Form.Iff f g) e =
        let p = or_parts (form_has (as_named x to) k f) (form_has (as_named x to) k g) e in
        λ i. form_same k f p.0 i && form_same k g p.1 i
    form_same k (Form.All s f) e = form_same (k + 1) f e
    form_same k (Form.Ex s f) e = form_same (k + 1) f e
    form_same k (Form.After a f) e =
        let p = or_parts (prog_has (as_named x to) k a) (form_has (as_named x to) k f) e in
        λ i. same_keeps k a f p.0 i && (prog_same k a p.0 i && form_same k f p.1 i)
    form_same k (Form.Can a f) e =
        let p = or_parts (prog_has (as_named x to) k a) (form_has (as_named x to) k f) e in
        λ i. same_keeps k a f p.0 i && (prog_same k a p.0 i && form_same k f p.1 i)

    prog_same : (k : ℕ) (a : Prog) → prog_has (as_named x to) k a ≡ false → prog_keeps after k (changed_prog (renamed x to) k a) ≡ prog_keeps t k a
    prog_same k Prog.Skip e = refl
    prog_same k Prog.Abort e = refl
    prog_same k (Prog.Assign q u) e = refl
    prog_same k (Prog.Call p us rs) e = refl
    prog_same k (Prog.Seq a b) e =
        let p = or_parts (prog_has (as_named x to) k a) (prog_has (as_named x to) k b) e in
        λ i. prog_same k a p.0 i && prog_same k b p.1 i
    prog_same k (Prog.Choice a b) e =
        let p = or_parts (prog_has (as_named x to) k a) (prog_has (as_named x to) k b) e in
        λ i. prog_same k a p.0 i && prog_same k b p.1 i
    prog_same k (Prog.If f a b) e =
        let p = or_parts (form_has (as_named x to) k f) (prog_has (as_named x to) k a || prog_has (as_named x to) k b) e in
        let q = or_parts (prog_has (as_named x to) k a) (prog_has (as_named x to) k b) p.1 in
        λ i. form_same k f p.0 i && (prog_same k a q.0 i && prog_same k b q.1 i)
    prog_same k (Prog.While f a) e =
        let p = or_parts (form_has (as_named x to) k f) (prog_has (as_named x to) k a) e in
        λ i. form_same k f p.0 i && prog_same k a p.1 i
    prog_same k (Prog.Local s u a) e = prog_same (k + 1) a (or_parts (term_has (as_named x to) u) (prog_has (as_named x to) (k + 1) a) e).1

module _ (x : Var) (to : Name) where
  same_new : (t : Term) (f : Form) → term_has (as_named x to) t ≡ false → form_has (as_named x to) 0 f ≡ false → is_new (changed_form (renamed x to) 0 f) (changed_term (renamed x to 0) t) ≡ is_new f t
  same_new (Term.App g ts) f e h = refl
  same_new (Term.Place r) f e h =
      ap not (moved x to (λ q. form_has q 1 f) (λ q. form_has q 1 (changed_form (renamed x to) 0 f)) turns (form_anywhere (by_name x to) 1 0 f ∙ h) r e) where
        turns : (q : Ref) → form_has q 1 (changed_form (renamed x to) 0 f) ≡ ((form_has q 1 f && not (ref_eq q (Free x))) || (form_has (Free x) 1 f && ref_eq q (as_named x to)))
        turns q = ap (form_has q 1) (sym (form_inside (renamed x to) 0 f)) ∙ form_renamed x to q 1 f

  same_admissible : (t : Term) (f : Form) → term_has (as_named x to) t ≡ false → form_has (as_named x to) 0 f ≡ false → is_admissible (changed_form (renamed x to) 0 f) (changed_term (renamed x to 0) t) ≡ is_admissible f t
  unfolding is_admissible
  same_admissible t f e h = λ i. form_same x to t e 0 f h i || same_new t f e h i

-- a choice that is made on both sides
chosen : {A : Type 0} (b : Bool) (g : A → A) (u w : A) → w ≡ g u → (if b then Some w else None) ≡ option_map g (if b then Some u else None)
chosen true g u w e = ap Some e
chosen false g u w e = refl

pub renaming_of_openings : law.RenamingOpenings
renaming_of_openings = record {
  of_form = λ t x to f e h.
      ap (λ (b : Bool). if b then Some (changed_form (opened (changed_term (renamed x to 0) t)) 0 (changed_form (renamed x to) 0 f)) else None) (same_admissible x to t f e h)
      ∙ chosen (is_admissible f t) (changed_form (renamed x to) 0) (changed_form (opened t) 0 f) (changed_form (opened (changed_term (renamed x to 0) t)) 0 (changed_form (renamed x to) 0 f))
      (sym (renaming_of_opened.of_form t x to 0 f));
  of_prog = λ t x to a e h.
      ap (λ (b : Bool). if b then Some (changed_prog (opened (changed_term (renamed x to 0) t)) 0 (changed_prog (renamed x to) 0 a)) else None)
      (same_admissible x to t (Form.After a Form.True) e (or_false (prog_has (as_named x to) 0 a) ∙ h))
      ∙ chosen (is_admissible (Form.After a Form.True) t) (changed_prog (renamed x to) 0) (changed_prog (opened t) 0 a) (changed_prog (opened (changed_term (renamed x to 0) t)) 0 (changed_prog (renamed x to) 0 a))
      (sym (renaming_of_opened.of_prog t x to 0 a));
}
