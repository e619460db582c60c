-- A variable that isn't free in a tree is none of its assigned variables and references, and neither is the bound one where the
-- opening keeps each box and diamond.
use Rattle.std.proofs.Common.{◌≡◌, ℕ, ◌+◌, List, [], ◌∷◌}
use Rattle.std.specs.Prelude.{true, false, ◌&&◌, ◌||◌}
use Rattle.std.proofs.lemmas.Bool.{and_parts, or_parts, not-true}
use Rattle.kv_trees.specs.Same.{ref_eq}
use Rattle.kv_trees.specs.Trees.{Term, Form, Prog}
use Rattle.kv_trees.specs.declared.trees.Ref.{Ref}
use Rattle.kv_trees.specs.declared.trees.Ref.TheVariants.{Bound}
use Rattle.kv_trees.specs.Variables.{raised_ref, term_has, terms_have, refs_have, form_has, prog_has, modifies}
use Rattle.kv_subst.specs.Opening.{keeps, form_keeps, prog_keeps}
use Rattle.kv_subst.specs.Fitting.{AllRefs, FormRefs, ProgRefs}

-- a reference is another variable than r
abbrev pub IsOther : Ref → ℕ → Ref → Type 0
IsOther r k q = ref_eq q (raised_ref k r) ≡ false

refs_other : (r : Ref) (k : ℕ) (qs : List Ref) → refs_have (raised_ref k r) qs ≡ false → AllRefs (IsOther r k) qs
refs_other r k [] e = tt
refs_other r k (q ∷ qs) e = let p = or_parts (ref_eq q (raised_ref k r)) (refs_have (raised_ref k r) qs) e in (p.0, refs_other r k qs p.1)

-- ---- where it isn't free; the tree stands under one binder more than is counted

-- a variable outside a binder that goes away
abbrev pub IsOuter : Ref → ℕ → Ref → Type 0
IsOuter r k q = IsOther r (k + 1) q

module _ (r : Ref) where
  mutual
    pub form_other : (k : ℕ) (f : Form) → form_has r (k + 1) f ≡ false → FormRefs (IsOuter r) k f
    form_other k Form.True e = tt
    form_other k Form.False e = tt
    form_other k (Form.Atom p ts) e = tt
    form_other k (Form.Equal s t) e = tt
    form_other k (Form.Not f) e = form_other k f e
    form_other k (Form.And f g) e = let p = or_parts (form_has r (k + 1) f) (form_has r (k + 1) g) e in (form_other k f p.0, form_other k g p.1)
    form_other k (Form.Or f g) e = let p = or_parts (form_has r (k + 1) f) (form_has r (k + 1) g) e in (form_other k f p.0, form_other k g p.1)
    form_other k (Form.Imp f g) e = let p = or_parts (form_has r (k + 1) f) (form_has r (k + 1) g) e in (form_other k f p.0, form_other k g p.1)
    form_other k (Form.Iff f g) e = let p = or_parts (form_has r (k + 1) f) (form_has r (k + 1) g) e in (form_other k f p.0, form_other k g p.1)
    form_other k (Form.All s f) e = form_other (k + 1) f e
    form_other k (Form.Ex s f) e = form_other (k + 1) f e
    form_other k (Form.After a f) e = let p = or_parts (prog_has r (k + 1) a) (form_has r (k + 1) f) e in (prog_other k a p.0, form_other k f p.1)
    form_other k (Form.Can a f) e = let p = or_parts (prog_has r (k + 1) a) (form_has r (k + 1) f) e in (prog_other k a p.0, form_other k f p.1)

    pub prog_other : (k : ℕ) (a : Prog) → prog_has r (k + 1) a ≡ false → ProgRefs (IsOuter r) k a
    prog_other k Prog.Skip e = tt
    prog_other k Prog.Abort e = tt
    prog_other k (Prog.Assign x t) e = (or_parts (ref_eq x (raised_ref (k + 1) r)) (term_has (raised_ref (k + 1) r) t) e).0
    prog_other k (Prog.Seq a b) e = let p = or_parts (prog_has r (k + 1) a) (prog_has r (k + 1) b) e in (prog_other k a p.0, prog_other k b p.1)
    prog_other k (Prog.If g a b) e =
        let p = or_parts (form_has r (k + 1) g) (prog_has r (k + 1) a || prog_has r (k + 1) b) e in
        let q = or_parts (prog_has r (k + 1) a) (prog_has r (k + 1) b) p.1 in
        (form_other k g p.0, prog_other k a q.0, prog_other k b q.1)
    prog_other k (Prog.While g a) e = let p = or_parts (form_has r (k + 1) g) (prog_has r (k + 1) a) e in (form_other k g p.0, prog_other k a p.1)
    prog_other k (Prog.Local s t a) e = prog_other (k + 1) a (or_parts (term_has (raised_ref (k + 1) r) t) (prog_has r (k + 1 + 1) a) e).1
    prog_other k (Prog.Call p ts rs) e = refs_other r (k + 1) rs (or_parts (terms_have (raised_ref (k + 1) r) ts) (refs_have (raised_ref (k + 1) r) rs) e).1
    prog_other k (Prog.Choice a b) e = let p = or_parts (prog_has r (k + 1) a) (prog_has r (k + 1) b) e in (prog_other k a p.0, prog_other k b p.1)

-- ---- where each box and diamond may stand

-- the bound variable isn't modified
kept : (t : Term) (k : ℕ) (a : Prog) (f : Form) → keeps t k a f ≡ true → modifies (Bound 0) k a ≡ false
unfolding keeps
kept t k a f e = not-true (modifies (Bound 0) k a) (and_parts _ _ e).0

module _ (t : Term) where
  mutual
    pub form_unbound : (k : ℕ) (f : Form) → form_keeps t k f ≡ true → FormRefs (IsOther (Bound 0)) k f
    form_unbound k Form.True e = tt
    form_unbound k Form.False e = tt
    form_unbound k (Form.Atom p ts) e = tt
    form_unbound k (Form.Equal s u) e = tt
    form_unbound k (Form.Not f) e = form_unbound k f e
    form_unbound k (Form.And f g) e = let p = and_parts (form_keeps t k f) (form_keeps t k g) e in (form_unbound k f p.0, form_unbound k g p.1)
    form_unbound k (Form.Or f g) e = let p = and_parts (form_keeps t k f) (form_keeps t k g) e in (form_unbound k f p.0, form_unbound k g p.1)
    form_unbound k (Form.Imp f g) e = let p = and_parts (form_keeps t k f) (form_keeps t k g) e in (form_unbound k f p.0, form_unbound k g p.1)
    form_unbound k (Form.Iff f g) e = let p = and_parts (form_keeps t k f) (form_keeps t k g) e in (form_unbound k f p.0, form_unbound k g p.1)
    form_unbound k (Form.All s f) e = form_unbound (k + 1) f e
    form_unbound k (Form.Ex s f) e = form_unbound (k + 1) f e
    form_unbound k (Form.After a f) e =
        let p = and_parts (keeps t k a f) (prog_keeps t k a && form_keeps t k f) e in
        let q = and_parts (prog_keeps t k a) (form_keeps t k f) p.1 in
        (prog_unbound k a (kept t k a f p.0) q.0, form_unbound k f q.1)
    form_unbound k (Form.Can a f) e =
        let p = and_parts (keeps t k a f) (prog_keeps t k a && form_keeps t k f) e in
        let q = and_parts (prog_keeps t k a) (form_keeps t k f) p.1 in
        (prog_unbound k a (kept t k a f p.0) q.0, form_unbound k f q.1)

    prog_unbound : (k : ℕ) (a : Prog) → modifies (Bound 0) k a ≡ false → prog_keeps t k a ≡ true → ProgRefs (IsOther (Bound 0)) k a
    prog_unbound k Prog.Skip m e = tt
    prog_unbound k Prog.Abort m e = tt
    prog_unbound k (Prog.Assign x u) m e = m
    prog_unbound k (Prog.Seq a b) m e =
        let n = or_parts (modifies (Bound 0) k a) (modifies (Bound 0) k b) m in
        let p = and_parts (prog_keeps t k a) (prog_keeps t k b) e in
        (prog_unbound k a n.0 p.0, prog_unbound k b n.1 p.1)
    prog_unbound k (Prog.If g a b) m e =
        let n = or_parts (modifies (Bound 0) k a) (modifies (Bound 0) k b) m in
        let p = and_parts (form_keeps t k g) (prog_keeps t k a && prog_keeps t k b) e in
        let q = and_parts (prog_keeps t k a) (prog_keeps t k b) p.1 in
        (form_unbound k g p.0, prog_unbound k a n.0 q.0, prog_unbound k b n.1 q.1)
    prog_unbound k (Prog.While g a) m e =
        let p = and_parts (form_keeps t k g) (prog_keeps t k a) e in
        (form_unbound k g p.0, prog_unbound k a m p.1)
    prog_unbound k (Prog.Local s u a) m e = prog_unbound (k + 1) a m e
    prog_unbound k (Prog.Call p us rs) m e = refs_other (Bound 0) k rs m
    prog_unbound k (Prog.Choice a b) m e =
        let n = or_parts (modifies (Bound 0) k a) (modifies (Bound 0) k b) m in
        let p = and_parts (prog_keeps t k a) (prog_keeps t k b) e in
        (prog_unbound k a n.0 p.0, prog_unbound k b n.1 p.1)
