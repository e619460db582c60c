-- Where an opening is admissible, its term comes to an assigned variable or a reference only where it is a variable.
use Rattle.std.proofs.Common.{◌≡◌, ℕ, ◌+◌, List, [], ◌∷◌, inl, inr}
use Rattle.std.specs.Prelude.{true, false, ◌&&◌}
use Rattle.std.proofs.lemmas.Bool.{and_parts, or_parts, or_cases, not-true}
use Rattle.kv_trees.specs.Same.{ref_eq}
use Rattle.kv_trees.specs.Trees.{Term, Form, Prog}
use Rattle.kv_trees.specs.declared.trees.Ref.{Ref}
use Rattle.kv_trees.specs.declared.trees.Ref.TheVariants.{Bound}
use Rattle.kv_trees.specs.Variables.{raised_ref, refs_have, modifies}
use Rattle.kv_subst.specs.Opening.{opened, keeps, form_keeps, prog_keeps, is_new, is_admissible, prog_is_admissible}
use Rattle.kv_subst.specs.Fitting.{AllRefs, IsPlace, FormFits, ProgFits}
use Rattle.kv_subst.proofs.Single.{not_here_fits, variable_fits}
use Rattle.kv_subst.proofs.Refs.{form_refs}

-- the bound variable isn't modified
kept : (t : Term) (k : ℕ) (a : Prog) (f : Form) → keeps t k a f ≡ true → modifies (Bound 0) k a ≡ false
unfolding keeps
kept t k a f e = not-true (modifies (Bound 0) k a) (and_parts _ _ e).0

module _ (t : Term) where
  refs_fit : (k : ℕ) (rs : List Ref) → refs_have (raised_ref k (Bound 0)) rs ≡ false → AllRefs (λ r. IsPlace (opened t k r)) rs
  refs_fit k [] e = tt
  refs_fit k (r ∷ rs) e =
      let p = or_parts (ref_eq r (raised_ref k (Bound 0))) (refs_have (raised_ref k (Bound 0)) rs) e in
      (not_here_fits t k r p.0, refs_fit k rs p.1)

  mutual
    form_fits : (k : ℕ) (f : Form) → form_keeps t k f ≡ true → FormFits (opened t) k f
    form_fits k Form.True e = tt
    form_fits k Form.False e = tt
    form_fits k (Form.Atom p ts) e = tt
    form_fits k (Form.Equal s u) e = tt
    form_fits k (Form.Not f) e = form_fits k f e
    form_fits k (Form.And f g) e = let p = and_parts (form_keeps t k f) (form_keeps t k g) e in (form_fits k f p.0, form_fits k g p.1)
    form_fits k (Form.Or f g) e = let p = and_parts (form_keeps t k f) (form_keeps t k g) e in (form_fits k f p.0, form_fits k g p.1)
    form_fits k (Form.Imp f g) e = let p = and_parts (form_keeps t k f) (form_keeps t k g) e in (form_fits k f p.0, form_fits k g p.1)
    form_fits k (Form.Iff f g) e = let p = and_parts (form_keeps t k f) (form_keeps t k g) e in (form_fits k f p.0, form_fits k g p.1)
    form_fits k (Form.All s f) e = form_fits (k + 1) f e
    form_fits k (Form.Ex s f) e = form_fits (k + 1) f e
    form_fits k (Form.After a f) e =
        let p = and_parts (keeps t k a f) (prog_keeps t k a && form_keeps t k f) e in
        let q = and_parts (prog_keeps t k a) (form_keeps t k f) p.1 in
        (prog_fits k a (kept t k a f p.0) q.0, form_fits k f q.1)
    form_fits k (Form.Can a f) e =
        let p = and_parts (keeps t k a f) (prog_keeps t k a && form_keeps t k f) e in
        let q = and_parts (prog_keeps t k a) (form_keeps t k f) p.1 in
        (prog_fits k a (kept t k a f p.0) q.0, form_fits k f q.1)

    prog_fits : (k : ℕ) (a : Prog) → modifies (Bound 0) k a ≡ false → prog_keeps t k a ≡ true → ProgFits (opened t) k a
    prog_fits k Prog.Skip m e = tt
    prog_fits k Prog.Abort m e = tt
    prog_fits k (Prog.Assign x u) m e = not_here_fits t k x m
    prog_fits k (Prog.Seq a b) m e =
        let n = or_parts (modifies (Bound 0) k a) (modifies (Bound 0) k b) m in
        let p = and_parts (prog_keeps t k a) (prog_keeps t k b) e in
        (prog_fits k a n.0 p.0, prog_fits k b n.1 p.1)
    prog_fits k (Prog.If g a b) m e =
        let n = or_parts (modifies (Bound 0) k a) (modifies (Bound 0) k b) m in
        let p = and_parts (form_keeps t k g) (prog_keeps t k a && prog_keeps t k b) e in
        let q = and_parts (prog_keeps t k a) (prog_keeps t k b) p.1 in
        (form_fits k g p.0, prog_fits k a n.0 q.0, prog_fits k b n.1 q.1)
    prog_fits k (Prog.While g a) m e =
        let p = and_parts (form_keeps t k g) (prog_keeps t k a) e in
        (form_fits k g p.0, prog_fits k a m p.1)
    prog_fits k (Prog.Local s u a) m e = prog_fits (k + 1) a m e
    prog_fits k (Prog.Call p us rs) m e = refs_fit k rs m
    prog_fits k (Prog.Choice a b) m e =
        let n = or_parts (modifies (Bound 0) k a) (modifies (Bound 0) k b) m in
        let p = and_parts (prog_keeps t k a) (prog_keeps t k b) e in
        (prog_fits k a n.0 p.0, prog_fits k b n.1 p.1)

new_fits : (t : Term) (f g : Form) → is_new g t ≡ true → FormFits (opened t) 0 f
new_fits (Term.Place r) f g e = form_refs (λ k q. IsPlace (opened (Term.Place r) k q)) (variable_fits r) 0 f
new_fits (Term.App h ts) f g e = cc

pub admissible_fits : (t : Term) (f : Form) → is_admissible f t ≡ true → FormFits (opened t) 0 f
unfolding is_admissible
admissible_fits t f e = elim (or_cases (form_keeps t 0 f) (is_new f t) e) [ inl h ↦ form_fits t 0 f h | inr h ↦ new_fits t f f h ]

pub prog_admissible_fits : (t : Term) (a : Prog) → prog_is_admissible a t ≡ true → ProgFits (opened t) 0 a
prog_admissible_fits t a e = (admissible_fits t (Form.After a Form.True) e).0
