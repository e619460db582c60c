-- How far a change goes, in numbers that are easier to have.
use Rattle.std.proofs.Common.{ℕ, ◌+◌, ◌≤◌, max, List, [], ◌∷◌, arith}
use Rattle.kv_trees.specs.Trees.{Term, Terms, Form, Prog}
use Rattle.kv_trees.specs.declared.trees.Ref.{Ref}
use Rattle.kv_trees.specs.Variables.{form_binders, prog_binders}
use Rattle.kv_subst.specs.Sizes.{ref_reach, refs_reach, term_reach, terms_reach, form_reach, prog_reach}
use Rattle.kv_subst.specs.Tops.{term_top, terms_top, refs_top, form_top, prog_top}

-- numbers that grow with the binders passed
module _ (most : ℕ → Ref → ℕ) (n : ℕ) (bound : (k : ℕ) (r : Ref) → most k r ≤ k + n) where
  mutual
    term_above : (k : ℕ) (t : Term) → term_top (most k) t ≤ k + n
    term_above k (Term.Place r) = bound k r
    term_above k (Term.App f ts) = terms_above k ts

    terms_above : (k : ℕ) (ts : Terms) → terms_top (most k) ts ≤ k + n
    terms_above k Terms.none = omega arith
    terms_above k (Terms.more t ts) = omega (arith, term_above k t, terms_above k ts)

  refs_above : (k : ℕ) (rs : List Ref) → refs_top (most k) rs ≤ k + n
  refs_above k [] = omega arith
  refs_above k (r ∷ rs) = omega (arith, bound k r, refs_above k rs)

  mutual
    pub form_above : (k : ℕ) (f : Form) → form_top most k f ≤ form_binders f + (k + n)
    form_above k Form.True = omega arith
    form_above k Form.False = omega arith
    form_above k (Form.Atom p ts) = omega (arith, terms_above k ts)
    form_above k (Form.Equal s t) = omega (arith, term_above k s, term_above k t)
    form_above k (Form.Not f) = form_above k f
    form_above k (Form.And f g) = omega (arith, form_above k f, form_above k g)
    form_above k (Form.Or f g) = omega (arith, form_above k f, form_above k g)
    form_above k (Form.Imp f g) = omega (arith, form_above k f, form_above k g)
    form_above k (Form.Iff f g) = omega (arith, form_above k f, form_above k g)
    form_above k (Form.All s f) = omega (arith, form_above (k + 1) f)
    form_above k (Form.Ex s f) = omega (arith, form_above (k + 1) f)
    form_above k (Form.After a f) = omega (arith, prog_above k a, form_above k f)
    form_above k (Form.Can a f) = omega (arith, prog_above k a, form_above k f)

    pub prog_above : (k : ℕ) (a : Prog) → prog_top most k a ≤ prog_binders a + (k + n)
    prog_above k Prog.Skip = omega arith
    prog_above k Prog.Abort = omega arith
    prog_above k (Prog.Assign x t) = omega (arith, bound k x, term_above k t)
    prog_above k (Prog.Seq a b) = omega (arith, prog_above k a, prog_above k b)
    prog_above k (Prog.If e a b) = omega (arith, form_above k e, prog_above k a, prog_above k b)
    prog_above k (Prog.While e a) = omega (arith, form_above k e, prog_above k a)
    prog_above k (Prog.Local s t a) = omega (arith, term_above k t, prog_above (k + 1) a)
    prog_above k (Prog.Call p ts rs) = omega (arith, terms_above k ts, refs_above k rs)
    prog_above k (Prog.Choice a b) = omega (arith, prog_above k a, prog_above k b)

-- numbers that grow with the binders passed, or as far as the tree counts binders around it
module _ (most : ℕ → Ref → ℕ) (bound : (k : ℕ) (r : Ref) → most k r ≤ max k (ref_reach r)) where
  mutual
    term_reached : (k : ℕ) (t : Term) → term_top (most k) t ≤ max k (term_reach t)
    term_reached k (Term.Place r) = bound k r
    term_reached k (Term.App f ts) = terms_reached k ts

    terms_reached : (k : ℕ) (ts : Terms) → terms_top (most k) ts ≤ max k (terms_reach ts)
    terms_reached k Terms.none = omega arith
    terms_reached k (Terms.more t ts) = omega (arith, term_reached k t, terms_reached k ts)

  refs_reached : (k : ℕ) (rs : List Ref) → refs_top (most k) rs ≤ max k (refs_reach rs)
  refs_reached k [] = omega arith
  refs_reached k (r ∷ rs) = omega (arith, bound k r, refs_reached k rs)

  mutual
    pub form_reached : (k : ℕ) (f : Form) → form_top most k f ≤ form_binders f + max k (form_reach f)
    form_reached k Form.True = omega arith
    form_reached k Form.False = omega arith
    form_reached k (Form.Atom p ts) = omega (arith, terms_reached k ts)
    form_reached k (Form.Equal s t) = omega (arith, term_reached k s, term_reached k t)
    form_reached k (Form.Not f) = form_reached k f
    form_reached k (Form.And f g) = omega (arith, form_reached k f, form_reached k g)
    form_reached k (Form.Or f g) = omega (arith, form_reached k f, form_reached k g)
    form_reached k (Form.Imp f g) = omega (arith, form_reached k f, form_reached k g)
    form_reached k (Form.Iff f g) = omega (arith, form_reached k f, form_reached k g)
    form_reached k (Form.All s f) = omega (arith, form_reached (k + 1) f)
    form_reached k (Form.Ex s f) = omega (arith, form_reached (k + 1) f)
    form_reached k (Form.After a f) = omega (arith, prog_reached k a, form_reached k f)
    form_reached k (Form.Can a f) = omega (arith, prog_reached k a, form_reached k f)

    pub prog_reached : (k : ℕ) (a : Prog) → prog_top most k a ≤ prog_binders a + max k (prog_reach a)
    prog_reached k Prog.Skip = omega arith
    prog_reached k Prog.Abort = omega arith
    prog_reached k (Prog.Assign x t) = omega (arith, bound k x, term_reached k t)
    prog_reached k (Prog.Seq a b) = omega (arith, prog_reached k a, prog_reached k b)
    prog_reached k (Prog.If e a b) = omega (arith, form_reached k e, prog_reached k a, prog_reached k b)
    prog_reached k (Prog.While e a) = omega (arith, form_reached k e, prog_reached k a)
    prog_reached k (Prog.Local s t a) = omega (arith, term_reached k t, prog_reached (k + 1) a)
    prog_reached k (Prog.Call p ts rs) = omega (arith, terms_reached k ts, refs_reached k rs)
    prog_reached k (Prog.Choice a b) = omega (arith, prog_reached k a, prog_reached k b)
