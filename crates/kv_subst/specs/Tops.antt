-- The largest number that a change of a tree meets on its way.
use Rattle.std.specs.Prelude.{ℕ, ◌+◌, max, List, [], ◌∷◌}
use Rattle.kv_trees.specs.Trees.{Term, Terms, Form, Prog}
use Rattle.kv_trees.specs.declared.trees.Ref.{Ref}

abbrev mutual
  -- the largest number that `most` tells of a variable of the term
  pub term_top : (Ref → ℕ) → Term → ℕ
  term_top most (Term.Place r) = most r
  term_top most (Term.App f ts) = terms_top most ts

  pub terms_top : (Ref → ℕ) → Terms → ℕ
  terms_top most Terms.none = 0
  terms_top most (Terms.more t ts) = max (term_top most t) (terms_top most ts)

abbrev pub refs_top : (Ref → ℕ) → List Ref → ℕ
refs_top most [] = 0
refs_top most (r ∷ rs) = max (most r) (refs_top most rs)

abbrev mutual
  -- the largest number that `most` tells of a variable, by the binders passed, and the largest count of binders
  pub form_top : (ℕ → Ref → ℕ) → ℕ → Form → ℕ
  form_top most k Form.True = 0
  form_top most k Form.False = 0
  form_top most k (Form.Atom p ts) = terms_top (most k) ts
  form_top most k (Form.Equal s t) = max (term_top (most k) s) (term_top (most k) t)
  form_top most k (Form.Not f) = form_top most k f
  form_top most k (Form.And f g) = max (form_top most k f) (form_top most k g)
  form_top most k (Form.Or f g) = max (form_top most k f) (form_top most k g)
  form_top most k (Form.Imp f g) = max (form_top most k f) (form_top most k g)
  form_top most k (Form.Iff f g) = max (form_top most k f) (form_top most k g)
  form_top most k (Form.All s f) = max (k + 1) (form_top most (k + 1) f)
  form_top most k (Form.Ex s f) = max (k + 1) (form_top most (k + 1) f)
  form_top most k (Form.After a f) = max (prog_top most k a) (form_top most k f)
  form_top most k (Form.Can a f) = max (prog_top most k a) (form_top most k f)

  pub prog_top : (ℕ → Ref → ℕ) → ℕ → Prog → ℕ
  prog_top most k Prog.Skip = 0
  prog_top most k Prog.Abort = 0
  prog_top most k (Prog.Assign x t) = max (most k x) (term_top (most k) t)
  prog_top most k (Prog.Seq a b) = max (prog_top most k a) (prog_top most k b)
  prog_top most k (Prog.If e a b) = max (form_top most k e) (max (prog_top most k a) (prog_top most k b))
  prog_top most k (Prog.While e a) = max (form_top most k e) (prog_top most k a)
  prog_top most k (Prog.Local s t a) = max (term_top (most k) t) (max (k + 1) (prog_top most (k + 1) a))
  prog_top most k (Prog.Call p ts rs) = max (terms_top (most k) ts) (refs_top (most k) rs)
  prog_top most k (Prog.Choice a b) = max (prog_top most k a) (prog_top most k b)
