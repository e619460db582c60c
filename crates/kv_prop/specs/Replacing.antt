-- A term in place of another one.
use Rattle.std.specs.Prelude.{ℕ, ◌+◌, Bool, ◌||◌, if◌then◌else◌}
use Rattle.kv_trees.specs.Same.{term_eq}
use Rattle.kv_trees.specs.Trees.{Term, Terms, Form, Prog}
use Rattle.kv_trees.specs.Variables.{term_any, modifies}
use Rattle.kv_subst.specs.Opening.{raised_term}

abbrev mutual
  -- each place equal to t becomes u; what is put in isn't looked into
  pub replaced_term : Term → Term → Term → Term
  replaced_term t u (Term.Place r) = if term_eq (Term.Place r) t then u else Term.Place r
  replaced_term t u (Term.App f ts) = if term_eq (Term.App f ts) t then u else Term.App f (replaced_terms t u ts)

  pub replaced_terms : Term → Term → Terms → Terms
  replaced_terms t u Terms.none = Terms.none
  replaced_terms t u (Terms.more v ts) = Terms.more (replaced_term t u v) (replaced_terms t u ts)

-- the program, under k binders, modifies a variable of one of the terms, which stand outside those
abbrev pub touches : Term → Term → ℕ → Prog → Bool
touches t u k a = term_any (λ r. modifies r k a) t || term_any (λ r. modifies r k a) u

-- each place of the formula that is equal to t becomes u; the formula stands under k binders, outside which t and u stand.
-- Programs stay as they are, and so does what stands behind one that touches t or u
abbrev pub replaced_form : Term → Term → ℕ → Form → Form
replaced_form t u k Form.True = Form.True
replaced_form t u k Form.False = Form.False
replaced_form t u k (Form.Atom p ts) = Form.Atom p (replaced_terms (raised_term k t) (raised_term k u) ts)
replaced_form t u k (Form.Equal v w) = Form.Equal (replaced_term (raised_term k t) (raised_term k u) v) (replaced_term (raised_term k t) (raised_term k u) w)
replaced_form t u k (Form.Not f) = Form.Not (replaced_form t u k f)
replaced_form t u k (Form.And f g) = Form.And (replaced_form t u k f) (replaced_form t u k g)
replaced_form t u k (Form.Or f g) = Form.Or (replaced_form t u k f) (replaced_form t u k g)
replaced_form t u k (Form.Imp f g) = Form.Imp (replaced_form t u k f) (replaced_form t u k g)
replaced_form t u k (Form.Iff f g) = Form.Iff (replaced_form t u k f) (replaced_form t u k g)
replaced_form t u k (Form.All s f) = Form.All s (replaced_form t u (k + 1) f)
replaced_form t u k (Form.Ex s f) = Form.Ex s (replaced_form t u (k + 1) f)
replaced_form t u k (Form.After a f) = Form.After a (if touches t u k a then f else replaced_form t u k f)
replaced_form t u k (Form.Can a f) = Form.Can a (if touches t u k a then f else replaced_form t u k f)
