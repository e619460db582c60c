-- The variables of trees: whether one stands in a tree, and whether a program modifies it. A variable is a Ref: a free one,
-- or the Bound number of a binder around the tree. Under k binders of the tree a number is called k more.
use Rattle.std.specs.Prelude.{ℕ, ◌+◌, max, Bool, false, ◌||◌, List}
use Rattle.std.specs.List.{list_any}
use Rattle.kv_names.specs.Names.{Name}
use Rattle.kv_trees.specs.Same.{ref_eq}
use Rattle.kv_trees.specs.Trees.{Term, Terms, Form, Prog}
use Rattle.kv_trees.specs.declared.trees.Ref.{Ref}
use Rattle.kv_trees.specs.declared.trees.Ref.TheVariants.{Free, Bound}

-- the free variable of that name and sort, as a term
abbrev pub variable : (name sort : Name) → Term
variable name sort = Term.Place (Free (record { name = name; sort = sort }))

-- how the variable is called under k more binders
abbrev pub raised_ref : ℕ → Ref → Ref
raised_ref k (Free x) = Free x
raised_ref k (Bound n) = Bound (n + k)

abbrev mutual
  -- some variable of the term passes the test
  pub term_any : (Ref → Bool) → Term → Bool
  term_any test (Term.Place r) = test r
  term_any test (Term.App f ts) = terms_any test ts

  pub terms_any : (Ref → Bool) → Terms → Bool
  terms_any test Terms.none = false
  terms_any test (Terms.more t ts) = term_any test t || terms_any test ts

-- the variable stands in the term
abbrev pub term_has : Ref → Term → Bool
term_has r t = term_any (λ q. ref_eq q r) t

abbrev pub terms_have : Ref → Terms → Bool
terms_have r ts = terms_any (λ q. ref_eq q r) ts

abbrev pub refs_have : Ref → List Ref → Bool
refs_have r rs = list_any (λ q. ref_eq q r) rs

abbrev mutual
  -- the variable, which is one outside k binders, is free in the formula, which stands under them
  pub form_has : Ref → ℕ → Form → Bool
  form_has r k Form.True = false
  form_has r k Form.False = false
  form_has r k (Form.Atom p ts) = terms_have (raised_ref k r) ts
  form_has r k (Form.Equal s t) = term_has (raised_ref k r) s || term_has (raised_ref k r) t
  form_has r k (Form.Not f) = form_has r k f
  form_has r k (Form.And f g) = form_has r k f || form_has r k g
  form_has r k (Form.Or f g) = form_has r k f || form_has r k g
  form_has r k (Form.Imp f g) = form_has r k f || form_has r k g
  form_has r k (Form.Iff f g) = form_has r k f || form_has r k g
  form_has r k (Form.All s f) = form_has r (k + 1) f
  form_has r k (Form.Ex s f) = form_has r (k + 1) f
  form_has r k (Form.After a f) = prog_has r k a || form_has r k f
  form_has r k (Form.Can a f) = prog_has r k a || form_has r k f

  -- assigned variables and references count
  pub prog_has : Ref → ℕ → Prog → Bool
  prog_has r k Prog.Skip = false
  prog_has r k Prog.Abort = false
  prog_has r k (Prog.Assign x t) = ref_eq x (raised_ref k r) || term_has (raised_ref k r) t
  prog_has r k (Prog.Seq a b) = prog_has r k a || prog_has r k b
  prog_has r k (Prog.If e a b) = form_has r k e || (prog_has r k a || prog_has r k b)
  prog_has r k (Prog.While e a) = form_has r k e || prog_has r k a
  prog_has r k (Prog.Local s t a) = term_has (raised_ref k r) t || prog_has r (k + 1) a
  prog_has r k (Prog.Call p ts rs) = terms_have (raised_ref k r) ts || refs_have (raised_ref k r) rs
  prog_has r k (Prog.Choice a b) = prog_has r k a || prog_has r k b

-- the variable, which is one outside k binders, is one that the program assigns to or gives for a reference
abbrev pub modifies : Ref → ℕ → Prog → Bool
modifies r k Prog.Skip = false
modifies r k Prog.Abort = false
modifies r k (Prog.Assign x t) = ref_eq x (raised_ref k r)
modifies r k (Prog.Seq a b) = modifies r k a || modifies r k b
modifies r k (Prog.If e a b) = modifies r k a || modifies r k b
modifies r k (Prog.While e a) = modifies r k a
modifies r k (Prog.Local s t a) = modifies r (k + 1) a
modifies r k (Prog.Call p ts rs) = refs_have (raised_ref k r) rs
modifies r k (Prog.Choice a b) = modifies r k a || modifies r k b

abbrev mutual
  -- how many binders stand in one another
  pub form_binders : Form → ℕ
  form_binders Form.True = 0
  form_binders Form.False = 0
  form_binders (Form.Atom p ts) = 0
  form_binders (Form.Equal s t) = 0
  form_binders (Form.Not f) = form_binders f
  form_binders (Form.And f g) = max (form_binders f) (form_binders g)
  form_binders (Form.Or f g) = max (form_binders f) (form_binders g)
  form_binders (Form.Imp f g) = max (form_binders f) (form_binders g)
  form_binders (Form.Iff f g) = max (form_binders f) (form_binders g)
  form_binders (Form.All s f) = 1 + form_binders f
  form_binders (Form.Ex s f) = 1 + form_binders f
  form_binders (Form.After a f) = max (prog_binders a) (form_binders f)
  form_binders (Form.Can a f) = max (prog_binders a) (form_binders f)

  pub prog_binders : Prog → ℕ
  prog_binders Prog.Skip = 0
  prog_binders Prog.Abort = 0
  prog_binders (Prog.Assign x t) = 0
  prog_binders (Prog.Seq a b) = max (prog_binders a) (prog_binders b)
  prog_binders (Prog.If e a b) = max (form_binders e) (max (prog_binders a) (prog_binders b))
  prog_binders (Prog.While e a) = max (form_binders e) (prog_binders a)
  prog_binders (Prog.Local s t a) = 1 + prog_binders a
  prog_binders (Prog.Call p ts rs) = 0
  prog_binders (Prog.Choice a b) = max (prog_binders a) (prog_binders b)
