-- The body that a replacement stands for: the formula under a binder of its own, whose variable stands at each place that is
-- replaced. It is a body of the schema of `subst`: at t it is the formula, at u the one with u for t, and both are admissible.
use Rattle.std.proofs.Common.{ℕ, ◌+◌, Bool, true, false, ◌&&◌, ◌||◌, not, if◌then◌else◌, ◌≡◌, refl, sym, ap, ap₂, ◌∙◌}
use Rattle.kv_trees.specs.Same.{term_eq}
use Rattle.kv_trees.specs.Trees.{Term, Terms, Form, Prog}
use Rattle.kv_trees.specs.Variables.{term_any, terms_any, form_has, prog_has, modifies}
use Rattle.kv_trees.specs.declared.trees.Ref.{Ref}
use Rattle.kv_trees.specs.declared.trees.Ref.TheVariants.{Bound}
use Rattle.kv_trees.proofs.Same.{term_is}
use Rattle.kv_subst.specs.Changing.{changed_term, changed_terms, changed_form, changed_prog}
use Rattle.kv_subst.specs.Opening.{raised_var, raised, raised_term, opened, keeps, form_keeps, prog_keeps}
use Rattle.kv_prop.specs.Replacing.{replaced_term, replaced_terms, replaced_form, touches}

abbrev mutual
  -- t is as it is called under the k binders; the new binder stands outside those
  pub marked_term : Term → ℕ → Term → Term
  marked_term t k (Term.Place r) = if term_eq (Term.Place r) t then Term.Place (Bound k) else Term.Place (raised_var 1 k r)
  marked_term t k (Term.App f ts) = if term_eq (Term.App f ts) t then Term.Place (Bound k) else Term.App f (marked_terms t k ts)

  pub marked_terms : Term → ℕ → Terms → Terms
  marked_terms t k Terms.none = Terms.none
  marked_terms t k (Terms.more v ts) = Terms.more (marked_term t k v) (marked_terms t k ts)

abbrev pub marked_form : Term → Term → ℕ → Form → Form
marked_form t u k Form.True = Form.True
marked_form t u k Form.False = Form.False
marked_form t u k (Form.Atom p ts) = Form.Atom p (marked_terms (raised_term k t) k ts)
marked_form t u k (Form.Equal v w) = Form.Equal (marked_term (raised_term k t) k v) (marked_term (raised_term k t) k w)
marked_form t u k (Form.Not f) = Form.Not (marked_form t u k f)
marked_form t u k (Form.And f g) = Form.And (marked_form t u k f) (marked_form t u k g)
marked_form t u k (Form.Or f g) = Form.Or (marked_form t u k f) (marked_form t u k g)
marked_form t u k (Form.Imp f g) = Form.Imp (marked_form t u k f) (marked_form t u k g)
marked_form t u k (Form.Iff f g) = Form.Iff (marked_form t u k f) (marked_form t u k g)
marked_form t u k (Form.All s f) = Form.All s (marked_form t u (k + 1) f)
marked_form t u k (Form.Ex s f) = Form.Ex s (marked_form t u (k + 1) f)
marked_form t u k (Form.After a f) = Form.After (changed_prog (raised 1) k a) (if touches t u k a then changed_form (raised 1) k f else marked_form t u k f)
marked_form t u k (Form.Can a f) = Form.Can (changed_prog (raised 1) k a) (if touches t u k a then changed_form (raised 1) k f else marked_form t u k f)

-- ---- t for t changes nothing

replaced_where : (t v w : Term) (b : Bool) → term_eq v t ≡ b → w ≡ v → (if b then t else w) ≡ v
replaced_where t v w true e h = sym (term_is v t e)
replaced_where t v w false e h = h

mutual
  same_replaced : (t v : Term) → replaced_term t t v ≡ v
  same_replaced t (Term.Place r) = replaced_where t (Term.Place r) (Term.Place r) (term_eq (Term.Place r) t) refl refl
  same_replaced t (Term.App f ts) = replaced_where t (Term.App f ts) (Term.App f (replaced_terms t t ts)) (term_eq (Term.App f ts) t) refl (ap (Term.App f) (all_replaced t ts))

  all_replaced : (t : Term) (ts : Terms) → replaced_terms t t ts ≡ ts
  all_replaced t Terms.none = refl
  all_replaced t (Terms.more v ts) = ap₂ Terms.more (same_replaced t v) (all_replaced t ts)

-- ---- what the body is at a term. To be taken from the laws of kv_subst: opening gives back what was raised by one

module _ (here : (w : Term) (k : ℕ) → opened w k (Bound k) ≡ raised_term k w)
    (back : (w : Term) (k : ℕ) (r : Ref) → opened w k (raised_var 1 k r) ≡ Term.Place r)
    (form_back : (w : Term) (k : ℕ) (f : Form) → changed_form (opened w) k (changed_form (raised 1) k f) ≡ f)
    (prog_back : (w : Term) (k : ℕ) (a : Prog) → changed_prog (opened w) k (changed_prog (raised 1) k a) ≡ a) where
  -- at a place that is marked, or isn't
  place_where : (w old new : Term) (k : ℕ) (b : Bool) → changed_term (opened w k) old ≡ new
      → changed_term (opened w k) (if b then Term.Place (Bound k) else old) ≡ (if b then raised_term k w else new)
  place_where w old new k true h = here w k
  place_where w old new k false h = h

  mutual
    -- for any t, as it is called there
    term_at : (t w : Term) (k : ℕ) (v : Term) → changed_term (opened w k) (marked_term t k v) ≡ replaced_term t (raised_term k w) v
    term_at t w k (Term.Place r) = place_where w (Term.Place (raised_var 1 k r)) (Term.Place r) k (term_eq (Term.Place r) t) (back w k r)
    term_at t w k (Term.App f ts) =
        place_where w (Term.App f (marked_terms t k ts)) (Term.App f (replaced_terms t (raised_term k w) ts)) k (term_eq (Term.App f ts) t) (ap (Term.App f) (terms_at t w k ts))

    terms_at : (t w : Term) (k : ℕ) (ts : Terms) → changed_terms (opened w k) (marked_terms t k ts) ≡ replaced_terms t (raised_term k w) ts
    terms_at t w k Terms.none = refl
    terms_at t w k (Terms.more v ts) = ap₂ Terms.more (term_at t w k v) (terms_at t w k ts)

  behind_where : (w : Term) (k : ℕ) (f marked new : Form) (b : Bool) → changed_form (opened w) k marked ≡ new
      → changed_form (opened w) k (if b then changed_form (raised 1) k f else marked) ≡ (if b then f else new)
  behind_where w k f marked new true h = form_back w k f
  behind_where w k f marked new false h = h

  same_if : (b : Bool) (f : Form) → (if b then f else f) ≡ f
  same_if true f = refl
  same_if false f = refl

  module _ (t u : Term) where
    -- at u, u stands for t
    pub at_new : (k : ℕ) (f : Form) → changed_form (opened u) k (marked_form t u k f) ≡ replaced_form t u k f
    at_new k Form.True = refl
    at_new k Form.False = refl
    at_new k (Form.Atom p ts) = ap (Form.Atom p) (terms_at (raised_term k t) u k ts)
    at_new k (Form.Equal v w) = ap₂ Form.Equal (term_at (raised_term k t) u k v) (term_at (raised_term k t) u k w)
    at_new k (Form.Not f) = ap Form.Not (at_new k f)
    at_new k (Form.And f g) = ap₂ Form.And (at_new k f) (at_new k g)
    at_new k (Form.Or f g) = ap₂ Form.Or (at_new k f) (at_new k g)
    at_new k (Form.Imp f g) = ap₂ Form.Imp (at_new k f) (at_new k g)
    at_new k (Form.Iff f g) = ap₂ Form.Iff (at_new k f) (at_new k g)
    at_new k (Form.All s f) = ap (Form.All s) (at_new (k + 1) f)
    at_new k (Form.Ex s f) = ap (Form.Ex s) (at_new (k + 1) f)
    at_new k (Form.After a f) = ap₂ Form.After (prog_back u k a) (behind_where u k f (marked_form t u k f) (replaced_form t u k f) (touches t u k a) (at_new k f))
    at_new k (Form.Can a f) = ap₂ Form.Can (prog_back u k a) (behind_where u k f (marked_form t u k f) (replaced_form t u k f) (touches t u k a) (at_new k f))

    -- at t, it is the formula
    pub at_old : (k : ℕ) (f : Form) → changed_form (opened t) k (marked_form t u k f) ≡ f
    at_old k Form.True = refl
    at_old k Form.False = refl
    at_old k (Form.Atom p ts) = ap (Form.Atom p) (terms_at (raised_term k t) t k ts ∙ all_replaced (raised_term k t) ts)
    at_old k (Form.Equal v w) = ap₂ Form.Equal (term_at (raised_term k t) t k v ∙ same_replaced (raised_term k t) v) (term_at (raised_term k t) t k w ∙ same_replaced (raised_term k t) w)
    at_old k (Form.Not f) = ap Form.Not (at_old k f)
    at_old k (Form.And f g) = ap₂ Form.And (at_old k f) (at_old k g)
    at_old k (Form.Or f g) = ap₂ Form.Or (at_old k f) (at_old k g)
    at_old k (Form.Imp f g) = ap₂ Form.Imp (at_old k f) (at_old k g)
    at_old k (Form.Iff f g) = ap₂ Form.Iff (at_old k f) (at_old k g)
    at_old k (Form.All s f) = ap (Form.All s) (at_old (k + 1) f)
    at_old k (Form.Ex s f) = ap (Form.Ex s) (at_old (k + 1) f)
    at_old k (Form.After a f) = ap₂ Form.After (prog_back t k a) (behind_where t k f (marked_form t u k f) f (touches t u k a) (at_old k f) ∙ same_if (touches t u k a) f)
    at_old k (Form.Can a f) = ap₂ Form.Can (prog_back t k a) (behind_where t k f (marked_form t u k f) f (touches t u k a) (at_old k f) ∙ same_if (touches t u k a) f)

-- ---- the body is admissible. To be taken from kv_subst: what was raised by one doesn't have the binder's variable, and modifies
-- what it modified before

or_false : (a b : Bool) → (a || b) ≡ false → (a ≡ false) × (b ≡ false)
or_false true b e = cc
or_false false b e = (refl, e)

pub both_true : (a b : Bool) → a ≡ true → b ≡ true → (a && b) ≡ true
both_true true b e f = f
both_true false b e f = e

-- keeps, by its parts
pub kept_by : (m p q n : Bool) → m ≡ false → p ≡ false → (q && n) ≡ false → (not m && not ((p || q) && n)) ≡ true
kept_by false false q n e f g = ap not g
kept_by true p q n e f g = cc
kept_by false true q n e f g = cc

pub none_and : (q n : Bool) → q ≡ false → (q && n) ≡ false
none_and false n e = refl
none_and true n e = cc

and_none : (q n : Bool) → n ≡ false → (q && n) ≡ false
and_none false n e = refl
and_none true n e = e

mutual
  any_same : (f g : Ref → Bool) → ((r : Ref) → f r ≡ g r) → (t : Term) → term_any f t ≡ term_any g t
  any_same f g h (Term.Place r) = h r
  any_same f g h (Term.App p ts) = any_same_all f g h ts

  any_same_all : (f g : Ref → Bool) → ((r : Ref) → f r ≡ g r) → (ts : Terms) → terms_any f ts ≡ terms_any g ts
  any_same_all f g h Terms.none = refl
  any_same_all f g h (Terms.more t ts) = ap₂ (λ a b. a || b) (any_same f g h t) (any_same_all f g h ts)

module _ (unmodified : (k : ℕ) (a : Prog) → modifies (Bound 0) k (changed_prog (raised 1) k a) ≡ false)
    (not_in_prog : (k : ℕ) (a : Prog) → prog_has (Bound 0) k (changed_prog (raised 1) k a) ≡ false)
    (not_in_form : (k : ℕ) (f : Form) → form_has (Bound 0) k (changed_form (raised 1) k f) ≡ false)
    (modified : (k : ℕ) (a : Prog) (r : Ref) → modifies r (k + 1) (changed_prog (raised 1) k a) ≡ modifies r k a)
    (prog_kept : (w : Term) (k : ℕ) (a : Prog) → prog_keeps w k (changed_prog (raised 1) k a) ≡ true)
    (form_kept : (w : Term) (k : ℕ) (f : Form) → form_keeps w k (changed_form (raised 1) k f) ≡ true)
    (t u w : Term) (one_of : (k : ℕ) (a : Prog) → touches t u k a ≡ false → term_any (λ r. modifies r k a) w ≡ false) where
  module _ (k : ℕ) (a : Prog) (f marked : Form) (kept : form_keeps w k marked ≡ true) where
    abbrev behind : Bool → Form
    behind b = if b then changed_form (raised 1) k f else marked

    behind_kept : (b : Bool) → form_keeps w k (behind b) ≡ true
    behind_kept true = form_kept w k f
    behind_kept false = kept

    apart : (b : Bool) → touches t u k a ≡ b → (form_has (Bound 0) k (behind b) && term_any (λ r. modifies r (k + 1) (changed_prog (raised 1) k a)) w) ≡ false
    apart true e = none_and (form_has (Bound 0) k (changed_form (raised 1) k f)) _ (not_in_form k f)
    apart false e = and_none (form_has (Bound 0) k marked) _ (any_same _ _ (modified k a) w ∙ one_of k a e)

    stands : keeps w k (changed_prog (raised 1) k a) (behind (touches t u k a)) ≡ true
    unfolding keeps
    stands =
        kept_by (modifies (Bound 0) k (changed_prog (raised 1) k a)) (prog_has (Bound 0) k (changed_prog (raised 1) k a))
        (form_has (Bound 0) k (behind (touches t u k a))) (term_any (λ r. modifies r (k + 1) (changed_prog (raised 1) k a)) w)
        (unmodified k a) (not_in_prog k a) (apart (touches t u k a) refl)

    box_kept : (keeps w k (changed_prog (raised 1) k a) (behind (touches t u k a)) && (prog_keeps w k (changed_prog (raised 1) k a) && form_keeps w k (behind (touches t u k a)))) ≡ true
    box_kept = both_true _ _ stands (both_true _ _ (prog_kept w k a) (behind_kept (touches t u k a)))

  pub marked_kept : (k : ℕ) (f : Form) → form_keeps w k (marked_form t u k f) ≡ true
  marked_kept k Form.True = refl
  marked_kept k Form.False = refl
  marked_kept k (Form.Atom p ts) = refl
  marked_kept k (Form.Equal v v') = refl
  marked_kept k (Form.Not f) = marked_kept k f
  marked_kept k (Form.And f g) = both_true _ _ (marked_kept k f) (marked_kept k g)
  marked_kept k (Form.Or f g) = both_true _ _ (marked_kept k f) (marked_kept k g)
  marked_kept k (Form.Imp f g) = both_true _ _ (marked_kept k f) (marked_kept k g)
  marked_kept k (Form.Iff f g) = both_true _ _ (marked_kept k f) (marked_kept k g)
  marked_kept k (Form.All s f) = marked_kept (k + 1) f
  marked_kept k (Form.Ex s f) = marked_kept (k + 1) f
  marked_kept k (Form.After a f) = box_kept k a f (marked_form t u k f) (marked_kept k f)
  marked_kept k (Form.Can a f) = box_kept k a f (marked_form t u k f) (marked_kept k f)

-- where a program touches neither, it modifies no variable of either
pub touches_old : (t u : Term) (k : ℕ) (a : Prog) → touches t u k a ≡ false → term_any (λ r. modifies r k a) t ≡ false
touches_old t u k a e = (or_false (term_any (λ r. modifies r k a) t) (term_any (λ r. modifies r k a) u) e).0

pub touches_new : (t u : Term) (k : ℕ) (a : Prog) → touches t u k a ≡ false → term_any (λ r. modifies r k a) u ≡ false
touches_new t u k a e = (or_false (term_any (λ r. modifies r k a) t) (term_any (λ r. modifies r k a) u) e).1
