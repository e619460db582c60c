-- What the parts of a tree of the code tell of it: whether it modifies a variable of a term, and whether a box or diamond may stand.
use Rattle.std.proofs.Common.{◌≡◌, ℕ, ◌+◌, refl, sym, ap, ◌∙◌, subst, inl, inr}
use Rattle.std.specs.Prelude.{Bool, not, ◌&&◌, ◌||◌, ◌⊎◌}
use Rattle.kv_trees.specs.Bridge.{plain_form, plain_prog, plain_form_step, plain_prog_step}
use Rattle.kv_trees.specs.Trees as P
use Rattle.kv_trees.specs.declared.trees.Form.{Form, fold-roll-Form}
use Rattle.kv_trees.specs.declared.trees.Form as F
use Rattle.kv_trees.specs.declared.trees.Form.TheOpen as L
use Rattle.kv_trees.specs.declared.trees.Prog.{Prog, fold-roll-Prog}
use Rattle.kv_trees.specs.declared.trees.Prog as G
use Rattle.kv_trees.specs.declared.trees.Ref.{Ref}
use Rattle.kv_trees.specs.declared.trees.Ref.TheVariants.{Bound}
use Rattle.kv_trees.specs.Variables.{term_any, terms_any, form_has, prog_has, modifies}
use Rattle.kv_subst.specs.Opening.{keeps, form_keeps, prog_keeps}
use Rattle.kv_subst.proofs.FreeIn.{or_joined}

-- ---- a variable of the term passes one of two tests

module _ (g h : Ref → Bool) where
  mutual
    term_either : (t : P.Term) → term_any (λ r. g r || h r) t ≡ (term_any g t || term_any h t)
    term_either (P.Term.Place r) = refl
    term_either (P.Term.App f ts) = terms_either ts

    terms_either : (ts : P.Terms) → terms_any (λ r. g r || h r) ts ≡ (terms_any g ts || terms_any h ts)
    terms_either P.Terms.none = refl
    terms_either (P.Terms.more t ts) = (λ i. term_either t i || terms_either ts i) ∙ or_joined (term_any g t) (term_any h t) (terms_any g ts) (terms_any h ts)

-- the alternatives of a pattern
of_two : {A : Type 0} (Q : A → Type 0) (x a b : A) → (x ≡ a) ⊎ (x ≡ b) → Q a → Q b → Q x
of_two Q x a b either qa qb = elim either [
  | inl e ↦ subst Q (sym e) qa
  | inr e ↦ subst Q (sym e) qb
]

-- ---- programs

module _ (t : P.Term) (k : ℕ) where
  abbrev takes : P.Prog → Bool
  takes a = term_any (λ r. modifies r k a) t

  takes_either : (a b : P.Prog) → term_any (λ r. modifies r k a || modifies r k b) t ≡ (takes a || takes b)
  takes_either a b = term_either (λ r. modifies r k a) (λ r. modifies r k b) t

  pub of_either : (prog a b : Prog) → (prog ≡ G.Seq a b) ⊎ (prog ≡ G.Choice a b) → (takes (plain_prog a) || takes (plain_prog b)) ≡ takes (plain_prog prog)
  unfolding G.roll-Prog denote.Hole.Carrier.roll
  of_either prog a b is =
      of_two (λ x. (takes (plain_prog a) || takes (plain_prog b)) ≡ takes (plain_prog x)) prog _ _ is
      (sym (ap takes (fold-roll-Prog P.Form P.Prog plain_form_step plain_prog_step (L.Seq a b)) ∙ takes_either (plain_prog a) (plain_prog b)))
      (sym (ap takes (fold-roll-Prog P.Form P.Prog plain_form_step plain_prog_step (L.Choice a b)) ∙ takes_either (plain_prog a) (plain_prog b)))

  pub of_branches : (prog : Prog) (e : Form) (a b : Prog) → prog ≡ G.If e a b → (takes (plain_prog a) || takes (plain_prog b)) ≡ takes (plain_prog prog)
  unfolding G.roll-Prog denote.Hole.Carrier.roll
  of_branches prog e a b is =
      sym (ap (λ x. takes (plain_prog x)) is ∙ ap takes (fold-roll-Prog P.Form P.Prog plain_form_step plain_prog_step (L.If e a b)) ∙ takes_either (plain_prog a) (plain_prog b))

  pub of_loop : (prog : Prog) (e : Form) (a : Prog) → prog ≡ G.While e a → takes (plain_prog a) ≡ takes (plain_prog prog)
  unfolding G.roll-Prog denote.Hole.Carrier.roll
  of_loop prog e a is = sym (ap (λ x. takes (plain_prog x)) is ∙ ap takes (fold-roll-Prog P.Form P.Prog plain_form_step plain_prog_step (L.While e a)))

-- ---- boxes and diamonds

module _ (t : P.Term) (k : ℕ) where
  -- as the box of a program with a formula behind it is judged by its parts
  abbrev judged : (modifies_bound has_bound modifies_term stands behind_has behind_stands : Bool) → Bool
  judged modifies_bound has_bound modifies_term stands behind_has behind_stands =
      (not modifies_bound && not ((has_bound || behind_has) && modifies_term)) && (stands && behind_stands)

  box_stands : (a : P.Prog) (f : P.Form) →
      judged (modifies (Bound 0) k a) (prog_has (Bound 0) k a) (term_any (λ r. modifies r (k + 1) a) t) (prog_keeps t k a) (form_has (Bound 0) k f) (form_keeps t k f)
      ≡ (keeps t k a f && (prog_keeps t k a && form_keeps t k f))
  unfolding keeps
  box_stands a f = refl

  pub of_box : (form : Form) (a : Prog) (f : Form) → (form ≡ F.After a f) ⊎ (form ≡ F.Can a f) →
      judged (modifies (Bound 0) k (plain_prog a)) (prog_has (Bound 0) k (plain_prog a)) (term_any (λ r. modifies r (k + 1) (plain_prog a)) t) (prog_keeps t k (plain_prog a))
      (form_has (Bound 0) k (plain_form f)) (form_keeps t k (plain_form f)) ≡ form_keeps t k (plain_form form)
  unfolding F.roll-Form denote.Hole.Carrier.roll
  of_box form a f is =
      box_stands (plain_prog a) (plain_form f)
      ∙ of_two (λ x. (keeps t k (plain_prog a) (plain_form f) && (prog_keeps t k (plain_prog a) && form_keeps t k (plain_form f))) ≡ form_keeps t k (plain_form x)) form _ _ is
      (sym (ap (form_keeps t k) (fold-roll-Form P.Form P.Prog plain_form_step plain_prog_step (L.After a f))))
      (sym (ap (form_keeps t k) (fold-roll-Form P.Form P.Prog plain_form_step plain_prog_step (L.Can a f))))
