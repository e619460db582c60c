-- A replacement is an opening: of one body, the formula is the opening at t and the one with u for t is that at u.
use Rattle.std.proofs.Common.{◌≡◌, ℕ, ap, ◌∙◌}
use Rattle.std.specs.Prelude.{true, false, ◌||◌, Some, None}
use Rattle.std.proofs.lemmas.Bool.{cond-true}
use Rattle.kv_trees.specs.Trees.{Term, Form, Prog}
use Rattle.kv_trees.specs.Variables.{term_any, modifies}
use Rattle.kv_subst.specs.Changing.{changed_form}
use Rattle.kv_subst.specs.Opening.{opened, form_keeps, is_new, is_admissible, open_form}
use Rattle.kv_prop.specs.Replacing.{replaced_form, touches}
use Rattle.kv_script.proofs.Marks.{marked_form, at_new, at_old, marked_kept, touches_old, touches_new}
use Rattle.kv_script.proofs.Raised.{here, back, form_back, prog_back, unmodified, not_in_prog, not_in_form, modified, prog_kept, form_kept}

-- where each box and diamond may stand the opening is admissible
kept_opens : (f : Form) (t : Term) (g : Form) → form_keeps t 0 f ≡ true → changed_form (opened t) 0 f ≡ g → open_form f t ≡ Some g
unfolding is_admissible
kept_opens f t g e same = cond-true (is_admissible f t) (Some (changed_form (opened t) 0 f)) None (ap (λ b. b || is_new f t) e) ∙ ap Some same

module _ (t u : Term) (f : Form) where
  abbrev pub body_of : Form
  body_of = marked_form t u 0 f

  kept_at : (w : Term) → ((k : ℕ) (a : Prog) → touches t u k a ≡ false → term_any (λ r. modifies r k a) w ≡ false) → form_keeps w 0 body_of ≡ true
  kept_at w one_of = marked_kept unmodified not_in_prog not_in_form modified prog_kept form_kept t u w one_of 0 f

  pub body_old : open_form body_of t ≡ Some f
  body_old = kept_opens body_of t f (kept_at t (touches_old t u)) (at_old here back form_back prog_back t u 0 f)

  pub body_new : open_form body_of u ≡ Some (replaced_form t u 0 f)
  body_new = kept_opens body_of u (replaced_form t u 0 f) (kept_at u (touches_new t u)) (at_new here back form_back prog_back t u 0 f)
