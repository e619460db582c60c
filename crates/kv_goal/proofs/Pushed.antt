-- Procedures of parts, added one after another.
use Rattle.std.proofs.Common.{◌≡◌, List, ◌++◌, append_assoc, ap, ◌∙◌, inl, inr, subst, sym, Ok, Err, Result}
use Rattle.std.specs.Prelude.{OnOk, ◌⊎◌}
use Rattle.kv_sig.specs.FreeNames.{assumed_form, assumed_prog}
use Rattle.kv_trees.specs.Bridge.{plain_form, plain_prog, plain_form_step, plain_prog_step}
use Rattle.kv_trees.specs.Trees as P
use Rattle.kv_names.specs.Names.{Name}
use Rattle.kv_trees.specs.declared.trees.Form as code
use Rattle.kv_trees.specs.declared.trees.Form.{Form, fold-roll-Form}
use Rattle.kv_trees.specs.declared.trees.Form.TheOpen as open_tree
use Rattle.kv_trees.specs.declared.trees.Prog as coded
use Rattle.kv_trees.specs.declared.trees.Prog.{Prog, fold-roll-Prog}
use Rattle.kv_names.specs.declared.symbols.Profile.{Profile}

abbrev pub Adds : {R E : Type 0} → Result R E → (before after xs : List (Name × Profile)) → Type 0
Adds result before after xs = OnOk result (after ≡ before ++ xs)

pub two_added : {R E : Type 0} (result : Result R E) (before between after xs ys : List (Name × Profile)) → between ≡ before ++ xs → Adds result between after ys → Adds result before after (xs ++ ys)
two_added (Ok r) before between after xs ys p q = q ∙ ap (λ l. l ++ ys) p ∙ append_assoc before xs ys
two_added (Err e) before between after xs ys p q = tt

-- the alternatives of a pattern
of_two : {A : Type 0} (P : A → Type 0) (x a b : A) → (x ≡ a) ⊎ (x ≡ b) → P a → P b → P x
of_two P x a b either pa pb = elim either [
  | inl e ↦ subst P (sym e) pa
  | inr e ↦ subst P (sym e) pb
]

of_four : {A : Type 0} (P : A → Type 0) (x a b c d : A) → (x ≡ a) ⊎ ((x ≡ b) ⊎ ((x ≡ c) ⊎ (x ≡ d))) → P a → P b → P c → P d → P x
of_four P x a b c d either pa pb pc pd = elim either [
  | inl e ↦ subst P (sym e) pa
  | inr rest ↦ elim rest [
    | inl e ↦ subst P (sym e) pb
    | inr last ↦ of_two P x c d last pc pd
  ]
]

pub two_forms : (form f g : Form) → (form ≡ code.And f g) ⊎ ((form ≡ code.Or f g) ⊎ ((form ≡ code.Imp f g) ⊎ (form ≡ code.Iff f g)))
    → assumed_form (plain_form form) ≡ assumed_form (plain_form f) ++ assumed_form (plain_form g)
unfolding code.roll-Form denote.Hole.Carrier.roll
two_forms form f g is =
    of_four (λ x. assumed_form (plain_form x) ≡ assumed_form (plain_form f) ++ assumed_form (plain_form g)) form _ _ _ _ is
    (ap assumed_form (fold-roll-Form P.Form P.Prog plain_form_step plain_prog_step (open_tree.And f g)))
    (ap assumed_form (fold-roll-Form P.Form P.Prog plain_form_step plain_prog_step (open_tree.Or f g)))
    (ap assumed_form (fold-roll-Form P.Form P.Prog plain_form_step plain_prog_step (open_tree.Imp f g)))
    (ap assumed_form (fold-roll-Form P.Form P.Prog plain_form_step plain_prog_step (open_tree.Iff f g)))

pub two_progs : (prog a b : Prog) → (prog ≡ coded.Seq a b) ⊎ (prog ≡ coded.Choice a b) → assumed_prog (plain_prog prog) ≡ assumed_prog (plain_prog a) ++ assumed_prog (plain_prog b)
unfolding coded.roll-Prog denote.Hole.Carrier.roll
two_progs prog a b is =
    of_two (λ x. assumed_prog (plain_prog x) ≡ assumed_prog (plain_prog a) ++ assumed_prog (plain_prog b)) prog _ _ is
    (ap assumed_prog (fold-roll-Prog P.Form P.Prog plain_form_step plain_prog_step (open_tree.Seq a b)))
    (ap assumed_prog (fold-roll-Prog P.Form P.Prog plain_form_step plain_prog_step (open_tree.Choice a b)))

pub loop_parts : (prog : Prog) (e : Form) (a : Prog) → prog ≡ coded.While e a → assumed_prog (plain_prog prog) ≡ assumed_form (plain_form e) ++ assumed_prog (plain_prog a)
unfolding coded.roll-Prog denote.Hole.Carrier.roll
loop_parts prog e a is = ap (λ x. assumed_prog (plain_prog x)) is ∙ ap assumed_prog (fold-roll-Prog P.Form P.Prog plain_form_step plain_prog_step (open_tree.While e a))
