-- What holds of each assigned variable and each reference of a tree.
use Rattle.std.specs.Prelude.{ℕ, ◌+◌, List, [], ◌∷◌}
use Rattle.kv_trees.specs.Trees.{Term, Form, Prog}
use Rattle.kv_trees.specs.declared.trees.Ref.{Ref}
use Rattle.kv_subst.specs.Changing.{Change}

abbrev pub AllRefs : (Ref → Type 0) → List Ref → Type 0
AllRefs P [] = Unit {0}
AllRefs P (r ∷ rs) = P r × AllRefs P rs

abbrev mutual
  -- P holds of each, by the binders passed
  pub FormRefs : (ℕ → Ref → Type 0) → ℕ → Form → Type 0
  FormRefs P k Form.True = Unit {0}
  FormRefs P k Form.False = Unit {0}
  FormRefs P k (Form.Atom p ts) = Unit {0}
  FormRefs P k (Form.Equal s t) = Unit {0}
  FormRefs P k (Form.Not f) = FormRefs P k f
  FormRefs P k (Form.And f g) = FormRefs P k f × FormRefs P k g
  FormRefs P k (Form.Or f g) = FormRefs P k f × FormRefs P k g
  FormRefs P k (Form.Imp f g) = FormRefs P k f × FormRefs P k g
  FormRefs P k (Form.Iff f g) = FormRefs P k f × FormRefs P k g
  FormRefs P k (Form.All s f) = FormRefs P (k + 1) f
  FormRefs P k (Form.Ex s f) = FormRefs P (k + 1) f
  FormRefs P k (Form.After a f) = ProgRefs P k a × FormRefs P k f
  FormRefs P k (Form.Can a f) = ProgRefs P k a × FormRefs P k f

  pub ProgRefs : (ℕ → Ref → Type 0) → ℕ → Prog → Type 0
  ProgRefs P k Prog.Skip = Unit {0}
  ProgRefs P k Prog.Abort = Unit {0}
  ProgRefs P k (Prog.Assign x t) = P k x
  ProgRefs P k (Prog.Seq a b) = ProgRefs P k a × ProgRefs P k b
  ProgRefs P k (Prog.If e a b) = FormRefs P k e × ProgRefs P k a × ProgRefs P k b
  ProgRefs P k (Prog.While e a) = FormRefs P k e × ProgRefs P k a
  ProgRefs P k (Prog.Local s t a) = ProgRefs P (k + 1) a
  ProgRefs P k (Prog.Call p ts rs) = AllRefs (P k) rs
  ProgRefs P k (Prog.Choice a b) = ProgRefs P k a × ProgRefs P k b

abbrev pub IsPlace : Term → Type 0
IsPlace (Term.Place r) = Unit {0}
IsPlace (Term.App f ts) = ⊥

-- the change makes a variable of each assigned variable and each reference
abbrev pub FormFits : Change → ℕ → Form → Type 0
FormFits c k f = FormRefs (λ k r. IsPlace (c k r)) k f

abbrev pub ProgFits : Change → ℕ → Prog → Type 0
ProgFits c k a = ProgRefs (λ k r. IsPlace (c k r)) k a
