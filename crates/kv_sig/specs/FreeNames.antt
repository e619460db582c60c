-- The free variables and the assumed procedures of trees, from left to right, as often as they stand there.
use Rattle.std.specs.Prelude.{◌≡◌, List, [], ◌∷◌, ◌++◌}
use Rattle.kv_names.specs.Names.{Name}
use Rattle.kv_trees.specs.Trees.{Term, Terms, Form, Prog, Sequent}
use Rattle.kv_names.specs.declared.symbols.Callee.{Callee}
use Rattle.kv_names.specs.declared.symbols.Callee.TheVariants.{Symbol, Assumed}
use Rattle.kv_names.specs.declared.symbols.Profile.{Profile}
use Rattle.kv_names.specs.declared.symbols.Var.{Var}
use Rattle.kv_trees.specs.declared.trees.Ref.{Ref}
use Rattle.kv_trees.specs.declared.trees.Ref.TheVariants.{Free, Bound}
use Rattle.kv_sig.specs.Members.{In}

abbrev pub free_ref : Ref → List Var
free_ref (Free x) = x ∷ []
free_ref (Bound n) = []

abbrev pub free_refs : List Ref → List Var
free_refs [] = []
free_refs (r ∷ rs) = free_ref r ++ free_refs rs

abbrev mutual
  pub free_term : Term → List Var
  free_term (Term.Place r) = free_ref r
  free_term (Term.App f ts) = free_terms ts

  pub free_terms : Terms → List Var
  free_terms Terms.none = []
  free_terms (Terms.more t ts) = free_term t ++ free_terms ts

abbrev mutual
  pub free_form : Form → List Var
  free_form Form.True = []
  free_form Form.False = []
  free_form (Form.Atom p ts) = free_terms ts
  free_form (Form.Equal s t) = free_term s ++ free_term t
  free_form (Form.Not f) = free_form f
  free_form (Form.And f g) = free_form f ++ free_form g
  free_form (Form.Or f g) = free_form f ++ free_form g
  free_form (Form.Imp f g) = free_form f ++ free_form g
  free_form (Form.Iff f g) = free_form f ++ free_form g
  free_form (Form.All s f) = free_form f
  free_form (Form.Ex s f) = free_form f
  free_form (Form.After a f) = free_prog a ++ free_form f
  free_form (Form.Can a f) = free_prog a ++ free_form f

  -- assigned variables and references count
  pub free_prog : Prog → List Var
  free_prog Prog.Skip = []
  free_prog Prog.Abort = []
  free_prog (Prog.Assign x t) = free_ref x ++ free_term t
  free_prog (Prog.Seq a b) = free_prog a ++ free_prog b
  free_prog (Prog.If e a b) = free_form e ++ (free_prog a ++ free_prog b)
  free_prog (Prog.While e a) = free_form e ++ free_prog a
  free_prog (Prog.Local s t a) = free_term t ++ free_prog a
  free_prog (Prog.Call p ts rs) = free_terms ts ++ free_refs rs
  free_prog (Prog.Choice a b) = free_prog a ++ free_prog b

abbrev pub assumed_callee : Callee → List (Name × Profile)
assumed_callee (Symbol p) = []
assumed_callee (Assumed p profile) = (p, profile) ∷ []

abbrev mutual
  pub assumed_form : Form → List (Name × Profile)
  assumed_form Form.True = []
  assumed_form Form.False = []
  assumed_form (Form.Atom p ts) = []
  assumed_form (Form.Equal s t) = []
  assumed_form (Form.Not f) = assumed_form f
  assumed_form (Form.And f g) = assumed_form f ++ assumed_form g
  assumed_form (Form.Or f g) = assumed_form f ++ assumed_form g
  assumed_form (Form.Imp f g) = assumed_form f ++ assumed_form g
  assumed_form (Form.Iff f g) = assumed_form f ++ assumed_form g
  assumed_form (Form.All s f) = assumed_form f
  assumed_form (Form.Ex s f) = assumed_form f
  assumed_form (Form.After a f) = assumed_prog a ++ assumed_form f
  assumed_form (Form.Can a f) = assumed_prog a ++ assumed_form f

  pub assumed_prog : Prog → List (Name × Profile)
  assumed_prog Prog.Skip = []
  assumed_prog Prog.Abort = []
  assumed_prog (Prog.Assign x t) = []
  assumed_prog (Prog.Seq a b) = assumed_prog a ++ assumed_prog b
  assumed_prog (Prog.If e a b) = assumed_form e ++ (assumed_prog a ++ assumed_prog b)
  assumed_prog (Prog.While e a) = assumed_form e ++ assumed_prog a
  assumed_prog (Prog.Local s t a) = assumed_prog a
  assumed_prog (Prog.Call p ts rs) = assumed_callee p
  assumed_prog (Prog.Choice a b) = assumed_prog a ++ assumed_prog b

-- neither a free variable nor an assumed procedure stands in the formula
pub record IsClosed (f : Form) : Type 0 where
  pub variables : free_form f ≡ []
  pub procedures : assumed_form f ≡ []

abbrev pub free_forms : List Form → List Var
free_forms [] = []
free_forms (f ∷ fs) = free_form f ++ free_forms fs

abbrev pub assumed_forms : List Form → List (Name × Profile)
assumed_forms [] = []
assumed_forms (f ∷ fs) = assumed_form f ++ assumed_forms fs

abbrev pub free_sequent : Sequent → List Var
free_sequent s = free_forms s.left ++ free_forms s.right

abbrev pub assumed_sequent : Sequent → List (Name × Profile)
assumed_sequent s = assumed_forms s.left ++ assumed_forms s.right

-- each free name has one sort, and each assumed procedure one profile
pub record IsConsistent (s : Sequent) : Type 0 where
  pub sorts : (x y : Var) → In x (free_sequent s) → In y (free_sequent s) → x.name ≡ y.name → x.sort ≡ y.sort
  pub profiles : (p q : Name × Profile) → In p (assumed_sequent s) → In q (assumed_sequent s) → p.0 ≡ q.0 → p.1 ≡ q.1
