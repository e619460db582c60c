-- Whether two trees are equal, as a test.
use Rattle.std.specs.Prelude.{Bool, true, false, ◌&&◌, ◌==◌, List}
use Rattle.std.specs.Str.{bytes_eq}
use Rattle.std.specs.Cmp.Lexicographic.{pointwise}
use Rattle.kv_names.specs.Names.{Name}
use Rattle.kv_trees.specs.Trees.{Term, Terms, Form, Prog}
use Rattle.kv_names.specs.declared.symbols.Callee.{Callee}
use Rattle.kv_names.specs.declared.symbols.Callee.TheVariants as callee
use Rattle.kv_names.specs.declared.symbols.Profile.{Profile}
use Rattle.kv_names.specs.declared.symbols.Profile.TheVariants as profile
use Rattle.kv_names.specs.declared.symbols.Var.{Var}
use Rattle.kv_trees.specs.declared.trees.Ref.{Ref}
use Rattle.kv_trees.specs.declared.trees.Ref.TheVariants.{Free, Bound}

abbrev pub names_eq : List Name → List Name → Bool
names_eq = pointwise bytes_eq

abbrev pub var_eq : Var → Var → Bool
var_eq x y = bytes_eq x.name y.name && bytes_eq x.sort y.sort

abbrev pub ref_eq : Ref → Ref → Bool
ref_eq (Free x) (Free y) = var_eq x y
ref_eq (Bound n) (Bound m) = n == m
ref_eq _ _ = false

abbrev pub refs_eq : List Ref → List Ref → Bool
refs_eq = pointwise ref_eq

abbrev pub profile_eq : Profile → Profile → Bool
profile_eq profile.Sort profile.Sort = true
profile_eq (profile.Fun args result) (profile.Fun args' result') = names_eq args args' && bytes_eq result result'
profile_eq (profile.Pred args) (profile.Pred args') = names_eq args args'
profile_eq (profile.Proc values refs) (profile.Proc values' refs') = names_eq values values' && names_eq refs refs'
profile_eq _ _ = false

abbrev pub callee_eq : Callee → Callee → Bool
callee_eq (callee.Symbol p) (callee.Symbol q) = bytes_eq p q
callee_eq (callee.Assumed p a) (callee.Assumed q b) = bytes_eq p q && profile_eq a b
callee_eq _ _ = false

abbrev mutual
  pub term_eq : Term → Term → Bool
  term_eq (Term.Place r) (Term.Place q) = ref_eq r q
  term_eq (Term.App f ts) (Term.App g us) = bytes_eq f g && terms_eq ts us
  term_eq _ _ = false

  pub terms_eq : Terms → Terms → Bool
  terms_eq Terms.none Terms.none = true
  terms_eq (Terms.more t ts) (Terms.more u us) = term_eq t u && terms_eq ts us
  terms_eq _ _ = false

abbrev mutual
  pub form_eq : Form → Form → Bool
  form_eq Form.True Form.True = true
  form_eq Form.False Form.False = true
  form_eq (Form.Atom p ts) (Form.Atom p' ts') = bytes_eq p p' && terms_eq ts ts'
  form_eq (Form.Equal s t) (Form.Equal s' t') = term_eq s s' && term_eq t t'
  form_eq (Form.Not f) (Form.Not f') = form_eq f f'
  form_eq (Form.And f g) (Form.And f' g') = form_eq f f' && form_eq g g'
  form_eq (Form.Or f g) (Form.Or f' g') = form_eq f f' && form_eq g g'
  form_eq (Form.Imp f g) (Form.Imp f' g') = form_eq f f' && form_eq g g'
  form_eq (Form.Iff f g) (Form.Iff f' g') = form_eq f f' && form_eq g g'
  form_eq (Form.All s f) (Form.All s' f') = bytes_eq s s' && form_eq f f'
  form_eq (Form.Ex s f) (Form.Ex s' f') = bytes_eq s s' && form_eq f f'
  form_eq (Form.After a f) (Form.After a' f') = prog_eq a a' && form_eq f f'
  form_eq (Form.Can a f) (Form.Can a' f') = prog_eq a a' && form_eq f f'
  form_eq _ _ = false

  pub prog_eq : Prog → Prog → Bool
  prog_eq Prog.Skip Prog.Skip = true
  prog_eq Prog.Abort Prog.Abort = true
  prog_eq (Prog.Assign x t) (Prog.Assign x' t') = ref_eq x x' && term_eq t t'
  prog_eq (Prog.Seq a b) (Prog.Seq a' b') = prog_eq a a' && prog_eq b b'
  prog_eq (Prog.If e a b) (Prog.If e' a' b') = form_eq e e' && prog_eq a a' && prog_eq b b'
  prog_eq (Prog.While e a) (Prog.While e' a') = form_eq e e' && prog_eq a a'
  prog_eq (Prog.Local s t a) (Prog.Local s' t' a') = bytes_eq s s' && term_eq t t' && prog_eq a a'
  prog_eq (Prog.Call p ts rs) (Prog.Call p' ts' rs') = callee_eq p p' && terms_eq ts ts' && refs_eq rs rs'
  prog_eq (Prog.Choice a b) (Prog.Choice a' b') = prog_eq a a' && prog_eq b b'
  prog_eq _ _ = false
