-- The tests for equal trees tell that they are equal.
use Rattle.std.proofs.Common.{◌≡◌, List, [], ◌∷◌, refl, ap}
use Rattle.std.specs.Prelude.{Bool, true, false, ◌&&◌}
use Rattle.std.specs.Str.{bytes_eq}
use Rattle.std.proofs.lemmas.Bool.{eqb-true, eq-eqb}
use Rattle.std.proofs.lemmas.Slice.Eq.{bytes_eq-Decides}
use Rattle.kv_names.specs.Names.{Name}
use Rattle.kv_trees.specs.Trees.{Term, Terms, Form, Prog}
use Rattle.kv_trees.specs.Same.{names_eq, var_eq, ref_eq, refs_eq, profile_eq, callee_eq, term_eq, terms_eq, form_eq, prog_eq}
use Rattle.kv_names.specs.declared.symbols.Callee.{Callee}
use Rattle.kv_names.specs.declared.symbols.Callee.TheVariants as callee
use Rattle.kv_names.specs.declared.symbols.Profile.{Profile}
use Rattle.kv_names.specs.declared.symbols.Profile.TheVariants as profile
use Rattle.kv_names.specs.declared.symbols.Var.{Var}
use Rattle.kv_trees.specs.declared.trees.Ref.{Ref}
use Rattle.kv_trees.specs.declared.trees.Ref.TheVariants.{Free, Bound}

pub parts : (a b : Bool) → (a && b) ≡ true → (a ≡ true) × (b ≡ true)
parts true b e = (refl, e)
parts false b e = cc

pub name_is : (x y : Name) → bytes_eq x y ≡ true → x ≡ y
name_is x y = (bytes_eq-Decides x y).0

pub names_is : (xs ys : List Name) → names_eq xs ys ≡ true → xs ≡ ys
names_is [] [] e = refl
names_is [] (y ∷ ys) e = cc
names_is (x ∷ xs) [] e = cc
names_is (x ∷ xs) (y ∷ ys) e =
    let b = parts (bytes_eq x y) (names_eq xs ys) e in
    let h = name_is x y b.0 in
    let i = names_is xs ys b.1 in cc

pub var_is : (x y : Var) → var_eq x y ≡ true → x ≡ y
var_is x y e =
    let b = parts (bytes_eq x.name y.name) (bytes_eq x.sort y.sort) e in
    let n = name_is x.name y.name b.0 in
    let s = name_is x.sort y.sort b.1 in
    λ i. record { name = n i; sort = s i }

pub ref_is : (r q : Ref) → ref_eq r q ≡ true → r ≡ q
ref_is (Free x) (Free y) e = ap Free (var_is x y e)
ref_is (Bound n) (Bound m) e = ap Bound (eqb-true n m e)
ref_is _ _ e = cc

pub refs_is : (rs qs : List Ref) → refs_eq rs qs ≡ true → rs ≡ qs
refs_is [] [] e = refl
refs_is [] (q ∷ qs) e = cc
refs_is (r ∷ rs) [] e = cc
refs_is (r ∷ rs) (q ∷ qs) e =
    let b = parts (ref_eq r q) (refs_eq rs qs) e in
    let h = ref_is r q b.0 in
    let i = refs_is rs qs b.1 in cc

pub profile_is : (a b : Profile) → profile_eq a b ≡ true → a ≡ b
profile_is profile.Sort profile.Sort e = refl
profile_is (profile.Fun args result) (profile.Fun args' result') e =
    let b = parts (names_eq args args') (bytes_eq result result') e in
    let h = names_is args args' b.0 in
    let i = name_is result result' b.1 in cc
profile_is (profile.Pred args) (profile.Pred args') e = ap profile.Pred (names_is args args' e)
profile_is (profile.Proc values refs) (profile.Proc values' refs') e =
    let b = parts (names_eq values values') (names_eq refs refs') e in
    let h = names_is values values' b.0 in
    let i = names_is refs refs' b.1 in cc
profile_is _ _ e = cc

pub callee_is : (p q : Callee) → callee_eq p q ≡ true → p ≡ q
callee_is (callee.Symbol p) (callee.Symbol q) e = ap callee.Symbol (name_is p q e)
callee_is (callee.Assumed p a) (callee.Assumed q b) e =
    let c = parts (bytes_eq p q) (profile_eq a b) e in
    let h = name_is p q c.0 in
    let i = profile_is a b c.1 in cc
callee_is _ _ e = cc

mutual
  pub term_is : (t u : Term) → term_eq t u ≡ true → t ≡ u
  term_is (Term.Place r) (Term.Place q) e = ap Term.Place (ref_is r q e)
  term_is (Term.App f ts) (Term.App g us) e =
      let b = parts (bytes_eq f g) (terms_eq ts us) e in
      let h = name_is f g b.0 in
      let i = terms_is ts us b.1 in cc
  term_is _ _ e = cc

  pub terms_is : (ts us : Terms) → terms_eq ts us ≡ true → ts ≡ us
  terms_is Terms.none Terms.none e = refl
  terms_is (Terms.more t ts) (Terms.more u us) e =
      let b = parts (term_eq t u) (terms_eq ts us) e in
      let h = term_is t u b.0 in
      let i = terms_is ts us b.1 in cc
  terms_is _ _ e = cc

mutual
  pub form_is : (f g : Form) → form_eq f g ≡ true → f ≡ g
  form_is Form.True Form.True e = refl
  form_is Form.False Form.False e = refl
  form_is (Form.Atom p ts) (Form.Atom p' ts') e =
      let all = parts (bytes_eq p p') (terms_eq ts ts') e in
      let h = name_is p p' all.0 in
      let i = terms_is ts ts' all.1 in cc
  form_is (Form.Equal s t) (Form.Equal s' t') e =
      let all = parts (term_eq s s') (term_eq t t') e in
      let h = term_is s s' all.0 in
      let i = term_is t t' all.1 in cc
  form_is (Form.Not f) (Form.Not f') e =
      ap Form.Not (form_is f f' e)
  form_is (Form.And f g) (Form.And f' g') e =
      let all = parts (form_eq f f') (form_eq g g') e in
      let h = form_is f f' all.0 in
      let i = form_is g g' all.1 in cc
  form_is (Form.Or f g) (Form.Or f' g') e =
      let all = parts (form_eq f f') (form_eq g g') e in
      let h = form_is f f' all.0 in
      let i = form_is g g' all.1 in cc
  form_is (Form.Imp f g) (Form.Imp f' g') e =
      let all = parts (form_eq f f') (form_eq g g') e in
      let h = form_is f f' all.0 in
      let i = form_is g g' all.1 in cc
  form_is (Form.Iff f g) (Form.Iff f' g') e =
      let all = parts (form_eq f f') (form_eq g g') e in
      let h = form_is f f' all.0 in
      let i = form_is g g' all.1 in cc
  form_is (Form.All s f) (Form.All s' f') e =
      let all = parts (bytes_eq s s') (form_eq f f') e in
      let h = name_is s s' all.0 in
      let i = form_is f f' all.1 in cc
  form_is (Form.Ex s f) (Form.Ex s' f') e =
      let all = parts (bytes_eq s s') (form_eq f f') e in
      let h = name_is s s' all.0 in
      let i = form_is f f' all.1 in cc
  form_is (Form.After a f) (Form.After a' f') e =
      let all = parts (prog_eq a a') (form_eq f f') e in
      let h = prog_is a a' all.0 in
      let i = form_is f f' all.1 in cc
  form_is (Form.Can a f) (Form.Can a' f') e =
      let all = parts (prog_eq a a') (form_eq f f') e in
      let h = prog_is a a' all.0 in
      let i = form_is f f' all.1 in cc
  form_is _ _ e = cc

  pub prog_is : (a b : Prog) → prog_eq a b ≡ true → a ≡ b
  prog_is Prog.Skip Prog.Skip w = refl
  prog_is Prog.Abort Prog.Abort w = refl
  prog_is (Prog.Assign x t) (Prog.Assign x' t') w =
      let all = parts (ref_eq x x') (term_eq t t') w in
      let h = ref_is x x' all.0 in
      let i = term_is t t' all.1 in cc
  prog_is (Prog.Seq a b) (Prog.Seq a' b') w =
      let all = parts (prog_eq a a') (prog_eq b b') w in
      let h = prog_is a a' all.0 in
      let i = prog_is b b' all.1 in cc
  prog_is (Prog.If e a b) (Prog.If e' a' b') w =
      let all = parts (form_eq e e' && prog_eq a a') (prog_eq b b') w in
      let front = parts (form_eq e e') (prog_eq a a') all.0 in
      let h = form_is e e' front.0 in
      let i = prog_is a a' front.1 in
      let j = prog_is b b' all.1 in cc
  prog_is (Prog.While e a) (Prog.While e' a') w =
      let all = parts (form_eq e e') (prog_eq a a') w in
      let h = form_is e e' all.0 in
      let i = prog_is a a' all.1 in cc
  prog_is (Prog.Local s t a) (Prog.Local s' t' a') w =
      let all = parts (bytes_eq s s' && term_eq t t') (prog_eq a a') w in
      let front = parts (bytes_eq s s') (term_eq t t') all.0 in
      let h = name_is s s' front.0 in
      let i = term_is t t' front.1 in
      let j = prog_is a a' all.1 in cc
  prog_is (Prog.Call p ts rs) (Prog.Call p' ts' rs') w =
      let all = parts (callee_eq p p' && terms_eq ts ts') (refs_eq rs rs') w in
      let front = parts (callee_eq p p') (terms_eq ts ts') all.0 in
      let h = callee_is p p' front.0 in
      let i = terms_is ts ts' front.1 in
      let j = refs_is rs rs' all.1 in cc
  prog_is (Prog.Choice a b) (Prog.Choice a' b') w =
      let all = parts (prog_eq a a') (prog_eq b b') w in
      let h = prog_is a a' all.0 in
      let i = prog_is b b' all.1 in cc
  prog_is _ _ w = cc

pub both : (a b : Bool) → a ≡ true → b ≡ true → (a && b) ≡ true
both true b e f = f
both false b e f = cc

pub name_same : (x : Name) → bytes_eq x x ≡ true
name_same x = (bytes_eq-Decides x x).1 refl

pub names_same : (xs : List Name) → names_eq xs xs ≡ true
names_same [] = refl
names_same (x ∷ xs) = both (bytes_eq x x) (names_eq xs xs) (name_same x) (names_same xs)

pub ref_same : (r : Ref) → ref_eq r r ≡ true
ref_same (Free x) = both (bytes_eq x.name x.name) (bytes_eq x.sort x.sort) (name_same x.name) (name_same x.sort)
ref_same (Bound n) = eq-eqb n n refl

pub refs_same : (rs : List Ref) → refs_eq rs rs ≡ true
refs_same [] = refl
refs_same (r ∷ rs) = both (ref_eq r r) (refs_eq rs rs) (ref_same r) (refs_same rs)

pub profile_same : (a : Profile) → profile_eq a a ≡ true
profile_same profile.Sort = refl
profile_same (profile.Fun args result) = both (names_eq args args) (bytes_eq result result) (names_same args) (name_same result)
profile_same (profile.Pred args) = names_same args
profile_same (profile.Proc values refs) = both (names_eq values values) (names_eq refs refs) (names_same values) (names_same refs)

pub callee_same : (p : Callee) → callee_eq p p ≡ true
callee_same (callee.Symbol p) = name_same p
callee_same (callee.Assumed p a) = both (bytes_eq p p) (profile_eq a a) (name_same p) (profile_same a)

mutual
  pub term_same : (t : Term) → term_eq t t ≡ true
  term_same (Term.Place r) = ref_same r
  term_same (Term.App f ts) = both (bytes_eq f f) (terms_eq ts ts) (name_same f) (terms_same ts)

  pub terms_same : (ts : Terms) → terms_eq ts ts ≡ true
  terms_same Terms.none = refl
  terms_same (Terms.more t ts) = both (term_eq t t) (terms_eq ts ts) (term_same t) (terms_same ts)

mutual
  pub form_same : (f : Form) → form_eq f f ≡ true
  form_same Form.True = refl
  form_same Form.False = refl
  form_same (Form.Atom p ts) = both (bytes_eq p p) (terms_eq ts ts) (name_same p) (terms_same ts)
  form_same (Form.Equal s t) = both (term_eq s s) (term_eq t t) (term_same s) (term_same t)
  form_same (Form.Not f) = form_same f
  form_same (Form.And f g) = both (form_eq f f) (form_eq g g) (form_same f) (form_same g)
  form_same (Form.Or f g) = both (form_eq f f) (form_eq g g) (form_same f) (form_same g)
  form_same (Form.Imp f g) = both (form_eq f f) (form_eq g g) (form_same f) (form_same g)
  form_same (Form.Iff f g) = both (form_eq f f) (form_eq g g) (form_same f) (form_same g)
  form_same (Form.All s f) = both (bytes_eq s s) (form_eq f f) (name_same s) (form_same f)
  form_same (Form.Ex s f) = both (bytes_eq s s) (form_eq f f) (name_same s) (form_same f)
  form_same (Form.After a f) = both (prog_eq a a) (form_eq f f) (prog_same a) (form_same f)
  form_same (Form.Can a f) = both (prog_eq a a) (form_eq f f) (prog_same a) (form_same f)

  pub prog_same : (a : Prog) → prog_eq a a ≡ true
  prog_same Prog.Skip = refl
  prog_same Prog.Abort = refl
  prog_same (Prog.Assign x t) = both (ref_eq x x) (term_eq t t) (ref_same x) (term_same t)
  prog_same (Prog.Seq a b) = both (prog_eq a a) (prog_eq b b) (prog_same a) (prog_same b)
  prog_same (Prog.If e a b) = both (form_eq e e && prog_eq a a) (prog_eq b b) (both (form_eq e e) (prog_eq a a) (form_same e) (prog_same a)) (prog_same b)
  prog_same (Prog.While e a) = both (form_eq e e) (prog_eq a a) (form_same e) (prog_same a)
  prog_same (Prog.Local s t a) = both (bytes_eq s s && term_eq t t) (prog_eq a a) (both (bytes_eq s s) (term_eq t t) (name_same s) (term_same t)) (prog_same a)
  prog_same (Prog.Call p ts rs) = both (callee_eq p p && terms_eq ts ts) (refs_eq rs rs) (both (callee_eq p p) (terms_eq ts ts) (callee_same p) (terms_same ts)) (refs_same rs)
  prog_same (Prog.Choice a b) = both (prog_eq a a) (prog_eq b b) (prog_same a) (prog_same b)
