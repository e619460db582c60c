-- The plain trees are the trees of the code.
use Rattle.std.proofs.Common.{◌≡◌, List, [], ◌∷◌, refl, ap, ap₂, subst, ◌∙◌, sym}
use Rattle.kv_trees.specs.Trees as P
use Rattle.kv_trees.specs.Bridge.{plain_term, plain_terms, plain_term_step, plain_form, plain_prog, plain_form_step, plain_prog_step}
use Rattle.kv_trees.specs.declared.trees.Term.{Term}
use Rattle.kv_trees.specs.declared.trees.Term.TheOpen as O
use Rattle.kv_trees.specs.declared.trees.Term.TheVariants.{rolls-Place, rolls-App}
use Rattle.kv_trees.specs.declared.trees.Term as T
use Rattle.kv_trees.specs.declared.trees.Form.{Form, Form-F, ind-Form, roll-Form, fold-roll-Form, map-Form}
use Rattle.kv_trees.specs.declared.trees.Form.TheOpen as L
use Rattle.kv_trees.specs.declared.trees.Form.TheVariants.{rolls-True, rolls-False, rolls-Atom, rolls-Equal, rolls-Not, rolls-And, rolls-Or, rolls-Imp, rolls-Iff, rolls-All, rolls-Ex, rolls-After, rolls-Can}
use Rattle.kv_trees.specs.declared.trees.Prog.TheVariants.{rolls-Skip, rolls-Abort, rolls-Assign, rolls-Seq, rolls-If, rolls-While, rolls-Local, rolls-Call, rolls-Choice}
use Rattle.kv_trees.specs.declared.trees.Form as F
use Rattle.kv_trees.specs.declared.trees.Prog.{Prog, Prog-F, ind-Prog, roll-Prog, fold-roll-Prog, map-Prog}
use Rattle.kv_trees.specs.declared.trees.Prog as G
use Rattle.kv_trees.proofs.Induction.{term_induction, bare}

abbrev mutual
  pub coded_term : P.Term → Term
  coded_term (P.Term.Place r) = T.Place r
  coded_term (P.Term.App f ts) = T.App f (coded_terms ts)

  pub coded_terms : P.Terms → List Term
  coded_terms P.Terms.none = []
  coded_terms (P.Terms.more t ts) = coded_term t ∷ coded_terms ts

abbrev mutual
  pub coded_form : P.Form → Form
  coded_form P.Form.True = F.True
  coded_form P.Form.False = F.False
  coded_form (P.Form.Atom p ts) = F.Atom p (coded_terms ts)
  coded_form (P.Form.Equal s t) = F.Equal (coded_term s) (coded_term t)
  coded_form (P.Form.Not f) = F.Not (coded_form f)
  coded_form (P.Form.And f g) = F.And (coded_form f) (coded_form g)
  coded_form (P.Form.Or f g) = F.Or (coded_form f) (coded_form g)
  coded_form (P.Form.Imp f g) = F.Imp (coded_form f) (coded_form g)
  coded_form (P.Form.Iff f g) = F.Iff (coded_form f) (coded_form g)
  coded_form (P.Form.All s f) = F.All s (coded_form f)
  coded_form (P.Form.Ex s f) = F.Ex s (coded_form f)
  coded_form (P.Form.After a f) = F.After (coded_prog a) (coded_form f)
  coded_form (P.Form.Can a f) = F.Can (coded_prog a) (coded_form f)

  pub coded_prog : P.Prog → Prog
  coded_prog P.Prog.Skip = G.Skip
  coded_prog P.Prog.Abort = G.Abort
  coded_prog (P.Prog.Assign x t) = G.Assign x (coded_term t)
  coded_prog (P.Prog.Seq a b) = G.Seq (coded_prog a) (coded_prog b)
  coded_prog (P.Prog.If e a b) = G.If (coded_form e) (coded_prog a) (coded_prog b)
  coded_prog (P.Prog.While e a) = G.While (coded_form e) (coded_prog a)
  coded_prog (P.Prog.Local s t a) = G.Local s (coded_term t) (coded_prog a)
  coded_prog (P.Prog.Call p ts rs) = G.Call p (coded_terms ts) rs
  coded_prog (P.Prog.Choice a b) = G.Choice (coded_prog a) (coded_prog b)

at_term : (x : T.Term-F Term) → plain_term (T.roll-Term x) ≡ plain_term_step (T.map-Term Term P.Term plain_term x)
at_term = T.fold-roll-Term P.Term plain_term_step

at_form : (x : Form-F Form Prog) → plain_form (roll-Form x) ≡ plain_form_step (map-Form Form Prog P.Form P.Prog plain_form plain_prog x)
at_form = fold-roll-Form P.Form P.Prog plain_form_step plain_prog_step

at_prog : (x : Prog-F Form Prog) → plain_prog (roll-Prog x) ≡ plain_prog_step (map-Prog Form Prog P.Form P.Prog plain_form plain_prog x)
at_prog = fold-roll-Prog P.Form P.Prog plain_form_step plain_prog_step

abbrev Back : Term → Type 0
Back t = coded_term (plain_term t) ≡ t

backs : (es : List ((t : Term) × Back t)) → coded_terms (plain_terms (bare {P = Back} es)) ≡ bare {P = Back} es
backs [] = refl
backs (e ∷ es) = ap₂ (λ t ts. t ∷ ts) e.1 (backs es)

pub term_back : (t : Term) → coded_term (plain_term t) ≡ t
term_back = term_induction Back
    (λ r. ap (λ t. coded_term (plain_term t)) (sym (rolls-Place r)) ∙ ap coded_term (at_term (O.Place r)))
    (λ f es. ap (λ t. coded_term (plain_term t)) (sym (rolls-App f (bare {P = Back} es))) ∙ ap coded_term (at_term (O.App f (bare {P = Back} es))) ∙ ap (T.App f) (backs es))

pub terms_back : (ts : List Term) → coded_terms (plain_terms ts) ≡ ts
terms_back [] = refl
terms_back (t ∷ ts) = ap₂ (λ x xs. x ∷ xs) (term_back t) (terms_back ts)

abbrev A : Form → Type 0
A f = coded_form (plain_form f) ≡ f

abbrev B : Prog → Type 0
B a = coded_prog (plain_prog a) ≡ a

abbrev AF : Type 0
AF = (f : Form) × A f

abbrev BP : Type 0
BP = (a : Prog) × B a

form_node : (y : Form-F AF BP) → A (roll-Form (map-Form AF BP Form Prog (λ e. e.0) (λ e. e.0) y))
form_node L.True = ap coded_form (at_form L.True) ∙ sym rolls-True
form_node L.False = ap coded_form (at_form L.False) ∙ sym rolls-False
form_node (L.Atom p ts) = ap coded_form (at_form (L.Atom p ts)) ∙ ap (F.Atom p) (terms_back ts) ∙ sym (rolls-Atom p ts)
form_node (L.Equal s t) = ap coded_form (at_form (L.Equal s t)) ∙ ap₂ F.Equal (term_back s) (term_back t) ∙ sym (rolls-Equal s t)
form_node (L.Not f) = ap coded_form (at_form (L.Not f.0)) ∙ ap F.Not f.1 ∙ sym (rolls-Not f.0)
form_node (L.And f g) = ap coded_form (at_form (L.And f.0 g.0)) ∙ ap₂ F.And f.1 g.1 ∙ sym (rolls-And f.0 g.0)
form_node (L.Or f g) = ap coded_form (at_form (L.Or f.0 g.0)) ∙ ap₂ F.Or f.1 g.1 ∙ sym (rolls-Or f.0 g.0)
form_node (L.Imp f g) = ap coded_form (at_form (L.Imp f.0 g.0)) ∙ ap₂ F.Imp f.1 g.1 ∙ sym (rolls-Imp f.0 g.0)
form_node (L.Iff f g) = ap coded_form (at_form (L.Iff f.0 g.0)) ∙ ap₂ F.Iff f.1 g.1 ∙ sym (rolls-Iff f.0 g.0)
form_node (L.All s f) = ap coded_form (at_form (L.All s f.0)) ∙ ap (F.All s) f.1 ∙ sym (rolls-All s f.0)
form_node (L.Ex s f) = ap coded_form (at_form (L.Ex s f.0)) ∙ ap (F.Ex s) f.1 ∙ sym (rolls-Ex s f.0)
form_node (L.After a f) = ap coded_form (at_form (L.After a.0 f.0)) ∙ ap₂ F.After a.1 f.1 ∙ sym (rolls-After a.0 f.0)
form_node (L.Can a f) = ap coded_form (at_form (L.Can a.0 f.0)) ∙ ap₂ F.Can a.1 f.1 ∙ sym (rolls-Can a.0 f.0)

prog_node : (y : Prog-F AF BP) → B (roll-Prog (map-Prog AF BP Form Prog (λ e. e.0) (λ e. e.0) y))
prog_node L.Skip = ap coded_prog (at_prog L.Skip) ∙ sym rolls-Skip
prog_node L.Abort = ap coded_prog (at_prog L.Abort) ∙ sym rolls-Abort
prog_node (L.Assign x t) = ap coded_prog (at_prog (L.Assign x t)) ∙ ap (G.Assign x) (term_back t) ∙ sym (rolls-Assign x t)
prog_node (L.Seq a b) = ap coded_prog (at_prog (L.Seq a.0 b.0)) ∙ ap₂ G.Seq a.1 b.1 ∙ sym (rolls-Seq a.0 b.0)
prog_node (L.If e a b) =
    ap coded_prog (at_prog (L.If e.0 a.0 b.0)) ∙ ap₂ (λ x y. G.If x y (coded_prog (plain_prog b.0))) e.1 a.1 ∙ ap (G.If e.0 a.0) b.1 ∙ sym (rolls-If e.0 a.0 b.0)
prog_node (L.While e a) = ap coded_prog (at_prog (L.While e.0 a.0)) ∙ ap₂ G.While e.1 a.1 ∙ sym (rolls-While e.0 a.0)
prog_node (L.Local s t a) = ap coded_prog (at_prog (L.Local s t a.0)) ∙ ap₂ (G.Local s) (term_back t) a.1 ∙ sym (rolls-Local s t a.0)
prog_node (L.Call p ts rs) = ap coded_prog (at_prog (L.Call p ts rs)) ∙ ap (λ us. G.Call p us rs) (terms_back ts) ∙ sym (rolls-Call p ts rs)
prog_node (L.Choice a b) = ap coded_prog (at_prog (L.Choice a.0 b.0)) ∙ ap₂ G.Choice a.1 b.1 ∙ sym (rolls-Choice a.0 b.0)

pub form_back : (f : Form) → coded_form (plain_form f) ≡ f
form_back = ind-Form A B (λ x y is. subst (λ z. A (roll-Form z)) is (form_node y)) (λ x y is. subst (λ z. B (roll-Prog z)) is (prog_node y))

pub prog_back : (a : Prog) → coded_prog (plain_prog a) ≡ a
prog_back = ind-Prog A B (λ x y is. subst (λ z. A (roll-Form z)) is (form_node y)) (λ x y is. subst (λ z. B (roll-Prog z)) is (prog_node y))

pub same_plain : (f g : Form) → plain_form f ≡ plain_form g → f ≡ g
same_plain f g e = sym (form_back f) ∙ ap coded_form e ∙ form_back g

-- ---- the other way round

mutual
  pub term_forth : (t : P.Term) → plain_term (coded_term t) ≡ t
  term_forth (P.Term.Place r) = ap plain_term (sym (rolls-Place r)) ∙ at_term (O.Place r)
  term_forth (P.Term.App f ts) = ap plain_term (sym (rolls-App f (coded_terms ts))) ∙ at_term (O.App f (coded_terms ts)) ∙ ap (P.Term.App f) (terms_forth ts)

  pub terms_forth : (ts : P.Terms) → plain_terms (coded_terms ts) ≡ ts
  terms_forth P.Terms.none = refl
  terms_forth (P.Terms.more t ts) = ap₂ P.Terms.more (term_forth t) (terms_forth ts)
