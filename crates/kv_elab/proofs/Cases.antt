-- How typing comes to what it answers, for each kind of tree that has a case of its own.
use Rattle.std.proofs.Common.{◌≡◌, ℕ, ◌==◌, false, ◌&&◌, List, Option, Some, None, Ok, length, bytes_eq, refl, sym, ap, subst}
use Rattle.std.proofs.lemmas.Bool.{eqb-true}
use Rattle.std.proofs.lemmas.Slice.Eq.{bytes_eq-Decides}
use Rattle.kv_names.specs.Names.{Name}
use Rattle.kv_trees.specs.Trees.{Term, Terms, Form, Prog}
use Rattle.kv_raw.specs.RawTrees.{RawForm}
use Rattle.kv_names.specs.declared.symbols.Profile.{Profile}
use Rattle.kv_names.specs.declared.symbols.Profile.TheVariants.{Sort, Fun, Pred, Proc}
use Rattle.kv_names.specs.declared.symbols.Callee.{Callee}
use Rattle.kv_trees.specs.declared.trees.Ref.{Ref}
use Rattle.kv_elab.specs.Faults.{TypeFault}
use Rattle.kv_elab.specs.Typed.{Typed, and_then, both}
use Rattle.kv_elab.specs.Elab.{of_sort, elab_name, elab_sort_where, elab_atom, elab_place, elab_call, has_program, elab_condition}
use Rattle.kv_elab.proofs.Outcomes.{Answers, from_ok, no_fault, from_then, from_both, from_one, from_if, from_unless, both_true}

pub from_sorted : (P : Term → Type 0) (typed : Typed (Term × Name)) (want : Name) (u : Term) → Answers (and_then typed (of_sort want)) u →
    ((p : Term × Name) → Answers typed p → p.1 ≡ want → P p.0) → P u
from_sorted P typed want u e k = from_then P typed (of_sort want) u e (λ p first rest.
    let fits = from_if (bytes_eq want p.1) (Ok p.0) (TypeFault.Sort want p.1) u rest in
    subst P (from_ok p.0 u fits.1) (k p first (sym ((bytes_eq-Decides want p.1).0 fits.0))))

pub from_name : (P : Term × Name → Type 0) (f : Name) (place : Option (Ref × Name)) (profile : Option Profile) (count : ℕ) (args : List Name → Typed Terms) (t : Term × Name) →
    Answers (elab_name f place profile count args) t → ((p : Ref × Name) → place ≡ Some p → P (Term.Place p.0, p.1)) →
    ((wants : List Name) (sort : Name) (us : Terms) → profile ≡ Some (Fun wants sort) → count ≡ length wants → Answers (args wants) us → P (Term.App f us, sort)) → P t
from_name P f (Some place) profile count args t e h k =
    let fits = from_if (count == 0) (Ok (Term.Place place.0, place.1)) (TypeFault.Unknown f) t e in
    subst P (from_ok (Term.Place place.0, place.1) t fits.1) (h place refl)
from_name P f None (Some (Fun wants sort)) count args t e h k =
    let fits = from_if (count == length wants) (and_then (args wants) (λ us. Ok (Term.App f us, sort))) (TypeFault.Arity f) t e in
    from_one P (λ us. (Term.App f us, sort)) (args wants) t fits.1 (λ us typed. k wants sort us refl (eqb-true count (length wants) fits.0) typed)
from_name P f None _ count args t e h k = absurd (no_fault (TypeFault.Unknown f) t e)

pub from_sort : (s : Name) (o : Option Profile) (q : Name) → Answers (elab_sort_where s o) q → (s ≡ q) × (o ≡ Some Sort)
from_sort s (Some Sort) q e = (from_ok s q e, refl)
from_sort s _ q e = absurd (no_fault (TypeFault.Unknown s) q e)

pub from_atom : (P : Form → Type 0) (p : Name) (place : Option (Ref × Name)) (profile : Option Profile) (count : ℕ) (args : List Name → Typed Terms) (f : Form) →
    Answers (elab_atom p place profile count args) f →
    ((wants : List Name) (us : Terms) → profile ≡ Some (Pred wants) → count ≡ length wants → Answers (args wants) us → P (Form.Atom p us)) → P f
from_atom P p None (Some (Pred wants)) count args f e k =
    let fits = from_if (count == length wants) (and_then (args wants) (λ us. Ok (Form.Atom p us))) (TypeFault.Arity p) f e in
    from_one P (Form.Atom p) (args wants) f fits.1 (λ us typed. k wants us refl (eqb-true count (length wants) fits.0) typed)
from_atom P p _ _ count args f e k = absurd (no_fault (TypeFault.Unknown p) f e)

-- a first part with a sort, and then a term of that sort
pub from_pair : {A B : Type 0} (P : B → Type 0) (f : A → Term → B) (left : Typed (A × Name)) (right : Typed (Term × Name)) (z : B) →
    Answers (and_then left (λ p. and_then (and_then right (of_sort p.1)) (λ u. Ok (f p.0 u)))) z →
    ((p : A × Name) (q : Term × Name) → Answers left p → Answers right q → q.1 ≡ p.1 → P (f p.0 q.0)) → P z
from_pair P f left right z e k = from_then P left (λ p. and_then (and_then right (of_sort p.1)) (λ u. Ok (f p.0 u))) z e (λ p first rest.
    from_one P (f p.0) (and_then right (of_sort p.1)) z rest (λ u last.
    from_sorted (λ x. P (f p.0 x)) right p.1 u last (λ q is same. k p q first is same)))

pub from_place : (name : Name) (o : Option (Ref × Name)) (p : Ref × Name) → Answers (elab_place name o) p → o ≡ Some p
from_place name (Some q) p e = ap Some (from_ok q p e)
from_place name None p e = absurd (no_fault (TypeFault.Unknown name) p e)

pub from_call : (P : Prog → Type 0) (p : Name) (o : Option (Callee × Profile)) (count count_2 : ℕ) (args : List Name → Typed Terms) (names : List Name → Typed (List Ref)) (a : Prog) →
    Answers (elab_call p o count count_2 args names) a →
    ((callee : Callee) (values refs : List Name) (us : Terms) (rs : List Ref) → o ≡ Some (callee, Proc values refs) → count ≡ length values → count_2 ≡ length refs →
    Answers (args values) us → Answers (names refs) rs → P (Prog.Call callee us rs)) → P a
from_call P p (Some (callee, Proc values refs)) count count_2 args names a e k =
    let fits = from_if (count == length values && count_2 == length refs) (both (Prog.Call callee) (args values) (names refs)) (TypeFault.Arity p) a e in
    let counts = both_true (count == length values) (count_2 == length refs) fits.0 in
    from_both P (Prog.Call callee) (args values) (names refs) a fits.1 (λ us rs first last.
    k callee values refs us rs refl (eqb-true count (length values) counts.0) (eqb-true count_2 (length refs) counts.1) first last)
from_call P p _ count count_2 args names a e k = absurd (no_fault (TypeFault.Unknown p) a e)

pub from_condition : (e : RawForm) (typed : Typed Form) (f : Form) → Answers (elab_condition e typed) f → (has_program e ≡ false) × Answers typed f
from_condition e typed f h = from_unless (has_program e) typed TypeFault.Program f h
