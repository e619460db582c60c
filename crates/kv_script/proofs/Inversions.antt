-- What an answer of the rules says that isn't a refusal.
use Rattle.std.proofs.Common.{ℕ, Bool, true, false, ◌&&◌, ◌==◌, not, if◌then◌else◌, List, [], ◌∷◌, Option, Some, None, Ok, Err, ◌≡◌, refl, sym, ap}
use Rattle.std.specs.Str.{bytes_eq}
use Rattle.std.proofs.lemmas.Bool.{eqb-false}
use Rattle.kv_trees.specs.Same.{form_eq}
use Rattle.kv_names.specs.Names.{Name}
use Rattle.kv_trees.specs.Trees.{Term, Form, Sequent}
use Rattle.kv_syn.specs.declared.scripts.Side.{Side}
use Rattle.kv_syn.specs.declared.scripts.Side.TheVariants.{L, R}
use Rattle.kv_trees.proofs.Same.{name_is}
use Rattle.kv_prop.specs.Refusals.{Refusal}
use Rattle.kv_calc.specs.Calculus.{IsElsewhere}
use Rattle.kv_prop.specs.Premises.{Premises, or_position, elsewhere, as_false, as_true, as_not, as_and, as_or, as_imp, as_iff, as_all, as_ex, as_equal, changed, or_sort, or_label, or_fresh, or_captured, one, two, fits}
use Rattle.kv_prop.specs.Replacing.{replaced_form}

abbrev pub okay : List Sequent → Premises
okay ps = Ok ps

pub ok_is : (ps qs : List Sequent) → okay ps ≡ okay qs → qs ≡ ps
ok_is ps qs e = cc

pub position_ok : (o : Option Form) (next : Form → Premises) (ps : List Sequent) → or_position o next ≡ okay ps → (f : Form) × (o ≡ Some f) × (next f ≡ okay ps)
position_ok (Some f) next ps e = (f, refl, e)
position_ok None next ps e = cc

pub when_ok : (t : Bool) (answer : Premises) (r : Refusal) (ps : List Sequent) → (if t then answer else Err r) ≡ okay ps → (t ≡ true) × (answer ≡ okay ps)
when_ok true answer r ps e = (refl, e)
when_ok false answer r ps e = cc

pub one_ok : (U : Sequent) (ps : List Sequent) → one U ≡ okay ps → ps ≡ U ∷ []
one_ok U ps e = ok_is (U ∷ []) ps (when_ok (fits U) (okay (U ∷ [])) _ ps e).1

pub two_ok : (U W : Sequent) (ps : List Sequent) → two U W ≡ okay ps → ps ≡ U ∷ W ∷ []
two_ok U W ps e = ok_is (U ∷ W ∷ []) ps (when_ok (fits U && fits W) (okay (U ∷ W ∷ [])) _ ps e).1

pub false_ok : (f : Form) (next : Premises) (ps : List Sequent) → as_false f next ≡ okay ps → (f ≡ Form.False) × (next ≡ okay ps)
false_ok Form.False next ps e = (refl, e)
false_ok _ next ps e = cc

pub true_ok : (f : Form) (next : Premises) (ps : List Sequent) → as_true f next ≡ okay ps → (f ≡ Form.True) × (next ≡ okay ps)
true_ok Form.True next ps e = (refl, e)
true_ok _ next ps e = cc

pub not_ok : (f : Form) (next : Form → Premises) (ps : List Sequent) → as_not f next ≡ okay ps → (a : Form) × (f ≡ Form.Not a) × (next a ≡ okay ps)
not_ok (Form.Not a) next ps e = (a, refl, e)
not_ok _ next ps e = cc

pub and_ok : (f : Form) (next : Form → Form → Premises) (ps : List Sequent) → as_and f next ≡ okay ps → (a : Form) × (b : Form) × (f ≡ Form.And a b) × (next a b ≡ okay ps)
and_ok (Form.And a b) next ps e = (a, b, refl, e)
and_ok _ next ps e = cc

pub or_ok : (f : Form) (next : Form → Form → Premises) (ps : List Sequent) → as_or f next ≡ okay ps → (a : Form) × (b : Form) × (f ≡ Form.Or a b) × (next a b ≡ okay ps)
or_ok (Form.Or a b) next ps e = (a, b, refl, e)
or_ok _ next ps e = cc

pub imp_ok : (f : Form) (next : Form → Form → Premises) (ps : List Sequent) → as_imp f next ≡ okay ps → (a : Form) × (b : Form) × (f ≡ Form.Imp a b) × (next a b ≡ okay ps)
imp_ok (Form.Imp a b) next ps e = (a, b, refl, e)
imp_ok _ next ps e = cc

pub iff_ok : (f : Form) (next : Form → Form → Premises) (ps : List Sequent) → as_iff f next ≡ okay ps → (a : Form) × (b : Form) × (f ≡ Form.Iff a b) × (next a b ≡ okay ps)
iff_ok (Form.Iff a b) next ps e = (a, b, refl, e)
iff_ok _ next ps e = cc

pub equal_ok : (f : Form) (next : Term → Term → Premises) (ps : List Sequent) → as_equal f next ≡ okay ps → (t : Term) × (u : Term) × (f ≡ Form.Equal t u) × (next t u ≡ okay ps)
equal_ok (Form.Equal t u) next ps e = (t, u, refl, e)
equal_ok _ next ps e = cc

pub all_ok : (f : Form) (next : Name → Form → Premises) (ps : List Sequent) → as_all f next ≡ okay ps → (s : Name) × (a : Form) × (f ≡ Form.All s a) × (next s a ≡ okay ps)
all_ok (Form.All s a) next ps e = (s, a, refl, e)
all_ok _ next ps e = cc

pub ex_ok : (f : Form) (next : Name → Form → Premises) (ps : List Sequent) → as_ex f next ≡ okay ps → (s : Name) × (a : Form) × (f ≡ Form.Ex s a) × (next s a ≡ okay ps)
ex_ok (Form.Ex s a) next ps e = (s, a, refl, e)
ex_ok _ next ps e = cc

pub sort_ok : (want : Name) (o : Option Name) (next : Premises) (ps : List Sequent) → or_sort want o next ≡ okay ps → (o ≡ Some want) × (next ≡ okay ps)
sort_ok want (Some got) next ps e = let x = when_ok (bytes_eq want got) next _ ps e in (ap Some (sym (name_is want got x.0)), x.1)
sort_ok want None next ps e = cc

pub label_ok : (l : Name) (o : Option Form) (next : Form → Premises) (ps : List Sequent) → or_label l o next ≡ okay ps → (f : Form) × (o ≡ Some f) × (next f ≡ okay ps)
label_ok l (Some f) next ps e = (f, refl, e)
label_ok l None next ps e = cc

pub fresh_ok : (x : Name) (fresh : Bool) (next : Premises) (ps : List Sequent) → or_fresh x fresh next ≡ okay ps → (fresh ≡ true) × (next ≡ okay ps)
fresh_ok x fresh next ps e = when_ok fresh next _ ps e

pub captured_ok : (o : Option Form) (next : Form → Premises) (ps : List Sequent) → or_captured o next ≡ okay ps → (f : Form) × (o ≡ Some f) × (next f ≡ okay ps)
captured_ok (Some f) next ps e = (f, refl, e)
captured_ok None next ps e = cc

pub unless_ok : (t : Bool) (answer : Premises) (r : Refusal) (ps : List Sequent) → (if t then Err r else answer) ≡ okay ps → (t ≡ false) × (answer ≡ okay ps)
unless_ok true answer r ps e = cc
unless_ok false answer r ps e = (refl, e)

pub elsewhere_ok : (i : ℕ) (side : Side) (j : ℕ) (next : Premises) (ps : List Sequent) → elsewhere i side j next ≡ okay ps → IsElsewhere i side j × (next ≡ okay ps)
elsewhere_ok i L j next ps e = let x = unless_ok (i == j) next _ ps e in ((λ same. eqb-false i j x.0 same), x.1)
elsewhere_ok i R j next ps e = (tt, e)

pub changed_ok : (t u : Term) (f : Form) (next : Form → Premises) (ps : List Sequent) → changed t u f next ≡ okay ps → next (replaced_form t u 0 f) ≡ okay ps
changed_ok t u f next ps e = (when_ok (not (form_eq (replaced_form t u 0 f) f)) (next (replaced_form t u 0 f)) _ ps e).1
