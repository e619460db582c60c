-- What the code makes of the units is what the edit makes of the project.
use Rattle.std.proofs.Common.{ℕ, zero, suc, ◌≡◌, ◌<◌, length, Bool, true, false, List, [], ◌∷◌, ◌++◌, map, Option, Some, None, Result, Ok, Err, refl, sym, ap, ap₂, ◌∙◌, subst}
use Rattle.std.specs.List.{list_any}
use Rattle.std.specs.Prelude.{◌||◌, IsErrAnd, IsSomeAnd, cond, find, position, slice_get}
use Rattle.std.specs.Option.{option_map}
use Rattle.std.specs.Str.{bytes_eq}
use Rattle.std.proofs.lemmas.List.{map-append}
use Rattle.kv_session.proofs.Found.{IsFirst, first_below, find-first, find-map, find-none, find-some, first-position, some_is}
use Rattle.kv_session.specs.Answers.{Finds, Gives}
use Rattle.kv_session.specs.Edits as spec
use Rattle.kv_session.specs.declared.errors.EditError.{EditError}
use Rattle.kv_session.specs.declared.errors.EditError.TheVariants.{NoMemory, Refused}
use Rattle.kv_session.specs.declared.errors.Refusal.{Refusal}
use Rattle.kv_session.specs.declared.errors.Refusal.TheVariants.{Exists, Unknown}
use Rattle.kv_session.specs.Places.{changed_at, has_theorem_named, is_proof_named, is_unit_named, more_proofs, more_theorems, other_proof}
use Rattle.kv_syn.specs.Projects as P
use Rattle.kv_syn.specs.ProjectBridge.{plain_proof, plain_theorem, plain_unit}
use Rattle.kv_names.specs.Names.{Name}
use Rattle.kv_syn.specs.declared.units.Proof.{Proof}
use Rattle.kv_syn.specs.declared.units.Theorem.{Theorem}
use Rattle.kv_syn.specs.declared.units.Unit as units

-- no unit has the name
pub no_unit : (name : Name) (us : List units.Unit) → position (is_unit_named name) us ≡ None → spec.unit_named name (map plain_unit us) ≡ None
no_unit name us none = find-map (λ (unit : P.Unit). bytes_eq unit.name name) plain_unit us ∙ ap (option_map plain_unit) (find-none (is_unit_named name) us none)

-- the unit at the first place with the name
pub the_unit : (name : Name) (us : List units.Unit) (place : ℕ) (unit : units.Unit) → position (is_unit_named name) us ≡ Some place → slice_get us place ≡ Some unit → spec.unit_named name (map plain_unit us) ≡ Some (plain_unit unit)
the_unit name us place unit found at =
    find-map (λ (unit : P.Unit). bytes_eq unit.name name) plain_unit us
    ∙ ap (option_map plain_unit) (find-first (is_unit_named name) place us unit (first-position (is_unit_named name) us place found) at)

changed_unit-first : (name : Name) (g : P.Unit → P.Unit) (f : units.Unit → units.Unit) (place : ℕ) (us : List units.Unit) (unit : units.Unit) → IsFirst (is_unit_named name) place us → slice_get us place ≡ Some unit → plain_unit (f unit) ≡ g (plain_unit unit)
    → spec.changed_unit name g (map plain_unit us) ≡ map plain_unit (changed_at place f us)
changed_unit-first name g f place [] unit first at same = absurd first
changed_unit-first name g f zero (u ∷ us) unit first at same =
    rw first (let is : u ≡ unit = some_is at in ap₂ (λ a l. a ∷ l) (ap (λ v. g (plain_unit v)) is ∙ sym same ∙ ap (λ v. plain_unit (f v)) (sym is)) refl)
changed_unit-first name g f (suc place) (u ∷ us) unit first at same =
    rw first.0 (ap (λ l. plain_unit u ∷ l) (changed_unit-first name g f place us unit first.1 at same))

-- a change of the unit of that name is made at its place
pub changed_there : (name : Name) (g : P.Unit → P.Unit) (f : units.Unit → units.Unit) (us : List units.Unit) (place : ℕ) (unit : units.Unit) → position (is_unit_named name) us ≡ Some place → slice_get us place ≡ Some unit → plain_unit (f unit) ≡ g (plain_unit unit)
    → spec.changed_unit name g (map plain_unit us) ≡ map plain_unit (changed_at place f us)
changed_there name g f us place unit found at same = changed_unit-first name g f place us unit (first-position (is_unit_named name) us place found) at same

pub more_theorems_plain : (theorem : Theorem) (unit : units.Unit) → plain_unit (more_theorems theorem unit) ≡ spec.with_theorem (plain_theorem theorem) (plain_unit unit)
more_theorems_plain theorem unit = ap (λ ts. record (plain_unit unit) { theorems = ts }) (map-append plain_theorem unit.theorems (theorem ∷ []))

-- the theorems have the same names
pub has-plain : (name : Name) (unit : units.Unit) → spec.has_theorem name (plain_unit unit) ≡ has_theorem_named name unit
has-plain name unit = any_map unit.theorems
  where
    any_map : (ts : List Theorem) → list_any (λ (theorem : P.Theorem). bytes_eq theorem.name name) (map plain_theorem ts) ≡ list_any (λ (theorem : Theorem). bytes_eq theorem.name name) ts
    any_map [] = refl
    any_map (t ∷ ts) = ap (λ b. bytes_eq t.name name || b) (any_map ts)

none_with : (proof : Proof) (ps : List Proof) → find (is_proof_named proof.name) ps ≡ None → spec.proofs_with (plain_proof proof) (map plain_proof ps) ≡ map plain_proof (ps ++ proof ∷ [])
none_with proof [] none = refl
none_with proof (p ∷ ps) none = other_case (bytes_eq p.name proof.name) (none_with proof ps) none
  where
    other_case : (b : Bool) → (find (is_proof_named proof.name) ps ≡ None → spec.proofs_with (plain_proof proof) (map plain_proof ps) ≡ map plain_proof (ps ++ proof ∷ [])) → cond b (Some p) (find (is_proof_named proof.name) ps) ≡ None
        → cond b (plain_proof proof ∷ map plain_proof ps) (plain_proof p ∷ spec.proofs_with (plain_proof proof) (map plain_proof ps)) ≡ plain_proof p ∷ map plain_proof (ps ++ proof ∷ [])
    other_case true others e = absurd (cc)
    other_case false others e = ap (λ l. plain_proof p ∷ l) (others e)

-- a proof of a new name goes last
pub more_proofs_plain : (proof : Proof) (unit : units.Unit) → position (is_proof_named proof.name) unit.proofs ≡ None → plain_unit (more_proofs proof unit) ≡ spec.with_proof (plain_proof proof) (plain_unit unit)
more_proofs_plain proof unit none = ap (λ ps. record (plain_unit unit) { proofs = ps }) (sym (none_with proof unit.proofs (find-none (is_proof_named proof.name) unit.proofs none)))

first_with : (proof : Proof) (at : ℕ) (ps : List Proof) → IsFirst (is_proof_named proof.name) at ps → spec.proofs_with (plain_proof proof) (map plain_proof ps) ≡ map plain_proof (changed_at at (λ _. proof) ps)
first_with proof at [] first = absurd first
first_with proof zero (p ∷ ps) first = rw first refl
first_with proof (suc at) (p ∷ ps) first = rw first.0 (ap (λ l. plain_proof p ∷ l) (first_with proof at ps first.1))

-- a proof of a name that is there takes its place
pub other_proof_plain : (proof : Proof) (at : ℕ) (unit : units.Unit) → position (is_proof_named proof.name) unit.proofs ≡ Some at → plain_unit (other_proof at proof unit) ≡ spec.with_proof (plain_proof proof) (plain_unit unit)
other_proof_plain proof at unit found = ap (λ ps. record (plain_unit unit) { proofs = ps }) (sym (first_with proof at unit.proofs (first-position (is_proof_named proof.name) unit.proofs at found)))

-- ---- what the edits make

pub made-add : (unit : units.Unit) (us : List units.Unit) → position (is_unit_named unit.name) us ≡ None → spec.made (map plain_unit us) (spec.Edit.Add (plain_unit unit)) ≡ Ok (map plain_unit (us ++ unit ∷ []))
made-add unit us none = rw (no_unit unit.name us none) (ap Ok (sym (map-append plain_unit us (unit ∷ []))))

pub made-theorem : (name : Name) (theorem : Theorem) (us : List units.Unit) (place : ℕ) (unit : units.Unit) → position (is_unit_named name) us ≡ Some place → slice_get us place ≡ Some unit → spec.has_theorem theorem.name (plain_unit unit) ≡ false
    → spec.made (map plain_unit us) (spec.Edit.Theorem name (plain_theorem theorem)) ≡ Ok (map plain_unit (changed_at place (more_theorems theorem) us))
made-theorem name theorem us place unit found at new =
    rw (the_unit name us place unit found at) (rw new (ap Ok (changed_there name (spec.with_theorem (plain_theorem theorem)) (more_theorems theorem) us place unit found at (more_theorems_plain theorem unit))))

pub made-proof-new : (name : Name) (proof : Proof) (us : List units.Unit) (place : ℕ) (unit : units.Unit) → position (is_unit_named name) us ≡ Some place → slice_get us place ≡ Some unit → position (is_proof_named proof.name) unit.proofs ≡ None
    → spec.made (map plain_unit us) (spec.Edit.Proof name (plain_proof proof)) ≡ Ok (map plain_unit (changed_at place (more_proofs proof) us))
made-proof-new name proof us place unit found at none =
    rw (the_unit name us place unit found at) (ap Ok (changed_there name (spec.with_proof (plain_proof proof)) (more_proofs proof) us place unit found at (more_proofs_plain proof unit none)))

pub made-proof-there : (name : Name) (proof : Proof) (us : List units.Unit) (place at : ℕ) (unit : units.Unit) → position (is_unit_named name) us ≡ Some place → slice_get us place ≡ Some unit → position (is_proof_named proof.name) unit.proofs ≡ Some at
    → spec.made (map plain_unit us) (spec.Edit.Proof name (plain_proof proof)) ≡ Ok (map plain_unit (changed_at place (other_proof at proof) us))
made-proof-there name proof us place at unit found there at_proof =
    rw (the_unit name us place unit found there) (ap Ok (changed_there name (spec.with_proof (plain_proof proof)) (other_proof at proof) us place unit found there (other_proof_plain proof at unit at_proof)))

-- ---- what they are refused with

pub made-add-there : (unit : units.Unit) (us : List units.Unit) (place : ℕ) → position (is_unit_named unit.name) us ≡ Some place → spec.made (map plain_unit us) (spec.Edit.Add (plain_unit unit)) ≡ Err (Exists unit.name)
made-add-there unit us place found =
    let (other, at) = find-some (is_unit_named unit.name) place us (first-position (is_unit_named unit.name) us place found) in
    rw (the_unit unit.name us place other found at) refl

pub made-theorem-nowhere : (name : Name) (theorem : Theorem) (us : List units.Unit) → position (is_unit_named name) us ≡ None → spec.made (map plain_unit us) (spec.Edit.Theorem name (plain_theorem theorem)) ≡ Err (Unknown name)
made-theorem-nowhere name theorem us none = rw (no_unit name us none) refl

pub made-theorem-there : (name : Name) (theorem : Theorem) (us : List units.Unit) (place : ℕ) (unit : units.Unit) → position (is_unit_named name) us ≡ Some place → slice_get us place ≡ Some unit → spec.has_theorem theorem.name (plain_unit unit) ≡ true
    → spec.made (map plain_unit us) (spec.Edit.Theorem name (plain_theorem theorem)) ≡ Err (Exists (spec.dotted name theorem.name))
made-theorem-there name theorem us place unit found at there = rw (the_unit name us place unit found at) (rw there refl)

pub made-proof-nowhere : (name : Name) (proof : Proof) (us : List units.Unit) → position (is_unit_named name) us ≡ None → spec.made (map plain_unit us) (spec.Edit.Proof name (plain_proof proof)) ≡ Err (Unknown name)
made-proof-nowhere name proof us none = rw (no_unit name us none) refl

-- ---- what is asked of them next

-- the limits of what was made
pub then_limits : {X : Type 0} (view : X → P.Project) (made : Result P.Project Refusal) (next : P.Project) (result : Result X EditError) → made ≡ Ok next → Gives view (spec.within_limits next) result → Gives view (spec.limited made) result
then_limits view made next result is gives = subst (λ m. Gives view (spec.limited m) result) (sym is) gives

-- a unit that isn't there
pub unknown-theorem : {X : Type 0} (view : X → P.Project) (name : Name) (theorem : Theorem) (us : List units.Unit) (e : EditError) (result : Result X EditError) → Finds name us (Err e) → IsErrAnd result (λ x. x ≡ e)
    → Gives view (spec.made (map plain_unit us) (spec.Edit.Theorem name (plain_theorem theorem))) result
unknown-theorem view name theorem us e (Ok x) finds is = absurd is
unknown-theorem view name theorem us (Refused refusal) (Err x) finds is =
    subst (λ r. Gives view (spec.made (map plain_unit us) (spec.Edit.Theorem name (plain_theorem theorem))) (Err r)) (sym is) (made-theorem-nowhere name theorem us finds.0 ∙ ap Err (sym finds.1))
unknown-theorem view name theorem us NoMemory (Err x) finds is = subst (λ r. Gives view (spec.made (map plain_unit us) (spec.Edit.Theorem name (plain_theorem theorem))) (Err r)) (sym is) tt

pub unknown-proof : {X : Type 0} (view : X → P.Project) (name : Name) (proof : Proof) (us : List units.Unit) (e : EditError) (result : Result X EditError) → Finds name us (Err e) → IsErrAnd result (λ x. x ≡ e)
    → Gives view (spec.edited (map plain_unit us) (spec.Edit.Proof name (plain_proof proof))) result
unknown-proof view name proof us e (Ok x) finds is = absurd is
unknown-proof view name proof us (Refused refusal) (Err x) finds is =
    subst (λ r. Gives view (spec.edited (map plain_unit us) (spec.Edit.Proof name (plain_proof proof))) (Err r)) (sym is)
    (ap spec.limited (made-proof-nowhere name proof us finds.0 ∙ ap Err (sym finds.1)))
unknown-proof view name proof us NoMemory (Err x) finds is = subst (λ r. Gives view (spec.edited (map plain_unit us) (spec.Edit.Proof name (plain_proof proof))) (Err r)) (sym is) tt

-- ---- the place of a proof

-- what was found among the proofs that were read is the place among the unit's
pub proof_found : (name : Name) (unit read : units.Unit) (ps : List Proof) (found o : Option ℕ) → ps ≡ read.proofs → unit ≡ read → found ≡ position (is_proof_named name) ps → found ≡ o → position (is_proof_named name) unit.proofs ≡ o
proof_found name unit read ps found o proofs is told told_is = ap (position (is_proof_named name)) (ap (λ (u : units.Unit). u.proofs) is ∙ sym proofs) ∙ sym told ∙ told_is

pub proof_there : (name : Name) (us : List units.Unit) (place at : ℕ) (unit : units.Unit) → slice_get us place ≡ Some unit → position (is_proof_named name) unit.proofs ≡ Some at → IsSomeAnd (slice_get us place) (λ (u : units.Unit). at < length u.proofs)
proof_there name us place at unit there found =
    subst (λ (o : Option units.Unit). IsSomeAnd o (λ (u : units.Unit). at < length u.proofs)) (sym there) (first_below (is_proof_named name) at unit.proofs (first-position (is_proof_named name) unit.proofs at found))
