-- Accepted edits keep the names different, the scripts short, and the units and theorems few.
use Rattle.std.proofs.Common.{◌≡◌, ◌≤◌, Bool, true, false, List, [], ◌∷◌, ◌++◌, map, length, Option, Some, None, Result, Ok, Err, refl, sym, ap, ap₂, ◌∙◌, subst}
use Rattle.std.specs.Prelude.{cond, nat_lt, ◌||◌}
use Rattle.std.specs.List.{All, AllByRecursion, IsDistinct, list_any}
use Rattle.std.specs.Str.{bytes_eq}
use Rattle.std.proofs.lemmas.Bool.{ltb-false}
use Rattle.std.proofs.lemmas.Cmp.{nat_list_eq_equiv}
use Rattle.std.proofs.lemmas.List.{map-append}
use Rattle.std.proofs.lemmas.List.Elements.{All-cons, All-head, All-nil, All-push, All-tail}
use Rattle.std.proofs.lemmas.Map.Keys.{IsDistinct-cons, IsDistinct-head, IsDistinct-push, IsDistinct-tail}
use Rattle.std.proofs.lemmas.Slice.Eq.{bytes_eq-Decides}
use Rattle.kv_punit.specs.Limits.{AreDifferent, HasFewSteps, HasFewTheorems, HasFewUnits, HasDifferentNames, IsWellformed, script_steps, theorem_count, theorem_names, unit_names}
use Rattle.kv_session.proofs.Found.{some_is}
use Rattle.kv_session.specs.declared.errors.Refusal.{Refusal}
use Rattle.kv_session.specs.Edits.{Edit, added, changed_unit, has_theorem, is_long, limited, made, proof_put, proofs_with, theorem_added, unit_named, with_proof, with_theorem, within_limits}
use Rattle.kv_session.specs.Kept.{Keeps, LeadsTo}
use Rattle.kv_syn.specs.Projects as P
use Rattle.kv_names.specs.Names.{Name}

-- ---- what an accepted edit was

-- an accepted choice took its second way
accepted_case : {new : P.Project} (b : Bool) (refusal : Refusal) (rest : Result P.Project Refusal) → cond b (Err refusal) rest ≡ Ok new → (b ≡ false) × (rest ≡ Ok new)
accepted_case true refusal rest e = absurd (cc)
accepted_case false refusal rest e = (refl, e)

-- a project within its limits
pub record IsWithin (project : P.Project) : Type 0 where
  units : length project ≤ 500
  theorems : theorem_count project ≤ 5000

within : (project new : P.Project) → within_limits project ≡ Ok new → (project ≡ new) × IsWithin project
within project new e =
    let (few_units, e') = accepted_case (nat_lt 500 (length project)) _ _ e in
    let (few_theorems, e'') = accepted_case (nat_lt 5000 (theorem_count project)) _ _ e' in
    let (_, is) = accepted_case (is_long project) _ _ e'' in
    (cc, record { units = ltb-false 500 (length project) few_units; theorems = ltb-false 5000 (theorem_count project) few_theorems })

pub limited_ok : (result : Result P.Project Refusal) (new : P.Project) → limited result ≡ Ok new → (result ≡ Ok new) × IsWithin new
limited_ok (Ok project) new e = let (same, fits) = within project new e in (ap Ok same, subst IsWithin same fits)
limited_ok (Err refusal) new e = absurd (cc)

-- ---- units that are changed

all_case : (Is : P.Unit → Type 0) (b : Bool) (name : Name) (change : P.Unit → P.Unit) (unit : P.Unit) (rest : P.Project) (f : Option P.Unit)
    → ((u : P.Unit) → cond b (Some unit) f ≡ Some u → Is u → Is (change u)) → Is unit → All Is rest → (((u : P.Unit) → f ≡ Some u → Is u → Is (change u)) → All Is (changed_unit name change rest))
    → All Is (cond b (change unit ∷ rest) (unit ∷ changed_unit name change rest))
all_case Is true name change unit rest f keeps first others changed = All-cons Is (change unit) rest (keeps unit refl first) others
all_case Is false name change unit rest f keeps first others changed = All-cons Is unit (changed_unit name change rest) first (changed keeps)

-- what is told of each unit stays told, if the change keeps it for the unit of that name
pub all_changed : (Is : P.Unit → Type 0) (name : Name) (change : P.Unit → P.Unit) (project : P.Project) → ((u : P.Unit) → unit_named name project ≡ Some u → Is u → Is (change u)) → All Is project → All Is (changed_unit name change project)
all_changed Is name change [] keeps all = all
all_changed Is name change (unit ∷ rest) keeps all =
    all_case Is (bytes_eq unit.name name) name change unit rest (unit_named name rest) keeps (All-head Is unit rest all) (All-tail Is unit rest all)
    (λ keeps'. all_changed Is name change rest keeps' (All-tail Is unit rest all))

names_case : (b : Bool) (name : Name) (change : P.Unit → P.Unit) (unit : P.Unit) (rest : P.Project) → (change unit).name ≡ unit.name → unit_names (changed_unit name change rest) ≡ unit_names rest
    → unit_names (cond b (change unit ∷ rest) (unit ∷ changed_unit name change rest)) ≡ unit.name ∷ unit_names rest
names_case true name change unit rest same others = ap (λ n. n ∷ unit_names rest) same
names_case false name change unit rest same others = ap (λ ns. unit.name ∷ ns) others

names_changed : (name : Name) (change : P.Unit → P.Unit) (project : P.Project) → ((u : P.Unit) → (change u).name ≡ u.name) → unit_names (changed_unit name change project) ≡ unit_names project
names_changed name change [] same = refl
names_changed name change (unit ∷ rest) same = names_case (bytes_eq unit.name name) name change unit rest (same unit) (names_changed name change rest same)

-- ---- names that differ

any_case : (b c : Bool) {X : Type 0} (x : X) (f : Option X) (others : Bool) → c ≡ b → (f ≡ None → others ≡ false) → cond b (Some x) f ≡ None → (c || others) ≡ false
any_case true c x f others same rest e = absurd (cc)
any_case false c x f others same rest e = rw same (rest e)

-- no unit has the name
no_name : (name : Name) (project : P.Project) → unit_named name project ≡ None → list_any (bytes_eq name) (unit_names project) ≡ false
no_name name [] e = refl
no_name name (unit ∷ rest) e = any_case (bytes_eq unit.name name) (bytes_eq name unit.name) unit (unit_named name rest) (list_any (bytes_eq name) (unit_names rest)) (nat_list_eq_equiv.symm name unit.name) (no_name name rest) e

no_theorem : (name : Name) (theorems : List P.Theorem) → list_any (λ (theorem : P.Theorem). bytes_eq theorem.name name) theorems ≡ list_any (bytes_eq name) (map (λ (theorem : P.Theorem). theorem.name) theorems)
no_theorem name [] = refl
no_theorem name (theorem ∷ rest) = ap₂ (λ a b. a || b) (nat_list_eq_equiv.symm theorem.name name) (no_theorem name rest)

none_differ : AreDifferent []
unfolding IsDistinct
none_differ = tt

abbrev names : List P.Proof → List Name
names proofs = map (λ (proof : P.Proof). proof.name) proofs

named_case : (b : Bool) (Is : Name → Type 0) (proof other : P.Proof) (rest : List P.Proof) → Is proof.name → AllByRecursion Is (names (other ∷ rest)) → AllByRecursion Is (names (proofs_with proof rest))
    → AllByRecursion Is (names (cond b (proof ∷ rest) (other ∷ proofs_with proof rest)))
named_case true Is proof other rest is all more = (is, all.1)
named_case false Is proof other rest is all more = (all.0, more)

-- what is told of the names of the proofs and of one more name
all_named : (Is : Name → Type 0) (proof : P.Proof) (proofs : List P.Proof) → Is proof.name → AllByRecursion Is (names proofs) → AllByRecursion Is (names (proofs_with proof proofs))
all_named Is proof [] is all = (is, tt)
all_named Is proof (other ∷ rest) is all = named_case (bytes_eq other.name proof.name) Is proof other rest is all (all_named Is proof rest is all.1)

different_case : (b : Bool) (proof other : P.Proof) (rest : List P.Proof) → bytes_eq other.name proof.name ≡ b → AreDifferent (names (other ∷ rest)) → AreDifferent (names (proofs_with proof rest))
    → AreDifferent (names (cond b (proof ∷ rest) (other ∷ proofs_with proof rest)))
different_case true proof other rest is differ more = subst (λ n. AreDifferent (n ∷ names rest)) ((bytes_eq-Decides other.name proof.name).0 is) differ
different_case false proof other rest is differ more =
    IsDistinct-cons bytes_eq other.name (names (proofs_with proof rest)) (all_named (λ n. bytes_eq other.name n ≡ false) proof rest is (IsDistinct-head bytes_eq other.name (names rest) differ)) more

different_with : (proof : P.Proof) (proofs : List P.Proof) → AreDifferent (names proofs) → AreDifferent (names (proofs_with proof proofs))
different_with proof [] differ = IsDistinct-cons bytes_eq proof.name [] tt none_differ
different_with proof (other ∷ rest) differ =
    different_case (bytes_eq other.name proof.name) proof other rest refl differ (different_with proof rest (IsDistinct-tail bytes_eq other.name (names rest) differ))

-- ---- units with a theorem or proof more

names_of_none : (unit : P.Unit) → unit.theorems ≡ [] → unit.proofs ≡ [] → HasDifferentNames unit
names_of_none unit no_theorems no_proofs = record {
  theorems = subst (λ (ts : List P.Theorem). AreDifferent (map (λ (theorem : P.Theorem). theorem.name) ts)) (sym no_theorems) none_differ;
  proofs = subst (λ (ps : List P.Proof). AreDifferent (names ps)) (sym no_proofs) none_differ;
}

names_with_theorem : (theorem : P.Theorem) (unit : P.Unit) → has_theorem theorem.name unit ≡ false → HasDifferentNames unit → HasDifferentNames (with_theorem theorem unit)
names_with_theorem theorem unit new differ = record {
  theorems = subst AreDifferent (sym (map-append (λ (t : P.Theorem). t.name) unit.theorems (theorem ∷ [])))
      (IsDistinct-push nat_list_eq_equiv (theorem_names unit) theorem.name differ.theorems (sym (no_theorem theorem.name unit.theorems) ∙ new));
  proofs = differ.proofs;
}

names_with_proof : (proof : P.Proof) (unit : P.Unit) → HasDifferentNames unit → HasDifferentNames (with_proof proof unit)
names_with_proof proof unit differ = record { theorems = differ.theorems; proofs = different_with proof unit.proofs differ.proofs }

abbrev IsShortProof : P.Proof → Type 0
IsShortProof proof = script_steps proof.script ≤ 50000

abbrev IsShort : P.Unit → Type 0
IsShort unit = All IsShortProof unit.proofs

short_case : (b : Bool) (proof other : P.Proof) (rest : List P.Proof) → IsShortProof proof → All IsShortProof (other ∷ rest) → All IsShortProof (proofs_with proof rest) → All IsShortProof (cond b (proof ∷ rest) (other ∷ proofs_with proof rest))
short_case true proof other rest short all more = All-cons IsShortProof proof rest short (All-tail IsShortProof other rest all)
short_case false proof other rest short all more = All-cons IsShortProof other (proofs_with proof rest) (All-head IsShortProof other rest all) more

short_with : (proof : P.Proof) (proofs : List P.Proof) → IsShortProof proof → All IsShortProof proofs → All IsShortProof (proofs_with proof proofs)
short_with proof [] short all = All-cons IsShortProof proof [] short all
short_with proof (other ∷ rest) short all = short_case (bytes_eq other.name proof.name) proof other rest short all (short_with proof rest short (All-tail IsShortProof other rest all))

-- ---- what each edit was

pub added_ok : (old : P.Project) (unit : P.Unit) (f : Option P.Unit) (new : P.Project) → added old unit f ≡ Ok new → (f ≡ None) × (old ++ unit ∷ [] ≡ new)
added_ok old unit None new e = (refl, cc)
added_ok old unit (Some other) new e = absurd (cc)

pub theorem_ok : (old : P.Project) (name : Name) (theorem : P.Theorem) (f : Option P.Unit) (new : P.Project) → theorem_added old name theorem f ≡ Ok new
    → (unit : P.Unit) × (f ≡ Some unit) × (has_theorem theorem.name unit ≡ false) × (changed_unit name (with_theorem theorem) old ≡ new)
theorem_ok old name theorem None new e = absurd (cc)
theorem_ok old name theorem (Some unit) new e = let (differs, is) = accepted_case (has_theorem theorem.name unit) _ _ e in (unit, refl, differs, cc)

pub proof_ok : (old : P.Project) (name : Name) (proof : P.Proof) (f : Option P.Unit) (new : P.Project) → proof_put old name proof f ≡ Ok new → changed_unit name (with_proof proof) old ≡ new
proof_ok old name proof None new e = absurd (cc)
proof_ok old name proof (Some unit) new e = cc

-- ---- the laws

wellformed_more : (old : P.Project) (unit : P.Unit) → unit_named unit.name old ≡ None → HasDifferentNames unit → IsWellformed old → IsWellformed (old ++ unit ∷ [])
wellformed_more old unit none names_differ kept = record {
  units = subst AreDifferent (sym (map-append (λ (u : P.Unit). u.name) old (unit ∷ []))) (IsDistinct-push nat_list_eq_equiv (unit_names old) unit.name kept.units (no_name unit.name old none));
  each = All-push HasDifferentNames old unit kept.each names_differ;
}

wellformed_changed : (name : Name) (change : P.Unit → P.Unit) (old : P.Project) → ((u : P.Unit) → (change u).name ≡ u.name) → ((u : P.Unit) → unit_named name old ≡ Some u → HasDifferentNames u → HasDifferentNames (change u)) → IsWellformed old → IsWellformed (changed_unit name change old)
wellformed_changed name change old same keeps kept = record {
  units = subst AreDifferent (sym (names_changed name change old same)) kept.units;
  each = all_changed HasDifferentNames name change old keeps kept.each;
}

pub keeps_wellformed : Keeps IsWellformed
keeps_wellformed old new (Edit.Add unit) spelt e kept =
    let (made_is, fits) = limited_ok (made old (Edit.Add unit)) new e in
    let (none, is) = added_ok old unit (unit_named unit.name old) new made_is in
    subst IsWellformed is (wellformed_more old unit none (names_of_none unit spelt.0 spelt.1) kept)
keeps_wellformed old new (Edit.Theorem name theorem) spelt e kept =
    let (made_is, fits) = limited_ok (made old (Edit.Theorem name theorem)) new e in
    let (unit, found, differs, is) = theorem_ok old name theorem (unit_named name old) new made_is in
    subst IsWellformed is (wellformed_changed name (with_theorem theorem) old (λ u. refl)
    (λ u at. names_with_theorem theorem u (ap (has_theorem theorem.name) (some_is (sym at ∙ found)) ∙ differs)) kept)
keeps_wellformed old new (Edit.Proof name proof) spelt e kept =
    let (made_is, fits) = limited_ok (made old (Edit.Proof name proof)) new e in
    subst IsWellformed (proof_ok old name proof (unit_named name old) new made_is) (wellformed_changed name (with_proof proof) old (λ u. refl) (λ u at. names_with_proof proof u) kept)

pub keeps_few_steps : Keeps HasFewSteps
keeps_few_steps old new (Edit.Add unit) spelt e kept =
    let (made_is, fits) = limited_ok (made old (Edit.Add unit)) new e in
    let (none, is) = added_ok old unit (unit_named unit.name old) new made_is in
    subst (All IsShort) is (All-push IsShort old unit kept (subst (All IsShortProof) (sym spelt.1) (All-nil IsShortProof)))
keeps_few_steps old new (Edit.Theorem name theorem) spelt e kept =
    let (made_is, fits) = limited_ok (made old (Edit.Theorem name theorem)) new e in
    let (unit, found, differs, is) = theorem_ok old name theorem (unit_named name old) new made_is in
    subst (All IsShort) is (all_changed IsShort name (with_theorem theorem) old (λ u at short. short) kept)
keeps_few_steps old new (Edit.Proof name proof) spelt e kept =
    let (made_is, fits) = limited_ok (made old (Edit.Proof name proof)) new e in
    subst (All IsShort) (proof_ok old name proof (unit_named name old) new made_is) (all_changed IsShort name (with_proof proof) old (λ u at. short_with proof u.proofs spelt) kept)

pub leads_to_few_units : LeadsTo HasFewUnits
leads_to_few_units old new edit e = let (made_is, fits) = limited_ok (made old edit) new e in fits.units

pub leads_to_few_theorems : LeadsTo HasFewTheorems
leads_to_few_theorems old new edit e = let (made_is, fits) = limited_ok (made old edit) new e in fits.theorems
