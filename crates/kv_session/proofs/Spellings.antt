-- An accepted edit leads from a project that texts can spell to one.
use Rattle.std.proofs.Common.{◌≡◌, Bool, true, false, List, [], ◌∷◌, Ok, sym, subst}
use Rattle.std.specs.Prelude.{cond}
use Rattle.std.specs.List.{All}
use Rattle.std.specs.Str.{bytes_eq}
use Rattle.std.proofs.lemmas.List.Elements.{All-cons, All-head, All-nil, All-push, All-tail}
use Rattle.kv_session.proofs.Keeping.{added_ok, all_changed, keeps_few_steps, keeps_wellformed, leads_to_few_theorems, leads_to_few_units, limited_ok, proof_ok, theorem_ok}
use Rattle.kv_session.specs.Edits.{Edit, edited, made, proofs_with, unit_named, with_proof, with_theorem}
use Rattle.kv_session.specs.Kept.{IsSpelt}
use Rattle.kv_session.specs.Spellable.{IsHead, IsProof, IsSpellable, IsSpellableEdit, IsTheorem, IsUnit}
use Rattle.kv_syn.specs.Projects as P

head_unit : (unit : P.Unit) → IsHead unit → IsUnit unit
head_unit unit is = record {
  name = is.name;
  kind = is.kind;
  theorems = subst (All IsTheorem) (sym is.no_theorems) (All-nil IsTheorem);
  proofs = subst (All IsProof) (sym is.no_proofs) (All-nil IsProof);
}

unit_with_theorem : (theorem : P.Theorem) (unit : P.Unit) → IsTheorem theorem → IsUnit unit → IsUnit (with_theorem theorem unit)
unit_with_theorem theorem unit is kept = record { name = kept.name; kind = kept.kind; theorems = All-push IsTheorem unit.theorems theorem kept.theorems is; proofs = kept.proofs }

proof_case : (b : Bool) (proof other : P.Proof) (rest : List P.Proof) → IsProof proof → All IsProof (other ∷ rest) → All IsProof (proofs_with proof rest) → All IsProof (cond b (proof ∷ rest) (other ∷ proofs_with proof rest))
proof_case true proof other rest is all more = All-cons IsProof proof rest is (All-tail IsProof other rest all)
proof_case false proof other rest is all more = All-cons IsProof other (proofs_with proof rest) (All-head IsProof other rest all) more

all_with : (proof : P.Proof) (proofs : List P.Proof) → IsProof proof → All IsProof proofs → All IsProof (proofs_with proof proofs)
all_with proof [] is all = All-cons IsProof proof [] is all
all_with proof (other ∷ rest) is all = proof_case (bytes_eq other.name proof.name) proof other rest is all (all_with proof rest is (All-tail IsProof other rest all))

unit_with_proof : (proof : P.Proof) (unit : P.Unit) → IsProof proof → IsUnit unit → IsUnit (with_proof proof unit)
unit_with_proof proof unit is kept = record { name = kept.name; kind = kept.kind; theorems = kept.theorems; proofs = all_with proof unit.proofs is kept.proofs }

units_edited : (old new : P.Project) (edit : Edit) → IsSpellableEdit edit → edited old edit ≡ Ok new → All IsUnit old → All IsUnit new
units_edited old new (Edit.Add unit) is e kept =
    let (made_is, fits) = limited_ok (made old (Edit.Add unit)) new e in
    let (none, same) = added_ok old unit (unit_named unit.name old) new made_is in
    subst (All IsUnit) same (All-push IsUnit old unit kept (head_unit unit is))
units_edited old new (Edit.Theorem name theorem) is e kept =
    let (made_is, fits) = limited_ok (made old (Edit.Theorem name theorem)) new e in
    let (unit, found, differs, same) = theorem_ok old name theorem (unit_named name old) new made_is in
    subst (All IsUnit) same (all_changed IsUnit name (with_theorem theorem) old (λ u at. unit_with_theorem theorem u is) kept)
units_edited old new (Edit.Proof name proof) is e kept =
    let (made_is, fits) = limited_ok (made old (Edit.Proof name proof)) new e in
    subst (All IsUnit) (proof_ok old name proof (unit_named name old) new made_is) (all_changed IsUnit name (with_proof proof) old (λ u at. unit_with_proof proof u is.0) kept)

spelt : (edit : Edit) → IsSpellableEdit edit → IsSpelt edit
spelt (Edit.Add unit) is = (is.no_theorems, is.no_proofs)
spelt (Edit.Theorem name theorem) is = tt
spelt (Edit.Proof name proof) is = is.1

pub stays_spellable : (old new : P.Project) (edit : Edit) → IsSpellableEdit edit → edited old edit ≡ Ok new → IsSpellable old → IsSpellable new
stays_spellable old new edit is e kept = record {
  units = units_edited old new edit is e kept.units;
  wellformed = keeps_wellformed old new edit (spelt edit is) e kept.wellformed;
  few_steps = keeps_few_steps old new edit (spelt edit is) e kept.few_steps;
  few_units = leads_to_few_units old new edit e;
  few_theorems = leads_to_few_theorems old new edit e;
}
