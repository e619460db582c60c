-- Look-ups by name in a unit.
use Rattle.std.specs.Prelude.{◌≡◌, ℕ, List, Option}
use Rattle.std.specs.Borrow.{Bor}
use Rattle.std.specs.HashMap.{HashMap, get_by}
use Rattle.std.specs.HashSet.{HashSet, contains_by}
use Rattle.std.specs.List.{find}
use Rattle.std.specs.Option.{option_map}
use Rattle.std.specs.Str.{bytes_eq}
use Rattle.kv_fresh.specs.States.{is_theorem}
use Rattle.kv_syn.specs.ProjectBridge.{plain_proof}
use Rattle.kv_syn.specs.Projects as P
use Rattle.kv_names.specs.Names.{Name}
use Rattle.kv_syn.specs.declared.units.Proof.{Proof}

-- the proof that an index leads to from a name
abbrev pub told : {S : Type 0} → HashMap (Bor (List ℕ)) (Bor Proof) S → Name → Option P.Proof
told index name = option_map (λ (proof : Bor Proof). plain_proof proof.now) (get_by (λ (key : Bor (List ℕ)). bytes_eq name key.now) index)

-- from each name it leads to the first of the proofs that has the name
unfoldable pub LeadsToFirst : {S : Type 0} → List P.Proof → HashMap (Bor (List ℕ)) (Bor Proof) S → Type 0
LeadsToFirst proofs index = (name : Name) → told index name ≡ find (λ (proof : P.Proof). bytes_eq proof.name name) proofs

-- the names are those of the theorems
unfoldable pub AreNamesOf : {S : Type 0} → List P.Theorem → HashSet (Bor (List ℕ)) S → Type 0
AreNamesOf theorems names = (name : Name) → contains_by (λ (key : Bor (List ℕ)). bytes_eq name key.now) names ≡ is_theorem theorems name
