-- Changes of the code's units in their places.
use Rattle.std.specs.Prelude.{ℕ, zero, suc, Bool, List, [], ◌∷◌, ◌++◌}
use Rattle.std.specs.List.{list_any}
use Rattle.std.specs.Str.{bytes_eq}
use Rattle.kv_names.specs.Names.{Name}
use Rattle.kv_syn.specs.declared.units.Proof.{Proof}
use Rattle.kv_syn.specs.declared.units.Theorem.{Theorem}
use Rattle.kv_syn.specs.declared.units.Unit as units

abbrev pub is_unit_named : Name → units.Unit → Bool
is_unit_named name unit = bytes_eq unit.name name

abbrev pub is_proof_named : Name → Proof → Bool
is_proof_named name proof = bytes_eq proof.name name

abbrev pub has_theorem_named : Name → units.Unit → Bool
has_theorem_named name unit = list_any (λ (theorem : Theorem). bytes_eq theorem.name name) unit.theorems

-- the list with the item at that place changed, counted from 0
abbrev pub changed_at : {X : Type 0} → ℕ → (X → X) → List X → List X
changed_at place change [] = []
changed_at zero change (x ∷ xs) = change x ∷ xs
changed_at (suc place) change (x ∷ xs) = x ∷ changed_at place change xs

-- a unit with one theorem more, with one proof more, with another proof at a place
abbrev pub more_theorems : Theorem → units.Unit → units.Unit
more_theorems theorem unit = record unit { theorems = unit.theorems ++ theorem ∷ [] }

abbrev pub more_proofs : Proof → units.Unit → units.Unit
more_proofs proof unit = record unit { proofs = unit.proofs ++ proof ∷ [] }

abbrev pub other_proof : ℕ → Proof → units.Unit → units.Unit
other_proof place proof unit = record unit { proofs = changed_at place (λ _. proof) unit.proofs }
