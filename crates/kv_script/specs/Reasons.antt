-- The reasons of refusals, as an outcome shows them.
use Rattle.std.specs.Prelude.{ℕ, List, [], ◌∷◌}
use Rattle.kv_elab.specs.Faults.{TypeFault}
use Rattle.kv_prop.specs.Refusals.{Refusal}
use Rattle.kv_names.specs.Names.{Name}
use Rattle.kv_syn.specs.declared.outcomes.Reason.{Reason}
use Rattle.kv_table.specs.Reasons as reason

-- a row of the table of reasons, with the names that it speaks of
abbrev pub reason_with : ℕ → List Name → Reason
reason_with word names = record { word = word; names = names }

-- the reason of a rule's refusal
abbrev pub refusal_reason : Refusal → Reason
refusal_reason Refusal.Position = reason_with reason.POSITION []
refusal_reason Refusal.Shape = reason_with reason.SHAPE []
refusal_reason (Refusal.Sort want got) = reason_with reason.SORT (want ∷ got ∷ [])
refusal_reason (Refusal.NoLabel label) = reason_with reason.LABEL (label ∷ [])
refusal_reason (Refusal.NoBody name) = reason_with reason.BODY (name ∷ [])
refusal_reason (Refusal.NoGeneration sort) = reason_with reason.GENERATION (sort ∷ [])
refusal_reason (Refusal.NotFresh name) = reason_with reason.FRESH (name ∷ [])
refusal_reason Refusal.Captured = reason_with reason.CAPTURED []
refusal_reason Refusal.Large = reason_with reason.LARGE []

-- more children than premises
abbrev pub surplus_reason : Reason
surplus_reason = reason_with reason.SURPLUS []

-- a fault of typing as a reason
abbrev pub typing_reason : TypeFault → Reason
typing_reason (TypeFault.Unknown name) = reason_with reason.UNKNOWN (name ∷ [])
typing_reason (TypeFault.Arity name) = reason_with reason.ARITY (name ∷ [])
typing_reason (TypeFault.Sort want got) = reason_with reason.SORT (want ∷ got ∷ [])
typing_reason (TypeFault.Duplicate name) = reason_with reason.DUPLICATE (name ∷ [])
typing_reason TypeFault.Program = reason_with reason.PROGRAM []
