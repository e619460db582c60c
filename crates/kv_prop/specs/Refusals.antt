-- Why a rule refuses a step.
use Rattle.std.specs.Prelude.{Option, Some, None}
use Rattle.kv_names.specs.Names.{Name}
use Rattle.kv_sig.specs.declared.refusals.StepError.{StepError}
use Rattle.kv_sig.specs.declared.refusals.StepError.TheVariants as error

pub data Refusal : Type 0 where
  Position : Refusal
  Shape : Refusal
  Sort : (want got : Name) → Refusal
  NoLabel : (label : Name) → Refusal
  NoBody : (name : Name) → Refusal
  NoGeneration : (sort : Name) → Refusal
  NotFresh : (name : Name) → Refusal
  Captured : Refusal
  Large : Refusal

-- an error of the code as a refusal; want of memory is none
abbrev pub plain_refusal : StepError → Option Refusal
plain_refusal error.Position = Some Position
plain_refusal error.Shape = Some Shape
plain_refusal (error.Sort want got) = Some (Sort want got)
plain_refusal (error.NoLabel label) = Some (NoLabel label)
plain_refusal (error.NoBody name) = Some (NoBody name)
plain_refusal (error.NoGeneration sort) = Some (NoGeneration sort)
plain_refusal (error.NotFresh name) = Some (NotFresh name)
plain_refusal error.Captured = Some Captured
plain_refusal error.Large = Some Large
plain_refusal error.NoMemory = None
