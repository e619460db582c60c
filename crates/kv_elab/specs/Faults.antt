-- Why a tree has no type.
use Rattle.std.specs.Prelude.{Option, Some, None}
use Rattle.kv_elab.specs.declared.errors.TypeError.{TypeError}
use Rattle.kv_elab.specs.declared.errors.TypeError.TheVariants as error
use Rattle.kv_names.specs.Names.{Name}

pub data TypeFault : Type 0 where
  Unknown : (name : Name) → TypeFault
  Arity : (name : Name) → TypeFault
  Sort : (want got : Name) → TypeFault
  Duplicate : (name : Name) → TypeFault
  Program : TypeFault

-- an error of the code as a fault; want of memory is none
abbrev pub plain_fault : TypeError → Option TypeFault
plain_fault (error.Unknown name) = Some (TypeFault.Unknown name)
plain_fault (error.Arity name) = Some (TypeFault.Arity name)
plain_fault (error.Sort want got) = Some (TypeFault.Sort want got)
plain_fault (error.Duplicate name) = Some (TypeFault.Duplicate name)
plain_fault error.Program = Some TypeFault.Program
plain_fault error.NoMemory = None
