-- What the calls of a source, a sink and a store do to what these tell.
use Rattle.std.specs.Prelude.{◌≡◌, ◌⊎◌, ◌<◌, ◌≤◌, ◌-◌, ◌^◌, ℕ, List, ◌++◌, take, length, Option, Some, Result, Ok, Err, IfOk, IfSome, IsSomeAnd}
use Rattle.kv_io.specs.declared.outside.LoadError.{LoadError}
use Rattle.kv_io.specs.declared.outside.LoadError.TheVariants.{Failed, TooLong, NoMemory}
use Rattle.kv_io.specs.Limits.{file_limit}

-- a count of faults rose in a call, or stands at the greatest number of 64 bits
abbrev pub Rose : ℕ → ℕ → Type 0
Rose before now = (before < now) ⊎ (2 ^ 64 - 1 ≤ now)

-- where the bytes to come are told, the piece was taken from their front
pub record Takes (old : Option (List ℕ)) (piece : List ℕ) (new : Option (List ℕ)) : Type 0 where
  pub told : IfSome old (λ bytes. (rest : List ℕ) × (new ≡ Some rest) × (bytes ≡ piece ++ rest))

-- where the bytes taken are told, the piece was added to them
pub record Adds (old : Option (List ℕ)) (piece : List ℕ) (new : Option (List ℕ)) : Type 0 where
  pub told : IfSome old (λ bytes. new ≡ Some (bytes ++ piece))

-- where the bytes taken are told, some front of the piece was added to them, perhaps nothing
pub record AddsFront (old : Option (List ℕ)) (piece : List ℕ) (new : Option (List ℕ)) : Type 0 where
  pub told : IfSome old (λ bytes. (n : ℕ) × (n ≤ length piece) × (new ≡ Some (bytes ++ take n piece)))

-- what a load may answer, where there is no file or a file of these bytes
abbrev pub Loads : Option (List ℕ) → Result (Option (List ℕ)) LoadError → Type 0
Loads file (Ok loaded) = file ≡ loaded
Loads file (Err Failed) = Unit {0}
Loads file (Err TooLong) = IsSomeAnd file (λ bytes. file_limit < length bytes)
Loads file (Err NoMemory) = Unit {0}

-- a loaded file has at most so many bytes
abbrev pub LoadsAtMost : ℕ → Result (Option (List ℕ)) LoadError → Type 0
LoadsAtMost most result = IfOk result (λ loaded. IfSome loaded (λ bytes. length bytes ≤ most))
