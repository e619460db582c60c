-- What a reader of commands holds, and what its answers say of the input.
use Rattle.std.specs.Prelude.{◌≡◌, ◌⊎◌, ◌≤◌, ◌+◌, ◌-◌, ℕ, Bool, true, false, nat_le, if◌then◌else◌, List, [], ◌∷◌, ◌++◌, take, length, Option, Some, None, IfSome}
use Rattle.kv_io.specs.Framing.{Cutting, End, Cut, TooLong, at_once, and_first, framed, whole_commands}
use Rattle.kv_io.specs.Limits.{input_limit, read_size}
use Rattle.kv_io.specs.declared.lines.Next.{Next}
use Rattle.kv_io.specs.declared.lines.Next.TheVariants as N

-- the bytes that were read and not given yet, how many bytes were read in all, and whether the end of the input was seen
pub record Ahead : Type 0 where
  pub bytes : List ℕ
  pub read : ℕ
  pub ended : Bool

-- nothing was read yet
abbrev pub nothing_ahead : Ahead
nothing_ahead = record { bytes = []; read = 0; ended = false }

-- what is left to be given of an input of which some bytes were read, these are ahead, and the rest is still to come
unfoldable pub cut_within : ℕ → List ℕ → List ℕ → Cutting
cut_within read bytes rest =
    if nat_le (read + length rest) input_limit
    then framed true (bytes ++ rest)
    else framed false (bytes ++ take (input_limit - read) rest)

abbrev pub cut_left : Ahead → List ℕ → Cutting
cut_left ahead rest = if ahead.ended then framed true ahead.bytes else cut_within ahead.read ahead.bytes rest

-- whatever follows these bytes, too many stand before the next end line
abbrev pub IsTooLong : List ℕ → Type 0
IsTooLong bytes = (closed : Bool) (more : List ℕ) → framed closed (bytes ++ more) ≡ at_once TooLong

-- these bytes hold no whole command and aren't too long, so that more has to be read
pub record IsOpen (bytes : List ℕ) : Type 0 where
  pub none : whole_commands bytes ≡ []
  pub fits : ¬ (IsTooLong bytes)

-- the answer is the next of a cutting, and this is left of the cutting behind it
abbrev pub IsNext : Cutting → Next → Cutting → Type 0
IsNext cutting (N.Command command) left = cutting ≡ and_first command left
IsNext cutting N.End left = cutting ≡ at_once End
IsNext cutting N.Cut left = cutting ≡ at_once Cut
IsNext cutting N.TooLong left = cutting ≡ at_once TooLong
IsNext cutting N.ReadFault left = Unit {0}
IsNext cutting N.NoMemory left = Unit {0}

-- the answer is the next whole command of all that was taken from the source and not given, and `ReadFault` comes only
-- behind the last of them; a command that only the end of the input ends isn't among them
abbrev pub IsNextWhole : List ℕ → Next → Ahead → Type 0
IsNextWhole taken (N.Command command) new =
    new.ended ≡ false → (more : List ℕ) → whole_commands (taken ++ more) ≡ command ∷ whole_commands (new.bytes ++ more)
IsNextWhole taken N.End new = Unit {0}
IsNextWhole taken N.Cut new = Unit {0}
IsNextWhole taken N.TooLong new = Unit {0}
IsNextWhole taken N.ReadFault new = whole_commands taken ≡ []
IsNextWhole taken N.NoMemory new = Unit {0}

-- where the end of the input was seen, nothing is left of it
abbrev pub SawEnd : Ahead → List ℕ → Type 0
SawEnd ahead rest = ahead.ended ≡ true → rest ≡ []

-- the piece was read only as far as it was needed: what was held before the last read was open
abbrev pub IsNeeded : List ℕ → List ℕ → Type 0
IsNeeded bytes piece =
    (piece ≡ [])
    ⊎ ((front : List ℕ) × (last : List ℕ) × (piece ≡ front ++ last) × (length last ≤ read_size) × IsOpen (bytes ++ front))

-- what an answer says of a source that had a piece and then the rest to come, where the call took the piece
pub record Says (old : Ahead) (piece rest : List ℕ) (answer : Next) (new : Ahead) : Type 0 where
  pub next : IsNext (cut_left old (piece ++ rest)) answer (cut_left new rest)
  pub whole : IsNextWhole (old.bytes ++ piece) answer new
  pub end : SawEnd old (piece ++ rest) → SawEnd new rest
  pub needed : IsNeeded old.bytes piece

-- the same of any source, where it tells what it has to come
pub record Tells (old : Ahead) (left : Option (List ℕ)) (answer : Next) (new : Ahead) (left' : Option (List ℕ)) : Type 0 where
  pub told : IfSome left (λ input. (piece : List ℕ) × (rest : List ℕ)
      × (input ≡ piece ++ rest) × (left' ≡ Some rest) × Says old piece rest answer new)

-- how many bytes may still be given: each command takes some of them
abbrev pub room_of : Ahead → ℕ
room_of ahead = length ahead.bytes + (input_limit - ahead.read)

-- what was read ahead, and the answer that is given from now on, once one came that is no command
pub record LinesState : Type 0 where
  pub ahead : Ahead
  pub stop : Option Next

abbrev pub IsCommand : Next → Type 0
IsCommand (N.Command command) = Unit {0}
IsCommand N.End = ⊥
IsCommand N.Cut = ⊥
IsCommand N.TooLong = ⊥
IsCommand N.ReadFault = ⊥
IsCommand N.NoMemory = ⊥

-- an answer that comes only at the end of the input
abbrev pub IsEnd : Next → Type 0
IsEnd (N.Command command) = ⊥
IsEnd N.End = Unit {0}
IsEnd N.Cut = Unit {0}
IsEnd N.TooLong = ⊥
IsEnd N.ReadFault = ⊥
IsEnd N.NoMemory = ⊥

-- the answer that each later call gives, behind this one
abbrev pub stop_of : Next → Option Next
stop_of (N.Command command) = None
stop_of N.End = Some N.End
stop_of N.Cut = Some N.Cut
stop_of N.TooLong = Some N.TooLong
stop_of N.ReadFault = Some N.ReadFault
stop_of N.NoMemory = Some N.NoMemory
