-- What a reader of commands keeps from one read to the next, and what its steps find.
use Rattle.std.specs.Prelude.{◌≡◌, ◌≤◌, ◌<◌, ◌+◌, ◌-◌, ◌==◌, ◌&&◌, ℕ, Bool, true, false, if◌then◌else◌, List, [], ◌∷◌, ◌++◌, take, drop, length, Option, Some, IfSome, Result, Ok, Err}
use Rattle.kv_io.specs.Outside.{Takes}
use Rattle.kv_io.specs.Framing.{before, behind_command, split_of}
use Rattle.kv_io.specs.Lines.{Ahead, cut_left, IsNeeded, SawEnd, Tells}
use Rattle.kv_io.specs.Limits.{command_limit, input_limit, read_size}
use Rattle.kv_io.specs.declared.reading.Reading.{Reading}
use Rattle.kv_io.specs.declared.reading.Stop.{Stop}
use Rattle.kv_io.specs.declared.reading.Stop.TheVariants as S
use Rattle.kv_io.specs.declared.scan.Found.{Found}
use Rattle.kv_io.specs.declared.scan.Found.TheVariants.{Whole, Open}
use Rattle.kv_io.specs.declared.lines.Next.{Next}
use Rattle.kv_io.specs.declared.lines.Next.TheVariants as N

-- no line feed stands in these bytes
abbrev pub IsFree : List ℕ → Type 0
IsFree [] = Unit {0}
IsFree (byte ∷ bytes) = ((byte == 10) ≡ false) × IsFree bytes

-- the first line feed from one place on stands at another
pub record HasFeed (bytes : List ℕ) (from at : ℕ) : Type 0 where
  pub order : from ≤ at
  pub within : at < length bytes
  pub free : IsFree (take (at - from) (drop from bytes))
  pub here : drop at bytes ≡ 10 ∷ drop (at + 1) bytes

-- a line starts there, and no end line stands before it: whatever follows, what stands before it is of the first command
pub record StartsLine (bytes : List ℕ) (line : ℕ) : Type 0 where
  pub within : line ≤ length bytes
  pub goes_on : (closed : Bool) (more : List ℕ)
      → split_of closed (bytes ++ more) ≡ before (take line bytes) (split_of closed (drop line bytes ++ more))

-- a line starts there, and so many bytes of it have no line feed
pub record IsScanned (bytes : List ℕ) (line scanned : ℕ) : Type 0 where
  pub starts : StartsLine bytes line
  pub within : line + scanned ≤ length bytes
  pub free : IsFree (take scanned (drop line bytes))

-- the first command has so many bytes, and its end line ends before the next place
pub record HasCommand (bytes : List ℕ) (command next : ℕ) : Type 0 where
  pub order : command < next
  pub within : next ≤ length bytes
  pub goes_on : (closed : Bool) (more : List ℕ)
      → split_of closed (bytes ++ more) ≡ behind_command (take command bytes) (split_of closed (drop next bytes ++ more))

-- no end line with its line feed: a last line starts there, without a line feed
pub record IsLast (bytes : List ℕ) (line : ℕ) : Type 0 where
  pub starts : StartsLine bytes line
  pub free : IsFree (drop line bytes)

-- what is found first
abbrev pub Finds : List ℕ → Found → Type 0
Finds bytes (Whole command next) = HasCommand bytes command next
Finds bytes (Open line) = IsLast bytes line

-- whether an end line may begin so
abbrev pub may_be_full_stop : List ℕ → Bool
may_be_full_stop [] = true
may_be_full_stop (a ∷ []) = a == 46
may_be_full_stop (a ∷ b ∷ []) = a == 46 && b == 13
may_be_full_stop (a ∷ b ∷ c ∷ rest) = false

-- what a reader has ahead
abbrev pub ahead_of : Reading → Ahead
ahead_of reading = record { bytes = reading.held; read = reading.read; ended = reading.ended }

-- what is true of a reader between its steps
pub record IsReading (reading : Reading) : Type 0 where
  pub scanned : IsScanned reading.held reading.line reading.scanned
  pub limit : reading.read ≤ input_limit

-- the answer for a reason to stop
abbrev pub stop_answer : Stop → Next
stop_answer S.End = N.End
stop_answer S.Cut = N.Cut
stop_answer S.TooLong = N.TooLong
stop_answer S.ReadFault = N.ReadFault
stop_answer S.NoMemory = N.NoMemory

-- the answer for a command or a reason to stop
abbrev pub answer_of : Result (List ℕ) Stop → Next
answer_of (Ok command) = N.Command command
answer_of (Err stop) = stop_answer stop

-- what is left of a reader's bytes behind the place to which they were given
abbrev pub given : Reading → ℕ → Reading
given reading next = record reading { held = drop next reading.held; line = 0; scanned = 0 }

-- what comes of giving so many bytes as a command, if they aren't too many, and going on at the next place
abbrev pub Gives : Reading → (command next : ℕ) → Result (List ℕ) Stop → Reading → Type 0
Gives old command next (Ok text) new = (command ≤ command_limit) × (text ≡ take command old.held) × (new ≡ given old next)
Gives old command next (Err S.End) new = ⊥
Gives old command next (Err S.Cut) new = ⊥
Gives old command next (Err S.TooLong) new = (command_limit < command) × (new ≡ old)
Gives old command next (Err S.ReadFault) new = ⊥
Gives old command next (Err S.NoMemory) new = new ≡ old

-- what one read adds to bytes that are held, where there is room for so many
abbrev pub ReadsPiece : List ℕ → (room : ℕ) → Option (List ℕ) → Result ℕ Stop → List ℕ → Option (List ℕ) → Type 0
ReadsPiece old room left (Ok count) new left' =
    (count ≤ room) × (count ≤ read_size) × (count ≡ 0 → IfSome left (λ input. input ≡ []))
    × ((piece : List ℕ) × (length piece ≡ count) × (new ≡ old ++ piece) × Takes left piece left')
ReadsPiece old room left (Err S.End) new left' = ⊥
ReadsPiece old room left (Err S.Cut) new left' = ⊥
ReadsPiece old room left (Err S.TooLong) new left' =
    (room ≡ 0) × (new ≡ old) × ((piece : List ℕ) × (0 < length piece) × (length piece ≤ read_size) × Takes left piece left')
ReadsPiece old room left (Err S.ReadFault) new left' = (new ≡ old) × (left' ≡ left)
ReadsPiece old room left (Err S.NoMemory) new left' =
    (new ≡ old) × ((piece : List ℕ) × (length piece ≤ read_size) × Takes left piece left')

-- a piece was read: nothing was given meanwhile
pub record Grew (old : Ahead) (piece rest : List ℕ) (new : Ahead) : Type 0 where
  pub cut : cut_left old (piece ++ rest) ≡ cut_left new rest
  pub bytes : new.bytes ≡ old.bytes ++ piece
  pub going : new.ended ≡ false → old.ended ≡ false
  pub end : SawEnd old (piece ++ rest) → SawEnd new rest
  pub needed : IsNeeded old.bytes piece

-- the same of any source, where it tells what it has to come
pub record Grows (old : Ahead) (left : Option (List ℕ)) (new : Ahead) (left' : Option (List ℕ)) : Type 0 where
  pub told : IfSome left (λ input. (piece : List ℕ) × (rest : List ℕ)
      × (input ≡ piece ++ rest) × (left' ≡ Some rest) × Grew old piece rest new)

-- how often may still be read: each read gives a byte, or the end of the input
abbrev pub turns_of : Ahead → ℕ
turns_of ahead = (input_limit - ahead.read) + (if ahead.ended then 0 else 1)

-- what one read does, where it was needed
abbrev pub ReadsOn : Ahead → Option (List ℕ) → Result (Unit {0}) Stop → Ahead → Option (List ℕ) → Type 0
ReadsOn old left (Ok done) new left' = Grows old left new left'
ReadsOn old left (Err stop) new left' = Tells old left (stop_answer stop) new left'
