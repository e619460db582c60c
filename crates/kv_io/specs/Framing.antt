-- How the bytes of an input are cut into commands, and how an input ends.
use Rattle.std.specs.Prelude.{ℕ, Bool, true, false, ◌&&◌, ◌||◌, ◌==◌, nat_le, if◌then◌else◌, List, [], ◌∷◌, ◌++◌, take, length}
use Rattle.std.specs.List.{list_all}
use Rattle.kv_io.specs.Limits.{command_limit, input_limit}

-- the bytes of a line before its line feed, and whether it has one
pub record Line : Type 0 where
  pub text : List ℕ
  pub fed : Bool

-- the lines with one more byte at the front of the first
abbrev pub onto_first : ℕ → List Line → List Line
onto_first byte [] = record { text = byte ∷ []; fed = false } ∷ []
onto_first byte (line ∷ lines) = record { text = byte ∷ line.text; fed = line.fed } ∷ lines

-- the lines of some bytes: a line ends at a line feed, and the last one at the end of the bytes
unfoldable pub lines_of : List ℕ → List Line
lines_of [] = []
lines_of (byte ∷ bytes) =
    if byte == 10 then record { text = []; fed = true } ∷ lines_of bytes else onto_first byte (lines_of bytes)

-- a full stop; a carriage return at the end of a line isn't part of it
abbrev pub is_full_stop : List ℕ → Bool
is_full_stop [] = false
is_full_stop (a ∷ []) = a == 46
is_full_stop (a ∷ b ∷ []) = a == 46 && b == 13
is_full_stop (a ∷ b ∷ c ∷ rest) = false

-- an end line; a last line without a line feed is one only where the input ends there
abbrev pub is_end_line : Bool → Line → Bool
is_end_line closed line = is_full_stop line.text && (line.fed || closed)

-- a line as it stands among the bytes
abbrev pub bytes_of : Line → List ℕ
bytes_of line = line.text ++ (if line.fed then 10 ∷ [] else [])

-- the commands of some bytes, and what stands behind the last end line
pub record Split : Type 0 where
  pub commands : List (List ℕ)
  pub rest : List ℕ

-- these bytes stand before what was split
abbrev pub before_parts : List ℕ → List (List ℕ) → List ℕ → Split
before_parts bytes [] rest = record { commands = []; rest = bytes ++ rest }
before_parts bytes (command ∷ commands) rest = record { commands = (bytes ++ command) ∷ commands; rest = rest }

abbrev pub before : List ℕ → Split → Split
before bytes split = before_parts bytes split.commands split.rest

-- a command stands before what was split, with its end line
abbrev pub behind_command : List ℕ → Split → Split
behind_command command split = record { commands = command ∷ split.commands; rest = split.rest }

-- a command has all lines before its end line
abbrev pub split_lines : Bool → List Line → Split
split_lines closed [] = record { commands = []; rest = [] }
split_lines closed (line ∷ lines) =
    if is_end_line closed line
    then behind_command [] (split_lines closed lines)
    else before (bytes_of line) (split_lines closed lines)

-- the commands of these bytes, where the input ends behind them (closed) or may go on
unfoldable pub split_of : Bool → List ℕ → Split
split_of closed bytes = split_lines closed (lines_of bytes)

-- how an input ends, behind all its commands
pub data Ending : Type 0 where
  End : Ending
  Cut : Ending
  TooLong : Ending

-- the commands of an input in order, and how it ends
pub record Cutting : Type 0 where
  pub commands : List (List ℕ)
  pub ending : Ending

-- no command, and an ending
abbrev pub at_once : Ending → Cutting
at_once ending = record { commands = []; ending = ending }

-- one more command at the front
abbrev pub and_first : List ℕ → Cutting → Cutting
and_first command cutting = record { commands = command ∷ cutting.commands; ending = cutting.ending }

-- the commands before the first that is too long
abbrev pub limited : List (List ℕ) → Ending → Cutting
limited [] ending = at_once ending
limited (command ∷ commands) ending =
    if nat_le (length command) command_limit then and_first command (limited commands ending) else at_once TooLong

-- a space, a tab, a carriage return or a line feed
abbrev pub is_blank : ℕ → Bool
is_blank byte = byte == 32 || byte == 9 || byte == 13 || byte == 10

-- how an input ends that has these bytes behind its last end line
abbrev pub ending_of : List ℕ → Ending
ending_of rest =
    if nat_le (length rest) command_limit then (if list_all is_blank rest then End else Cut) else TooLong

-- the cutting of a whole input (closed), or of the first bytes of one that passes its limit
unfoldable pub framed : Bool → List ℕ → Cutting
framed closed bytes =
    let split = split_of closed bytes in
    limited split.commands (if closed then ending_of split.rest else TooLong)

-- the cutting of an input
unfoldable pub cut_of : List ℕ → Cutting
cut_of input =
    if nat_le (length input) input_limit then framed true input else framed false (take input_limit input)

-- the commands whose end line stands in these bytes, with its line feed
abbrev pub whole_commands : List ℕ → List (List ℕ)
whole_commands bytes = (split_of false bytes).commands
