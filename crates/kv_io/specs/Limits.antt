-- The limits of what comes from outside, in bytes.
use Rattle.std.specs.Prelude.{ℕ}

-- the longest command
abbrev pub command_limit : ℕ
command_limit = 1048576

-- the longest input
abbrev pub input_limit : ℕ
input_limit = 67108864

-- the longest file
abbrev pub file_limit : ℕ
file_limit = 16777216

-- the most bytes that one read asks for
abbrev pub read_size : ℕ
read_size = 4096
