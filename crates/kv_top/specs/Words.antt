-- What the words of a command line ask for.
use Rattle.std.specs.Prelude.{ℕ, List, [], ◌∷◌, Option, Some, None, if◌then◌else◌, codes}
use Rattle.std.specs.Option.{option_map}
use Rattle.std.specs.Str.{bytes_eq}
use Rattle.kv_top.specs.declared.words.Mode.{Mode}
use Rattle.kv_top.specs.declared.words.Mode.TheVariants.{Check, Run}

-- the mode of a word, if it is one
unfoldable pub mode_of : List ℕ → Option Mode
mode_of word =
    if bytes_eq word (codes "check") then Some Check
    else (if bytes_eq word (codes "run") then Some Run else None)

-- the mode that the words ask for: they are a mode and a file
abbrev pub asked_mode : List (List ℕ) → Option Mode
asked_mode [] = None
asked_mode (word ∷ []) = None
asked_mode (word ∷ file ∷ []) = mode_of word
asked_mode (word ∷ file ∷ more ∷ words) = None

-- the file that they name
abbrev pub asked_file : List (List ℕ) → Option (List ℕ)
asked_file [] = None
asked_file (word ∷ []) = None
asked_file (word ∷ file ∷ []) = option_map (λ _. file) (mode_of word)
asked_file (word ∷ file ∷ more ∷ words) = None
