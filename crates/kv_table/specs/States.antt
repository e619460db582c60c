-- The words of the states of rows and of units, and the row of each, counted from 0.
use Rattle.std.specs.Prelude.{ℕ, List, [], ◌∷◌, codes}
use Rattle.kv_table.specs.Words.{words}

unfoldable pub state_rows : List (List ℕ)
state_rows = words (codes "ill broken open proved waiting cyclic idle ok bad refined unrefined")

-- how many there are
abbrev pub state_count : ℕ
state_count = 11

abbrev pub ILL : ℕ
ILL = 0

abbrev pub BROKEN : ℕ
BROKEN = 1

abbrev pub OPEN : ℕ
OPEN = 2

abbrev pub PROVED : ℕ
PROVED = 3

abbrev pub WAITING : ℕ
WAITING = 4

abbrev pub CYCLIC : ℕ
CYCLIC = 5

abbrev pub IDLE : ℕ
IDLE = 6

abbrev pub OK : ℕ
OK = 7

abbrev pub BAD : ℕ
BAD = 8

abbrev pub REFINED : ℕ
REFINED = 9

abbrev pub UNREFINED : ℕ
UNREFINED = 10

-- which word each row is
unfoldable pub named_states : List (ℕ × List ℕ)
named_states =
    (ILL, codes "ill") ∷ (BROKEN, codes "broken") ∷ (OPEN, codes "open") ∷ (PROVED, codes "proved") ∷ (WAITING, codes "waiting") ∷
    (CYCLIC, codes "cyclic") ∷ (IDLE, codes "idle") ∷ (OK, codes "ok") ∷ (BAD, codes "bad") ∷ (REFINED, codes "refined") ∷
    (UNREFINED, codes "unrefined") ∷ []
