-- The words of the commands: the edits, then the queries, and the row of each, counted from 0.
use Rattle.std.specs.Prelude.{ℕ, List, [], ◌∷◌, codes}
use Rattle.kv_table.specs.Words.{words}

unfoldable pub command_rows : List (List ℕ)
command_rows = words (codes "add put drop theorem change forget proof unproof prune status state goals needs above graph flat obligations text seal save")

abbrev pub ADD : ℕ
ADD = 0

abbrev pub PUT : ℕ
PUT = 1

abbrev pub DROP : ℕ
DROP = 2

abbrev pub THEOREM : ℕ
THEOREM = 3

abbrev pub CHANGE : ℕ
CHANGE = 4

abbrev pub FORGET : ℕ
FORGET = 5

abbrev pub PROOF : ℕ
PROOF = 6

abbrev pub UNPROOF : ℕ
UNPROOF = 7

abbrev pub PRUNE : ℕ
PRUNE = 8

abbrev pub STATUS : ℕ
STATUS = 9

abbrev pub STATE : ℕ
STATE = 10

abbrev pub GOALS : ℕ
GOALS = 11

abbrev pub NEEDS : ℕ
NEEDS = 12

abbrev pub ABOVE : ℕ
ABOVE = 13

abbrev pub GRAPH : ℕ
GRAPH = 14

abbrev pub FLAT : ℕ
FLAT = 15

abbrev pub OBLIGATIONS : ℕ
OBLIGATIONS = 16

abbrev pub TEXT : ℕ
TEXT = 17

abbrev pub SEAL : ℕ
SEAL = 18

abbrev pub SAVE : ℕ
SAVE = 19

-- which word each row is
unfoldable pub named_commands : List (ℕ × List ℕ)
named_commands =
    (ADD, codes "add") ∷ (PUT, codes "put") ∷ (DROP, codes "drop") ∷ (THEOREM, codes "theorem") ∷ (CHANGE, codes "change") ∷
    (FORGET, codes "forget") ∷ (PROOF, codes "proof") ∷ (UNPROOF, codes "unproof") ∷ (PRUNE, codes "prune") ∷ (STATUS, codes "status") ∷
    (STATE, codes "state") ∷ (GOALS, codes "goals") ∷ (NEEDS, codes "needs") ∷ (ABOVE, codes "above") ∷ (GRAPH, codes "graph") ∷
    (FLAT, codes "flat") ∷ (OBLIGATIONS, codes "obligations") ∷ (TEXT, codes "text") ∷ (SEAL, codes "seal") ∷ (SAVE, codes "save") ∷ []
