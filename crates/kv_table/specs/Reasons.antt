-- The words of the reasons, and the row of each, counted from 0.
use Rattle.std.specs.Prelude.{ℕ, List, [], ◌∷◌, codes}
use Rattle.kv_table.specs.Words.{words}

unfoldable pub reason_rows : List (List ℕ)
reason_rows = words (codes "cycle missing kind below clash unknown arity sort duplicate program constructor partial profile injective lost bodies export absent reach limit unit position shape fresh captured label body generation large surplus")

-- how many there are
abbrev pub reason_count : ℕ
reason_count = 30

abbrev pub CYCLE : ℕ
CYCLE = 0

abbrev pub MISSING : ℕ
MISSING = 1

abbrev pub KIND : ℕ
KIND = 2

abbrev pub BELOW : ℕ
BELOW = 3

abbrev pub CLASH : ℕ
CLASH = 4

abbrev pub UNKNOWN : ℕ
UNKNOWN = 5

abbrev pub ARITY : ℕ
ARITY = 6

abbrev pub SORT : ℕ
SORT = 7

abbrev pub DUPLICATE : ℕ
DUPLICATE = 8

abbrev pub PROGRAM : ℕ
PROGRAM = 9

abbrev pub CONSTRUCTOR : ℕ
CONSTRUCTOR = 10

abbrev pub PARTIAL : ℕ
PARTIAL = 11

abbrev pub PROFILE : ℕ
PROFILE = 12

abbrev pub INJECTIVE : ℕ
INJECTIVE = 13

abbrev pub LOST : ℕ
LOST = 14

abbrev pub BODIES : ℕ
BODIES = 15

abbrev pub EXPORT : ℕ
EXPORT = 16

abbrev pub ABSENT : ℕ
ABSENT = 17

abbrev pub REACH : ℕ
REACH = 18

abbrev pub LIMIT : ℕ
LIMIT = 19

abbrev pub UNIT : ℕ
UNIT = 20

abbrev pub POSITION : ℕ
POSITION = 21

abbrev pub SHAPE : ℕ
SHAPE = 22

abbrev pub FRESH : ℕ
FRESH = 23

abbrev pub CAPTURED : ℕ
CAPTURED = 24

abbrev pub LABEL : ℕ
LABEL = 25

abbrev pub BODY : ℕ
BODY = 26

abbrev pub GENERATION : ℕ
GENERATION = 27

abbrev pub LARGE : ℕ
LARGE = 28

abbrev pub SURPLUS : ℕ
SURPLUS = 29

-- which word each row is
unfoldable pub named_reasons : List (ℕ × List ℕ)
named_reasons =
    (CYCLE, codes "cycle") ∷ (MISSING, codes "missing") ∷ (KIND, codes "kind") ∷ (BELOW, codes "below") ∷ (CLASH, codes "clash") ∷
    (UNKNOWN, codes "unknown") ∷ (ARITY, codes "arity") ∷ (SORT, codes "sort") ∷ (DUPLICATE, codes "duplicate") ∷
    (PROGRAM, codes "program") ∷ (CONSTRUCTOR, codes "constructor") ∷ (PARTIAL, codes "partial") ∷ (PROFILE, codes "profile") ∷
    (INJECTIVE, codes "injective") ∷ (LOST, codes "lost") ∷ (BODIES, codes "bodies") ∷ (EXPORT, codes "export") ∷
    (ABSENT, codes "absent") ∷ (REACH, codes "reach") ∷ (LIMIT, codes "limit") ∷ (UNIT, codes "unit") ∷ (POSITION, codes "position") ∷
    (SHAPE, codes "shape") ∷ (FRESH, codes "fresh") ∷ (CAPTURED, codes "captured") ∷ (LABEL, codes "label") ∷ (BODY, codes "body") ∷
    (GENERATION, codes "generation") ∷ (LARGE, codes "large") ∷ (SURPLUS, codes "surplus") ∷ []
