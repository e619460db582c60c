-- The words of the rules, in the order of the rule table, and the row of each, counted from 0.
use Rattle.std.specs.Prelude.{ℕ, List, [], ◌∷◌, codes}
use Rattle.kv_table.specs.Words.{words}

unfoldable pub rule_rows : List (List ℕ)
rule_rows = words (codes "close falseL trueR notL notR andL orR andR orL impL impR iffL iffR dropL dropR cut allR exL allL exR refl swap subst use induct skip abort assign seq cond local unwind call inv rec dual mono simp")

-- how many there are
abbrev pub rule_count : ℕ
rule_count = 38

abbrev pub CLOSE : ℕ
CLOSE = 0

abbrev pub FALSE_L : ℕ
FALSE_L = 1

abbrev pub TRUE_R : ℕ
TRUE_R = 2

abbrev pub NOT_L : ℕ
NOT_L = 3

abbrev pub NOT_R : ℕ
NOT_R = 4

abbrev pub AND_L : ℕ
AND_L = 5

abbrev pub OR_R : ℕ
OR_R = 6

abbrev pub AND_R : ℕ
AND_R = 7

abbrev pub OR_L : ℕ
OR_L = 8

abbrev pub IMP_L : ℕ
IMP_L = 9

abbrev pub IMP_R : ℕ
IMP_R = 10

abbrev pub IFF_L : ℕ
IFF_L = 11

abbrev pub IFF_R : ℕ
IFF_R = 12

abbrev pub DROP_L : ℕ
DROP_L = 13

abbrev pub DROP_R : ℕ
DROP_R = 14

abbrev pub CUT : ℕ
CUT = 15

abbrev pub ALL_R : ℕ
ALL_R = 16

abbrev pub EX_L : ℕ
EX_L = 17

abbrev pub ALL_L : ℕ
ALL_L = 18

abbrev pub EX_R : ℕ
EX_R = 19

abbrev pub REFL : ℕ
REFL = 20

abbrev pub SWAP : ℕ
SWAP = 21

abbrev pub SUBST : ℕ
SUBST = 22

abbrev pub USE : ℕ
USE = 23

abbrev pub INDUCT : ℕ
INDUCT = 24

abbrev pub SKIP : ℕ
SKIP = 25

abbrev pub ABORT : ℕ
ABORT = 26

abbrev pub ASSIGN : ℕ
ASSIGN = 27

abbrev pub SEQ : ℕ
SEQ = 28

abbrev pub COND : ℕ
COND = 29

abbrev pub LOCAL : ℕ
LOCAL = 30

abbrev pub UNWIND : ℕ
UNWIND = 31

abbrev pub CALL : ℕ
CALL = 32

abbrev pub INV : ℕ
INV = 33

abbrev pub REC : ℕ
REC = 34

abbrev pub DUAL : ℕ
DUAL = 35

abbrev pub MONO : ℕ
MONO = 36

abbrev pub SIMP : ℕ
SIMP = 37

-- which word each row is
unfoldable pub named_rules : List (ℕ × List ℕ)
named_rules =
    (CLOSE, codes "close") ∷ (FALSE_L, codes "falseL") ∷ (TRUE_R, codes "trueR") ∷ (NOT_L, codes "notL") ∷ (NOT_R, codes "notR") ∷
    (AND_L, codes "andL") ∷ (OR_R, codes "orR") ∷ (AND_R, codes "andR") ∷ (OR_L, codes "orL") ∷ (IMP_L, codes "impL") ∷
    (IMP_R, codes "impR") ∷ (IFF_L, codes "iffL") ∷ (IFF_R, codes "iffR") ∷ (DROP_L, codes "dropL") ∷ (DROP_R, codes "dropR") ∷
    (CUT, codes "cut") ∷ (ALL_R, codes "allR") ∷ (EX_L, codes "exL") ∷ (ALL_L, codes "allL") ∷ (EX_R, codes "exR") ∷ (REFL, codes "refl") ∷
    (SWAP, codes "swap") ∷ (SUBST, codes "subst") ∷ (USE, codes "use") ∷ (INDUCT, codes "induct") ∷ (SKIP, codes "skip") ∷
    (ABORT, codes "abort") ∷ (ASSIGN, codes "assign") ∷ (SEQ, codes "seq") ∷ (COND, codes "cond") ∷ (LOCAL, codes "local") ∷
    (UNWIND, codes "unwind") ∷ (CALL, codes "call") ∷ (INV, codes "inv") ∷ (REC, codes "rec") ∷ (DUAL, codes "dual") ∷
    (MONO, codes "mono") ∷ (SIMP, codes "simp") ∷ []
