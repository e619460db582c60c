-- The keywords, which no name is, and the row of each, counted from 0.
use Rattle.std.specs.Prelude.{ℕ, List, [], ◌∷◌, codes}
use Rattle.kv_table.specs.Words.{words}

unfoldable pub keyword_rows : List (List ℕ)
keyword_rows = words (codes "project unit basic enrich union rename param using actualize module export import by with end sort data fun pred proc generated axiom theorem proof qed simp restrict equating measure below from true false not and or all ex skip abort if then else while do var in open as")

abbrev pub PROJECT : ℕ
PROJECT = 0

abbrev pub UNIT : ℕ
UNIT = 1

abbrev pub BASIC : ℕ
BASIC = 2

abbrev pub ENRICH : ℕ
ENRICH = 3

abbrev pub UNION : ℕ
UNION = 4

abbrev pub RENAME : ℕ
RENAME = 5

abbrev pub PARAM : ℕ
PARAM = 6

abbrev pub USING : ℕ
USING = 7

abbrev pub ACTUALIZE : ℕ
ACTUALIZE = 8

abbrev pub MODULE : ℕ
MODULE = 9

abbrev pub EXPORT : ℕ
EXPORT = 10

abbrev pub IMPORT : ℕ
IMPORT = 11

abbrev pub BY : ℕ
BY = 12

abbrev pub WITH : ℕ
WITH = 13

abbrev pub END : ℕ
END = 14

abbrev pub SORT : ℕ
SORT = 15

abbrev pub DATA : ℕ
DATA = 16

abbrev pub FUN : ℕ
FUN = 17

abbrev pub PRED : ℕ
PRED = 18

abbrev pub PROC : ℕ
PROC = 19

abbrev pub GENERATED : ℕ
GENERATED = 20

abbrev pub AXIOM : ℕ
AXIOM = 21

abbrev pub THEOREM : ℕ
THEOREM = 22

abbrev pub PROOF : ℕ
PROOF = 23

abbrev pub QED : ℕ
QED = 24

abbrev pub SIMP : ℕ
SIMP = 25

abbrev pub RESTRICT : ℕ
RESTRICT = 26

abbrev pub EQUATING : ℕ
EQUATING = 27

abbrev pub MEASURE : ℕ
MEASURE = 28

abbrev pub BELOW : ℕ
BELOW = 29

abbrev pub FROM : ℕ
FROM = 30

abbrev pub TRUE : ℕ
TRUE = 31

abbrev pub FALSE : ℕ
FALSE = 32

abbrev pub NOT : ℕ
NOT = 33

abbrev pub AND : ℕ
AND = 34

abbrev pub OR : ℕ
OR = 35

abbrev pub ALL : ℕ
ALL = 36

abbrev pub EX : ℕ
EX = 37

abbrev pub SKIP : ℕ
SKIP = 38

abbrev pub ABORT : ℕ
ABORT = 39

abbrev pub IF : ℕ
IF = 40

abbrev pub THEN : ℕ
THEN = 41

abbrev pub ELSE : ℕ
ELSE = 42

abbrev pub WHILE : ℕ
WHILE = 43

abbrev pub DO : ℕ
DO = 44

abbrev pub VAR : ℕ
VAR = 45

abbrev pub IN : ℕ
IN = 46

abbrev pub OPEN : ℕ
OPEN = 47

abbrev pub AS : ℕ
AS = 48

-- which word each row is
unfoldable pub named_keywords : List (ℕ × List ℕ)
named_keywords =
    (PROJECT, codes "project") ∷ (UNIT, codes "unit") ∷ (BASIC, codes "basic") ∷ (ENRICH, codes "enrich") ∷ (UNION, codes "union") ∷
    (RENAME, codes "rename") ∷ (PARAM, codes "param") ∷ (USING, codes "using") ∷ (ACTUALIZE, codes "actualize") ∷
    (MODULE, codes "module") ∷ (EXPORT, codes "export") ∷ (IMPORT, codes "import") ∷ (BY, codes "by") ∷ (WITH, codes "with") ∷
    (END, codes "end") ∷ (SORT, codes "sort") ∷ (DATA, codes "data") ∷ (FUN, codes "fun") ∷ (PRED, codes "pred") ∷ (PROC, codes "proc") ∷
    (GENERATED, codes "generated") ∷ (AXIOM, codes "axiom") ∷ (THEOREM, codes "theorem") ∷ (PROOF, codes "proof") ∷ (QED, codes "qed") ∷
    (SIMP, codes "simp") ∷ (RESTRICT, codes "restrict") ∷ (EQUATING, codes "equating") ∷ (MEASURE, codes "measure") ∷
    (BELOW, codes "below") ∷ (FROM, codes "from") ∷ (TRUE, codes "true") ∷ (FALSE, codes "false") ∷ (NOT, codes "not") ∷
    (AND, codes "and") ∷ (OR, codes "or") ∷ (ALL, codes "all") ∷ (EX, codes "ex") ∷ (SKIP, codes "skip") ∷ (ABORT, codes "abort") ∷
    (IF, codes "if") ∷ (THEN, codes "then") ∷ (ELSE, codes "else") ∷ (WHILE, codes "while") ∷ (DO, codes "do") ∷ (VAR, codes "var") ∷
    (IN, codes "in") ∷ (OPEN, codes "open") ∷ (AS, codes "as") ∷ []
