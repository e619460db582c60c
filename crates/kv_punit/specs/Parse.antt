-- What the readers compute, as functions of the kinds of the tokens. That it is the grammar's is proved.
use Rattle.std.specs.Str.{bytes_eq}
use Rattle.std.specs.Prelude.{ℕ, zero, suc, Bool, true, false, if◌then◌else◌, ◌==◌, List, [], ◌∷◌, ◌++◌, length, Option, Some, None, codes}
use Rattle.kv_lex.specs.Marks.{OPEN, CLOSE, OPEN_BRACE, CLOSE_BRACE, COMMA, SEMICOLON, COLON, DOT, EQUAL, ARROW, BAR}
use Rattle.kv_lex.specs.declared.token.TokenKind.{TokenKind}
use Rattle.kv_lex.specs.declared.token.TokenKind.TheVariants.{Word, Ident, Number, Mark}
use Rattle.kv_pexpr.specs.Grammar.{tree_height, open_brackets}
use Rattle.kv_pexpr.specs.Parse.{Read, given, or_stay, eat_mark, eat_word, eat_name, term, read}
use Rattle.kv_pexpr.specs.declared.levels.Level.TheVariants as level
use Rattle.kv_names.specs.Names.{Name}
use Rattle.kv_raw.specs.RawTrees.{RawTerm, RawForm}
use Rattle.kv_syn.specs.Scripts.{Step, Script}
use Rattle.kv_syn.specs.declared.scripts.Side.{Side}
use Rattle.kv_syn.specs.declared.scripts.Side.TheVariants.{L, R}
use Rattle.kv_syn.specs.ScriptBridge.{scripts_of}
use Rattle.kv_syn.specs.Projects.{Proof, Item, Kind}
use Rattle.kv_syn.specs.Projects as P
use Rattle.kv_names.specs.declared.symbols.Var.{Var}
use Rattle.kv_table.specs.Names.{row_of}
use Rattle.kv_table.specs.Commands.{command_rows}
use Rattle.kv_table.specs.Rules.{rule_rows}
use Rattle.kv_table.specs.Keywords as word
use Rattle.kv_punit.specs.declared.items.Declares.{Declares}
use Rattle.kv_punit.specs.declared.items.Declares.TheVariants as declare
use Rattle.kv_punit.specs.declared.steps.Takes.{Takes}
use Rattle.kv_punit.specs.declared.steps.Takes.TheVariants as take
use Rattle.kv_punit.specs.Grammar.{path_steps, has_colon, text_of}
use Rattle.kv_punit.specs.Steps.{takes, numbered, with_name, with_term, with_form, sided}

abbrev pub eat_number : List TokenKind → Read ℕ
eat_number [] = None
eat_number (Word k ∷ ts) = None
eat_number (Ident n ∷ ts) = None
eat_number (Number k ∷ ts) = Some (k, ts)
eat_number (Mark k ∷ ts) = None

-- the row of the rule whose name comes first
abbrev pub ruled : Name × List TokenKind → Read ℕ
ruled r = given (row_of rule_rows r.0) (λ row. Some (row, r.1))

abbrev pub eat_rule : List TokenKind → Read ℕ
eat_rule ts = given (eat_name ts) ruled

-- the longest term and the longest formula that the tokens begin with
unfoldable pub longest_term : List TokenKind → Read RawTerm
longest_term = term tree_height open_brackets

unfoldable pub longest_form : List TokenKind → Read RawForm
longest_form = read 300 level.Form open_brackets tree_height

abbrev pub side_named : Name → Option Side
side_named n = if bytes_eq n (codes "L") then Some L else (if bytes_eq n (codes "R") then Some R else None)

abbrev pub eat_side : List TokenKind → Read Side
eat_side ts = given (eat_name ts) (λ n. given (side_named n.0) (λ side. Some (side, n.1)))

-- what stands behind the word of a rule, whose row comes first; each by its parts
abbrev pub one : ℕ → ℕ × List TokenKind → Read Step
one row i = Some (numbered row (i.0 ∷ []), i.1)

abbrev pub one_number : ℕ → List TokenKind → Read Step
one_number row ts = given (eat_number ts) (one row)

abbrev pub two : ℕ → ℕ → ℕ × List TokenKind → Read Step
two row i j = Some (numbered row (i ∷ j.0 ∷ []), j.1)

abbrev pub second : ℕ → ℕ × List TokenKind → Read Step
second row i = given (eat_number i.1) (two row i.0)

abbrev pub two_numbers : ℕ → List TokenKind → Read Step
two_numbers row ts = given (eat_number ts) (second row)

abbrev pub fresh : ℕ → ℕ → Name × List TokenKind → Read Step
fresh row i x = Some (with_name row i x.0, x.1)

abbrev pub as_name : ℕ → ℕ × List TokenKind → Read Step
as_name row i = given (eat_word word.AS i.1) (λ us. given (eat_name us) (fresh row i.0))

abbrev pub number_and_name : ℕ → List TokenKind → Read Step
number_and_name row ts = given (eat_number ts) (as_name row)

abbrev pub termed : ℕ → ℕ → RawTerm × List TokenKind → Read Step
termed row i t = Some (with_term row i t.0, t.1)

abbrev pub as_term : ℕ → ℕ × List TokenKind → Read Step
as_term row i = given (eat_word word.WITH i.1) (λ us. given (longest_term us) (termed row i.0))

abbrev pub number_and_term : ℕ → List TokenKind → Read Step
number_and_term row ts = given (eat_number ts) (as_term row)

abbrev pub formed : ℕ → RawForm × List TokenKind → Read Step
formed row f = Some (with_form row f.0, f.1)

abbrev pub formula : ℕ → List TokenKind → Read Step
formula row ts = given (longest_form ts) (formed row)

abbrev pub placed : ℕ → Side → ℕ × List TokenKind → Read Step
placed row side i = Some (sided row side (i.0 ∷ []), i.1)

abbrev pub behind_side : ℕ → Side × List TokenKind → Read Step
behind_side row s = given (eat_number s.1) (placed row s.0)

abbrev pub side_and_number : ℕ → List TokenKind → Read Step
side_and_number row ts = given (eat_side ts) (behind_side row)

abbrev pub between : ℕ → ℕ → Side → ℕ × List TokenKind → Read Step
between row i side j = Some (sided row side (i ∷ j.0 ∷ []), j.1)

abbrev pub before_number : ℕ → ℕ → Side × List TokenKind → Read Step
before_number row i s = given (eat_number s.1) (between row i s.0)

abbrev pub before_side : ℕ → ℕ × List TokenKind → Read Step
before_side row i = given (eat_side i.1) (before_number row i.0)

abbrev pub side_between : ℕ → List TokenKind → Read Step
side_between row ts = given (eat_number ts) (before_side row)

abbrev pub behind_rule : ℕ → Takes → List TokenKind → Read Step
behind_rule row take.One ts = one_number row ts
behind_rule row take.Two ts = two_numbers row ts
behind_rule row take.Name ts = number_and_name row ts
behind_rule row take.Term ts = number_and_term row ts
behind_rule row take.Form ts = formula row ts
behind_rule row take.Side ts = side_and_number row ts
behind_rule row take.TwoSided ts = side_between row ts

abbrev pub taking : ℕ × List TokenKind → Read Step
taking r = given (takes r.0) (λ what. behind_rule r.0 what r.1)

abbrev pub step : List TokenKind → Read Step
step ts = given (eat_rule ts) taking

-- behind a child: the closing brace, or a bar and more of them
abbrev pub child : (List Script → List TokenKind → Read (List Script)) → List Script → Script × List TokenKind → Read (List Script)
child more done r = or_stay (given (eat_mark BAR r.1) (more (done ++ (r.0 ∷ [])))) (λ us. Some (done ++ (r.0 ∷ []), us)) (eat_mark CLOSE_BRACE r.1)

module _ (item : List TokenKind → Read Script) where
  -- the children that are left, behind those that are done; the number bounds the turns
  unfoldable pub block : ℕ → List Script → List TokenKind → Read (List Script)
  block zero done ts = None
  block (suc k) done ts = given (item ts) (child (block k) done)

  abbrev pub braces : List TokenKind → Read (List Script)
  braces ts = block (length ts) [] ts

  abbrev pub chained : List TokenKind → Read (List Script)
  chained ts = given (item ts) (λ r. Some (r.0 ∷ [], r.1))

  -- what stands behind a step
  abbrev pub children : List TokenKind → Read (List Script)
  children ts = or_stay (or_stay (Some ([], ts)) braces (eat_mark OPEN_BRACE ts)) chained (eat_mark SEMICOLON ts)

  abbrev pub node : Step × List TokenKind → Read Script
  node s = given (children s.1) (λ r. Some (Script.Node s.0 (scripts_of r.0), r.1))

abbrev pub hole : List TokenKind → Read Script
hole ts = Some (Script.Hole, ts)

-- the number is how many steps may stand on a path
unfoldable pub script : ℕ → List TokenKind → Read Script
script zero ts = or_stay None hole (eat_word word.OPEN ts)
script (suc n) ts = or_stay (given (step ts) (node (script n))) hole (eat_word word.OPEN ts)

-- the mark between two names of a label, as its bytes
abbrev pub colon : List TokenKind → Read Name
colon ts = Some (codes ":", ts)

abbrev pub dot : List TokenKind → Read Name
dot ts = Some (codes ".", ts)

abbrev pub separator : List TokenKind → Read Name
separator ts = or_stay (or_stay None colon (eat_mark COLON ts)) dot (eat_mark DOT ts)

-- one more name of a label
abbrev pub part : (Name → List TokenKind → Read Name) → Name → Name × List TokenKind → Read Name
part more text b = given (eat_name b.1) (λ r. more ((text ++ b.0) ++ r.0) r.1)

-- the names that are left, behind the text that is done; the number bounds the turns
unfoldable pub parts : ℕ → Name → List TokenKind → Read Name
parts zero text ts = Some (text, ts)
parts (suc k) text ts = or_stay (Some (text, ts)) (part (parts k) text) (separator ts)

abbrev pub label : List TokenKind → Read Name
label ts = given (eat_name ts) (λ r. parts (length ts) r.0 r.1)

-- a label without a colon
abbrev pub without_colon : Name × List TokenKind → Read Name
without_colon r = if has_colon r.0 then None else Some r

abbrev pub proof_label : List TokenKind → Read Name
proof_label ts = given (label ts) without_colon

-- behind a thing of a list: a comma and more of them, or nothing
abbrev pub followed : {X : Type 0} → (List X → List TokenKind → Read (List X)) → List X → X × List TokenKind → Read (List X)
followed more done r = or_stay (Some (done ++ (r.0 ∷ []), r.1)) (more (done ++ (r.0 ∷ []))) (eat_mark COMMA r.1)

-- the things that are left, with commas between, behind those that are done; the number bounds the turns
unfoldable pub listed : {X : Type 0} → (List TokenKind → Read X) → ℕ → List X → List TokenKind → Read (List X)
listed thing zero done ts = None
listed thing (suc k) done ts = given (thing ts) (followed (listed thing k) done)

abbrev pub names : List TokenKind → Read (List Name)
names ts = listed eat_name (length ts) [] ts

-- a parameter, by its parts
abbrev pub sorted : Name → Name × List TokenKind → Read Var
sorted x s = Some (record { name = x; sort = s.0 }, s.1)

abbrev pub typed : Name × List TokenKind → Read Var
typed x = given (eat_mark COLON x.1) (λ us. given (eat_name us) (sorted x.0))

abbrev pub parameter : List TokenKind → Read Var
parameter ts = given (eat_name ts) typed

abbrev pub begins_with_name : List TokenKind → Bool
begins_with_name (Ident n ∷ ts) = true
begins_with_name _ = false

-- parameters, where a name comes
abbrev pub parameters : List TokenKind → Read (List Var)
parameters ts = if begins_with_name ts then listed parameter (length ts) [] ts else Some ([], ts)

-- behind the name of a function, of a predicate, of a procedure
abbrev pub arrowed : List TokenKind → List Name × List TokenKind → Read (List Name)
arrowed ts args = or_stay (Some ([], ts)) (λ us. Some (args.0, us)) (eat_mark ARROW args.1)

abbrev pub arguments : List TokenKind → Read (List Name)
arguments ts = given (names ts) (arrowed ts)

abbrev pub into : Name → List Name → Name × List TokenKind → Read Item
into n args s = Some (Item.Fun n args s.0, s.1)

abbrev pub resulting : Name → List Name × List TokenKind → Read Item
resulting n args = given (eat_name args.1) (into n args.0)

abbrev pub function : Name → List TokenKind → Read Item
function n ts = given (eat_mark COLON ts) (λ us. given (arguments us) (resulting n))

abbrev pub over : Name → List Name × List TokenKind → Read Item
over n args = Some (Item.Pred n args.0, args.1)

abbrev pub predicate : Name → List TokenKind → Read Item
predicate n ts = or_stay (Some (Item.Pred n [], ts)) (λ us. given (names us) (over n)) (eat_mark COLON ts)

abbrev pub bracketed : Name → List Var → List Var × List TokenKind → Read Item
bracketed n values refs = given (eat_mark CLOSE refs.1) (λ us. Some (Item.Proc n values refs.0 None, us))

abbrev pub referring : Name → List Var × List TokenKind → Read Item
referring n values = given (eat_mark SEMICOLON values.1) (λ us. given (parameters us) (bracketed n values.0))

abbrev pub procedure : Name → List TokenKind → Read Item
procedure n ts = given (eat_mark OPEN ts) (λ us. given (parameters us) (referring n))

-- what the first keyword of an item says that it declares
abbrev pub declares : ℕ → Option Declares
declares w = if w == word.SORT then Some declare.Sort
    else (if w == word.FUN then Some declare.Function
    else (if w == word.PRED then Some declare.Predicate
    else (if w == word.PROC then Some declare.Procedure else None)))

abbrev pub eat_declares : List TokenKind → Read Declares
eat_declares [] = None
eat_declares (Word w ∷ ts) = given (declares w) (λ d. Some (d, ts))
eat_declares (Ident n ∷ ts) = None
eat_declares (Number k ∷ ts) = None
eat_declares (Mark m ∷ ts) = None

abbrev pub declaration : Declares → Name → List TokenKind → Read Item
declaration declare.Sort n ts = Some (Item.Sort n, ts)
declaration declare.Function n ts = function n ts
declaration declare.Predicate n ts = predicate n ts
declaration declare.Procedure n ts = procedure n ts

-- an item behind its keyword, by its parts
abbrev pub semicolon : Item × List TokenKind → Read Item
semicolon r = given (eat_mark SEMICOLON r.1) (λ us. Some (r.0, us))

abbrev pub named : Declares → Name × List TokenKind → Read Item
named d n = given (declaration d n.0 n.1) semicolon

abbrev pub item : Declares → List TokenKind → Read Item
item d ts = given (eat_name ts) (named d)

abbrev pub started : (List Item → List TokenKind → Read (List Item)) → List Item → Declares × List TokenKind → Read (List Item)
started more done d = given (item d.0 d.1) (λ r. more (done ++ (r.0 ∷ [])) r.1)

-- the items that are left, behind those that are done; the number bounds the turns
unfoldable pub items : ℕ → List Item → List TokenKind → Read (List Item)
items zero done ts = Some (done, ts)
items (suc k) done ts = or_stay (Some (done, ts)) (started (items k) done) (eat_declares ts)

-- the head of a unit, by its parts
abbrev pub ended : Name → List Item × List TokenKind → Read P.Unit
ended n r = given (eat_word word.END r.1) (λ ts. Some (record { name = n; kind = Kind.Basic r.0; theorems = []; proofs = [] }, ts))

abbrev pub itemized : Name → List TokenKind → Read P.Unit
itemized n ts = given (items (length ts) [] ts) (ended n)

abbrev pub titled : Name × List TokenKind → Read P.Unit
titled r = given (eat_word word.BASIC r.1) (itemized r.0)

abbrev pub head : List TokenKind → Read P.Unit
head ts = given (eat_word word.UNIT ts) (λ us. given (eat_name us) titled)

-- a label and its script, by their parts
abbrev pub with_label : Name → Script × List TokenKind → Read Proof
with_label l r = Some (record { name = l; script = r.0 }, r.1)

abbrev pub scripted : Name → List TokenKind → Read Proof
scripted l ts = given (script path_steps ts) (with_label l)

abbrev pub equated : Name × List TokenKind → Read Proof
equated r = given (eat_mark EQUAL r.1) (scripted r.0)

abbrev pub labelled : List TokenKind → Read Proof
labelled ts = given (proof_label ts) equated

-- a proof, by its parts
abbrev pub closed : Proof × List TokenKind → Read Proof
closed r = given (eat_word word.QED r.1) (λ ts. Some (r.0, ts))

abbrev pub proof : List TokenKind → Read Proof
proof ts = given (eat_word word.PROOF ts) (λ us. given (labelled us) closed)

-- what stands before the formula of a theorem
abbrev pub coloned : Name × List TokenKind → Read Name
coloned r = given (eat_mark COLON r.1) (λ ts. Some (r.0, ts))

abbrev pub heading : List TokenKind → Read Name
heading ts = given (eat_name ts) coloned

-- the number of the version
abbrev pub version : List TokenKind → Read ℕ
version ts = given (eat_word word.PROJECT ts) eat_number

-- the row of the command whose word comes first
abbrev pub eat_text : List TokenKind → Read Name
eat_text [] = None
eat_text (k ∷ ts) = given (text_of k) (λ n. Some (n, ts))

abbrev pub commanded : Name × List TokenKind → Read ℕ
commanded r = given (row_of command_rows r.0) (λ row. Some (row, r.1))

abbrev pub eat_command : List TokenKind → Read ℕ
eat_command ts = given (eat_text ts) commanded

-- nothing, where no tokens are left
abbrev pub end : List TokenKind → Option (Unit {0})
end [] = Some tt
end (k ∷ ts) = None
