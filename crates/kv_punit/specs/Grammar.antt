-- The grammar of projects and commands so far. Each relation reads: the tokens ts begin with a spelling of the thing, and us are
-- the tokens behind it.
use Rattle.std.specs.Prelude.{ℕ, suc, ◌≡◌, ◌==◌, Bool, false, List, [], ◌∷◌, ◌++◌, Option, Some, None, slice_get}
use Rattle.std.specs.List.{list_any}
use Rattle.kv_lex.specs.Marks.{OPEN, CLOSE, OPEN_BRACE, CLOSE_BRACE, COMMA, SEMICOLON, COLON, DOT, EQUAL, ARROW, BAR}
use Rattle.kv_lex.specs.declared.token.TokenKind.{TokenKind}
use Rattle.kv_lex.specs.declared.token.TokenKind.TheVariants.{Word, Ident, Number, Mark}
use Rattle.kv_pexpr.specs.Grammar.{ReadsForm, ReadsTerm}
use Rattle.kv_names.specs.Names.{Name}
use Rattle.kv_raw.specs.RawTrees.{RawTerm, RawForm}
use Rattle.kv_syn.specs.Scripts.{Step, Script, Scripts}
use Rattle.kv_syn.specs.declared.scripts.Side.{Side}
use Rattle.kv_syn.specs.Projects.{Theorem, Proof, Item, Kind, Project}
use Rattle.kv_syn.specs.Projects as P
use Rattle.kv_names.specs.declared.symbols.Var.{Var}
use Rattle.kv_punit.specs.Commands.{Command}
use Rattle.kv_table.specs.Names.{row_of}
use Rattle.kv_table.specs.Commands.{command_rows}
use Rattle.kv_table.specs.Keywords.{keyword_rows}
use Rattle.kv_table.specs.Rules.{rule_rows}
use Rattle.kv_table.specs.Commands as asked
use Rattle.kv_table.specs.Keywords as word
use Rattle.kv_punit.specs.Steps.{takes, side_name, numbered, with_name, with_term, with_form, sided}
use Rattle.kv_punit.specs.declared.steps.Takes.TheVariants as take

-- step = rule number | rule number number | rule number "as" name | rule number "with" term | rule form
--      | rule side number | rule number side number, where the rule is a name in the table of rules that takes that
pub data IsStep : List TokenKind → Step → List TokenKind → Type 0 where
  one : {n : Name} {row i : ℕ} {us : List TokenKind}
      → row_of rule_rows n ≡ Some row → takes row ≡ Some take.One → IsStep (Ident n ∷ Number i ∷ us) (numbered row (i ∷ [])) us
  two : {n : Name} {row i j : ℕ} {us : List TokenKind}
      → row_of rule_rows n ≡ Some row → takes row ≡ Some take.Two → IsStep (Ident n ∷ Number i ∷ Number j ∷ us) (numbered row (i ∷ j ∷ [])) us
  name : {n x : Name} {row i : ℕ} {us : List TokenKind}
      → row_of rule_rows n ≡ Some row → takes row ≡ Some take.Name → IsStep (Ident n ∷ Number i ∷ Word word.AS ∷ Ident x ∷ us) (with_name row i x) us
  term : {n : Name} {row i : ℕ} {t : RawTerm} {ts us : List TokenKind}
      → row_of rule_rows n ≡ Some row → takes row ≡ Some take.Term → ReadsTerm ts t us → IsStep (Ident n ∷ Number i ∷ Word word.WITH ∷ ts) (with_term row i t) us
  form : {n : Name} {row : ℕ} {f : RawForm} {ts us : List TokenKind}
      → row_of rule_rows n ≡ Some row → takes row ≡ Some take.Form → ReadsForm ts f us → IsStep (Ident n ∷ ts) (with_form row f) us
  side : {n : Name} {row i : ℕ} {s : Side} {us : List TokenKind}
      → row_of rule_rows n ≡ Some row → takes row ≡ Some take.Side → IsStep (Ident n ∷ Ident (side_name s) ∷ Number i ∷ us) (sided row s (i ∷ [])) us
  two_sided : {n : Name} {row i j : ℕ} {s : Side} {us : List TokenKind}
      → row_of rule_rows n ≡ Some row → takes row ≡ Some take.TwoSided → IsStep (Ident n ∷ Number i ∷ Ident (side_name s) ∷ Number j ∷ us) (sided row s (i ∷ j ∷ [])) us

-- script = "open" | step [ ";" script | "{" script { "|" script } "}" ], with at most n steps on a path
mutual
  pub data IsScript : ℕ → List TokenKind → Script → List TokenKind → Type 0 where
    hole : {n : ℕ} {us : List TokenKind} → IsScript n (Word word.OPEN ∷ us) Script.Hole us
    leaf : {n : ℕ} {ts us : List TokenKind} {s : Step} → IsStep ts s us → IsScript (suc n) ts (Script.Node s Scripts.none) us
    chain : {n : ℕ} {ts us vs : List TokenKind} {s : Step} {k : Script}
        → IsStep ts s (Mark SEMICOLON ∷ us) → IsScript n us k vs → IsScript (suc n) ts (Script.Node s (Scripts.more k Scripts.none)) vs
    block : {n : ℕ} {ts us vs : List TokenKind} {s : Step} {ks : Scripts}
        → IsStep ts s (Mark OPEN_BRACE ∷ us) → AreScripts n us ks vs → IsScript (suc n) ts (Script.Node s ks) vs

  pub data AreScripts : ℕ → List TokenKind → Scripts → List TokenKind → Type 0 where
    last : {n : ℕ} {ts us : List TokenKind} {k : Script}
        → IsScript n ts k (Mark CLOSE_BRACE ∷ us) → AreScripts n ts (Scripts.more k Scripts.none) us
    more : {n : ℕ} {ts us vs : List TokenKind} {k : Script} {ks : Scripts}
        → IsScript n ts k (Mark BAR ∷ us) → AreScripts n us ks vs → AreScripts n ts (Scripts.more k ks) vs

-- label = name { ("." | ":") name }
pub data IsLabel : List TokenKind → Name → List TokenKind → Type 0 where
  name : {n : Name} {us : List TokenKind} → IsLabel (Ident n ∷ us) n us
  dot : {n l : Name} {ts us : List TokenKind} → IsLabel ts l us → IsLabel (Ident n ∷ Mark DOT ∷ ts) (n ++ (46 ∷ l)) us
  colon : {n l : Name} {ts us : List TokenKind} → IsLabel ts l us → IsLabel (Ident n ∷ Mark COLON ∷ ts) (n ++ (58 ∷ l)) us

-- names, and parameters, as things of a list; parameter = name ":" name
pub data IsName : List TokenKind → Name → List TokenKind → Type 0 where
  name : {n : Name} {us : List TokenKind} → IsName (Ident n ∷ us) n us

pub data IsParameter : List TokenKind → Var → List TokenKind → Type 0 where
  parameter : {x : Var} {us : List TokenKind} → IsParameter (Ident x.name ∷ Mark COLON ∷ Ident x.sort ∷ us) x us

-- things with commas between, one at least
pub data Listed {X : Type 0} (Is : List TokenKind → X → List TokenKind → Type 0) : List TokenKind → List X → List TokenKind → Type 0 where
  last : {ts us : List TokenKind} {x : X} → Is ts x us → Listed Is ts (x ∷ []) us
  more : {ts us vs : List TokenKind} {x : X} {rest : List X} → Is ts x (Mark COMMA ∷ us) → Listed Is us rest vs → Listed Is ts (x ∷ rest) vs

abbrev pub AreNames : List TokenKind → List Name → List TokenKind → Type 0
AreNames = Listed IsName

-- [ parameter { "," parameter } ]
pub data AreParameters : List TokenKind → List Var → List TokenKind → Type 0 where
  none : {us : List TokenKind} → AreParameters us [] us
  some : {ts us : List TokenKind} {xs : List Var} → Listed IsParameter ts xs us → AreParameters ts xs us

-- declaration = "sort" name | "fun" name ":" [ names "->" ] name | "pred" name [ ":" names ]
--             | "proc" name "(" [ parameters ] ";" [ parameters ] ")"
pub data IsDeclaration : List TokenKind → Item → List TokenKind → Type 0 where
  sort : {n : Name} {us : List TokenKind} → IsDeclaration (Word word.SORT ∷ Ident n ∷ us) (Item.Sort n) us
  constant : {n s : Name} {us : List TokenKind} → IsDeclaration (Word word.FUN ∷ Ident n ∷ Mark COLON ∷ Ident s ∷ us) (Item.Fun n [] s) us
  function : {n s : Name} {ts us : List TokenKind} {args : List Name}
      → AreNames ts args (Mark ARROW ∷ Ident s ∷ us) → IsDeclaration (Word word.FUN ∷ Ident n ∷ Mark COLON ∷ ts) (Item.Fun n args s) us
  proposition : {n : Name} {us : List TokenKind} → IsDeclaration (Word word.PRED ∷ Ident n ∷ us) (Item.Pred n []) us
  predicate : {n : Name} {ts us : List TokenKind} {args : List Name}
      → AreNames ts args us → IsDeclaration (Word word.PRED ∷ Ident n ∷ Mark COLON ∷ ts) (Item.Pred n args) us
  procedure : {n : Name} {ts us vs : List TokenKind} {values refs : List Var}
      → AreParameters ts values (Mark SEMICOLON ∷ us) → AreParameters us refs (Mark CLOSE ∷ vs)
      → IsDeclaration (Word word.PROC ∷ Ident n ∷ Mark OPEN ∷ ts) (Item.Proc n values refs None) vs

-- item = declaration ";"
pub data IsItem : List TokenKind → Item → List TokenKind → Type 0 where
  item : {ts us : List TokenKind} {i : Item} → IsDeclaration ts i (Mark SEMICOLON ∷ us) → IsItem ts i us

-- statement = name ":" form
pub data IsStatement : List TokenKind → Theorem → List TokenKind → Type 0 where
  statement : {n : Name} {ts us : List TokenKind} {f : RawForm} → ReadsForm ts f us
      → IsStatement (Ident n ∷ Mark COLON ∷ ts) (record { name = n; simp = false; form = f }) us

-- theorem = "theorem" statement ";"
pub data IsTheorem : List TokenKind → Theorem → List TokenKind → Type 0 where
  theorem : {ts us : List TokenKind} {t : Theorem} → IsStatement ts t (Mark SEMICOLON ∷ us) → IsTheorem (Word word.THEOREM ∷ ts) t us

abbrev pub path_steps : ℕ
path_steps = 500

-- a colon stands in the label
abbrev pub has_colon : Name → Bool
has_colon label = list_any (λ byte. byte == 58) label

-- labelled = label "=" script, where the label has no colon
pub data IsLabelled : List TokenKind → Proof → List TokenKind → Type 0 where
  labelled : {l : Name} {ts us vs : List TokenKind} {s : Script}
      → IsLabel ts l (Mark EQUAL ∷ us) → has_colon l ≡ false → IsScript path_steps us s vs → IsLabelled ts (record { name = l; script = s }) vs

-- proof = "proof" labelled "qed"
pub data IsProof : List TokenKind → Proof → List TokenKind → Type 0 where
  proof : {ts us : List TokenKind} {p : Proof} → IsLabelled ts p (Word word.QED ∷ us) → IsProof (Word word.PROOF ∷ ts) p us

-- things one after another, as many as there are
pub data Are {X : Type 0} (Is : List TokenKind → X → List TokenKind → Type 0) : List TokenKind → List X → List TokenKind → Type 0 where
  none : {us : List TokenKind} → Are Is us [] us
  more : {ts us vs : List TokenKind} {x : X} {rest : List X} → Is ts x us → Are Is us rest vs → Are Is ts (x ∷ rest) vs

abbrev pub AreItems : List TokenKind → List Item → List TokenKind → Type 0
AreItems = Are IsItem

abbrev pub AreTheorems : List TokenKind → List Theorem → List TokenKind → Type 0
AreTheorems = Are IsTheorem

abbrev pub AreProofs : List TokenKind → List Proof → List TokenKind → Type 0
AreProofs = Are IsProof

-- head = "unit" name "basic" items "end", a unit that has no theorems and proofs
pub data IsHead : List TokenKind → P.Unit → List TokenKind → Type 0 where
  head : {n : Name} {ts us : List TokenKind} {items : List Item} → AreItems ts items (Word word.END ∷ us)
      → IsHead (Word word.UNIT ∷ Ident n ∷ Word word.BASIC ∷ ts) (record { name = n; kind = Kind.Basic items; theorems = []; proofs = [] }) us

-- unit = head { theorem } { proof }
pub data IsUnit : List TokenKind → P.Unit → List TokenKind → Type 0 where
  unit : {ts us vs ws : List TokenKind} {head : P.Unit} {theorems : List Theorem} {proofs : List Proof}
      → IsHead ts head us → AreTheorems us theorems vs → AreProofs vs proofs ws
      → IsUnit ts (record { name = head.name; kind = head.kind; theorems = theorems; proofs = proofs }) ws

-- project = "project" 1 { unit }
abbrev pub AreUnits : List TokenKind → Project → List TokenKind → Type 0
AreUnits = Are IsUnit

pub data IsProject : List TokenKind → Project → Type 0 where
  project : {ts : List TokenKind} {p : Project} → AreUnits ts p [] → IsProject (Word word.PROJECT ∷ Number 1 ∷ ts) p

-- what a keyword or a name is written as
abbrev pub text_of : TokenKind → Option Name
text_of (Word row) = slice_get keyword_rows row
text_of (Ident n) = Some n
text_of (Number i) = None
text_of (Mark m) = None

-- what stands behind the word of a command
pub data IsArguments : ℕ → List TokenKind → Command → Type 0 where
  add : {ts : List TokenKind} {u : P.Unit} → IsHead ts u [] → IsArguments asked.ADD ts (Command.Add u)
  theorem : {n : Name} {ts : List TokenKind} {t : Theorem} → IsStatement ts t [] → IsArguments asked.THEOREM (Ident n ∷ ts) (Command.Theorem n t)
  proof : {n : Name} {ts : List TokenKind} {p : Proof} → IsLabelled ts p [] → IsArguments asked.PROOF (Ident n ∷ ts) (Command.Proof n p)
  status : IsArguments asked.STATUS [] Command.Status
  save : IsArguments asked.SAVE [] Command.Save

-- command = word arguments, where the word is a keyword or a name in the table of commands
pub data IsCommand : List TokenKind → Command → Type 0 where
  command : {k : TokenKind} {n : Name} {row : ℕ} {ts : List TokenKind} {c : Command}
      → text_of k ≡ Some n → row_of command_rows n ≡ Some row → IsArguments row ts c → IsCommand (k ∷ ts) c
