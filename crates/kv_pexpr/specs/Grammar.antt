-- The grammar of terms and formulas, line by line; its programs aren't read yet. Each relation reads: the tokens ts begin
-- with a spelling of the tree, in which at most d pairs of brackets stand open around one place, and us are the tokens
-- behind it.
use Rattle.std.specs.Prelude.{ℕ, suc, List, ◌∷◌, ◌≤◌, ◌≢◌}
use Rattle.kv_lex.specs.declared.token.TokenKind.{TokenKind}
use Rattle.kv_lex.specs.declared.token.TokenKind.TheVariants.{Word, Ident, Mark}
use Rattle.kv_lex.specs.Marks.{OPEN, CLOSE, COMMA, COLON, DOT, EQUAL, ARROW, DOUBLE_ARROW}
use Rattle.kv_table.specs.Keywords.{TRUE, FALSE, NOT, AND, OR, ALL, EX}
use Rattle.kv_names.specs.Names.{Name}
use Rattle.kv_raw.specs.RawTrees.{RawTerm, RawTerms, RawForm}
use Rattle.kv_raw.specs.RawCount.{raw_term_depth, raw_form_depth}
use Rattle.kv_names.specs.declared.symbols.Var.{Var}

mutual
  -- term = name [ "(" term { "," term } ")" ]
  pub data IsTerm : ℕ → List TokenKind → RawTerm → List TokenKind → Type 0 where
    name : {d : ℕ} {n : Name} {us : List TokenKind} → IsTerm d (Ident n ∷ us) (RawTerm.App n RawTerms.none) us
    applied : {d : ℕ} {n : Name} {ts us : List TokenKind} {args : RawTerms}
        → AreTerms d ts args (Mark CLOSE ∷ us) → IsTerm (suc d) (Ident n ∷ Mark OPEN ∷ ts) (RawTerm.App n args) us

  -- term { "," term }
  pub data AreTerms : ℕ → List TokenKind → RawTerms → List TokenKind → Type 0 where
    last : {d : ℕ} {ts us : List TokenKind} {t : RawTerm} → IsTerm d ts t us → AreTerms d ts (RawTerms.more t RawTerms.none) us
    more : {d : ℕ} {ts us vs : List TokenKind} {t : RawTerm} {args : RawTerms}
        → IsTerm d ts t (Mark COMMA ∷ us) → AreTerms d us args vs → AreTerms d ts (RawTerms.more t args) vs

mutual
  -- form = imp ["<->" imp]
  pub data IsForm : ℕ → List TokenKind → RawForm → List TokenKind → Type 0 where
    imp : {d : ℕ} {ts us : List TokenKind} {p : RawForm} → IsImp d ts p us → IsForm d ts p us
    iff : {d : ℕ} {ts us vs : List TokenKind} {p q : RawForm}
        → IsImp d ts p (Mark DOUBLE_ARROW ∷ us) → IsImp d us q vs → IsForm d ts (RawForm.Iff p q) vs

  -- imp = dis ["->" imp]
  pub data IsImp : ℕ → List TokenKind → RawForm → List TokenKind → Type 0 where
    dis : {d : ℕ} {ts us : List TokenKind} {p : RawForm} → IsDis d ts p us → IsImp d ts p us
    arrow : {d : ℕ} {ts us vs : List TokenKind} {p q : RawForm}
        → IsDis d ts p (Mark ARROW ∷ us) → IsImp d us q vs → IsImp d ts (RawForm.Imp p q) vs

  -- dis = con { "or" con }, to the left
  pub data IsDis : ℕ → List TokenKind → RawForm → List TokenKind → Type 0 where
    con : {d : ℕ} {ts us : List TokenKind} {p : RawForm} → IsCon d ts p us → IsDis d ts p us
    or : {d : ℕ} {ts us vs : List TokenKind} {p q : RawForm}
        → IsDis d ts p (Word OR ∷ us) → IsCon d us q vs → IsDis d ts (RawForm.Or p q) vs

  -- con = una { "and" una }, to the left
  pub data IsCon : ℕ → List TokenKind → RawForm → List TokenKind → Type 0 where
    una : {d : ℕ} {ts us : List TokenKind} {p : RawForm} → IsUna d ts p us → IsCon d ts p us
    and : {d : ℕ} {ts us vs : List TokenKind} {p q : RawForm}
        → IsCon d ts p (Word AND ∷ us) → IsUna d us q vs → IsCon d ts (RawForm.And p q) vs

  -- una = "not" una | ("all" | "ex") name ":" name "." una | prim
  -- prim = "true" | "false" | "(" form ")" | term ["=" term]
  pub data IsUna : ℕ → List TokenKind → RawForm → List TokenKind → Type 0 where
    not : {d : ℕ} {ts us : List TokenKind} {p : RawForm} → IsUna d ts p us → IsUna d (Word NOT ∷ ts) (RawForm.Not p) us
    all : {d : ℕ} {x : Var} {ts us : List TokenKind} {p : RawForm}
        → IsUna d ts p us → IsUna d (Word ALL ∷ Ident x.name ∷ Mark COLON ∷ Ident x.sort ∷ Mark DOT ∷ ts) (RawForm.All x p) us
    ex : {d : ℕ} {x : Var} {ts us : List TokenKind} {p : RawForm}
        → IsUna d ts p us → IsUna d (Word EX ∷ Ident x.name ∷ Mark COLON ∷ Ident x.sort ∷ Mark DOT ∷ ts) (RawForm.Ex x p) us
    true : {d : ℕ} {us : List TokenKind} → IsUna d (Word TRUE ∷ us) RawForm.True us
    false : {d : ℕ} {us : List TokenKind} → IsUna d (Word FALSE ∷ us) RawForm.False us
    brackets : {d : ℕ} {ts us : List TokenKind} {p : RawForm}
        → IsForm d ts p (Mark CLOSE ∷ us) → IsUna (suc d) (Mark OPEN ∷ ts) p us
    atom : {d : ℕ} {ts us : List TokenKind} {n : Name} {args : RawTerms}
        → IsTerm d ts (RawTerm.App n args) us → IsUna d ts (RawForm.Atom n args) us
    equal : {d : ℕ} {ts us vs : List TokenKind} {t u : RawTerm}
        → IsTerm d ts t (Mark EQUAL ∷ us) → IsTerm d us u vs → IsUna d ts (RawForm.Equal t u) vs

-- how high a tree of a text may be, and how many pairs of brackets may stand open around one place
abbrev pub tree_height : ℕ
tree_height = 150

abbrev pub open_brackets : ℕ
open_brackets = 150

-- what reads as a formula, and as a term
abbrev pub ReadsForm : List TokenKind → RawForm → List TokenKind → Type 0
ReadsForm ts p us = IsForm open_brackets ts p us × (raw_form_depth p ≤ tree_height)

abbrev pub ReadsTerm : List TokenKind → RawTerm → List TokenKind → Type 0
ReadsTerm ts t us = IsTerm open_brackets ts t us × (raw_term_depth t ≤ tree_height)

-- a term can't go on there: no arguments come
abbrev pub TermStops : List TokenKind → Type 0
TermStops ts = (us : List TokenKind) → ts ≢ Mark OPEN ∷ us

-- a formula can't go on there: neither arguments come nor an operator
abbrev pub Stops : List TokenKind → Type 0
Stops ts = (us : List TokenKind) → (ts ≢ Mark OPEN ∷ us) × (ts ≢ Mark EQUAL ∷ us) × (ts ≢ Word AND ∷ us) × (ts ≢ Word OR ∷ us) × (ts ≢ Mark ARROW ∷ us) × (ts ≢ Mark DOUBLE_ARROW ∷ us)
