-- The longest reading as a function of the tokens, which the code computes. That it is the grammar's is proved.
use Rattle.std.specs.Prelude.{ℕ, zero, suc, Bool, true, false, if◌then◌else◌, ◌==◌, nat_le, List, [], ◌∷◌, length, Option, Some, None}
use Rattle.kv_lex.specs.declared.token.TokenKind.{TokenKind}
use Rattle.kv_lex.specs.declared.token.TokenKind.TheVariants.{Word, Ident, Number, Mark}
use Rattle.kv_lex.specs.Marks.{OPEN, CLOSE, COMMA, COLON, DOT, EQUAL, ARROW, DOUBLE_ARROW}
use Rattle.kv_table.specs.Keywords.{TRUE, FALSE, NOT, AND, OR, ALL, EX}
use Rattle.kv_names.specs.Names.{Name}
use Rattle.kv_raw.specs.RawTrees.{RawTerm, RawTerms, RawForm}
use Rattle.kv_raw.specs.RawCount.{raw_term_depth, raw_form_depth}
use Rattle.kv_names.specs.declared.symbols.Var.{Var}
use Rattle.kv_pexpr.specs.declared.levels.Level.{Level}
use Rattle.kv_pexpr.specs.declared.levels.Level.TheVariants as level

-- a tree and the tokens behind it
abbrev pub Read : Type 0 → Type 0
Read A = Option (A × List TokenKind)

abbrev pub given : {A B : Type 0} → Option A → (A → Option B) → Option B
given None f = None
given (Some x) f = f x

-- another tree before the same tokens
abbrev pub read_map : {A B : Type 0} → (A → B) → Read A → Read B
read_map f o = given o (λ r. Some (f r.0, r.1))

-- a longer reading, where there is one
abbrev pub or_stay : {A B : Type 0} → B → (A → B) → Option A → B
or_stay stay go None = stay
or_stay stay go (Some x) = go x

abbrev pub eat_mark : ℕ → List TokenKind → Option (List TokenKind)
eat_mark m [] = None
eat_mark m (Word k ∷ ts) = None
eat_mark m (Ident n ∷ ts) = None
eat_mark m (Number k ∷ ts) = None
eat_mark m (Mark k ∷ ts) = if k == m then Some ts else None

abbrev pub eat_word : ℕ → List TokenKind → Option (List TokenKind)
eat_word w [] = None
eat_word w (Word k ∷ ts) = if k == w then Some ts else None
eat_word w (Ident n ∷ ts) = None
eat_word w (Number k ∷ ts) = None
eat_word w (Mark k ∷ ts) = None

abbrev pub eat_name : List TokenKind → Read Name
eat_name [] = None
eat_name (Word k ∷ ts) = None
eat_name (Ident n ∷ ts) = Some (n, ts)
eat_name (Number k ∷ ts) = None
eat_name (Mark k ∷ ts) = None

-- what stands behind an operator, where the tree before it is low enough
abbrev pub behind : {A : Type 0} → Bool → Option (List TokenKind) → (List TokenKind → Read A) → Read A
behind true ts item = given ts item
behind false ts item = None

-- the closing bracket behind a tree
abbrev pub closed : {A : Type 0} → A × List TokenKind → Read A
closed r = given (eat_mark CLOSE r.1) (λ us. Some (r.0, us))

-- ---- terms

-- what follows the first term of a list
abbrev pub terms_after : (List TokenKind → Read RawTerms) → RawTerm × List TokenKind → Read RawTerms
terms_after rest r = or_stay (Some (RawTerms.more r.0 RawTerms.none, r.1)) (λ us. read_map (RawTerms.more r.0) (rest us)) (eat_mark COMMA r.1)

-- terms with commas between; the number bounds the turns
unfoldable pub terms : (List TokenKind → Read RawTerm) → ℕ → List TokenKind → Read RawTerms
terms item zero ts = None
terms item (suc k) ts = given (item ts) (terms_after (terms item k))

-- each term takes a token, so that the turns never run out
abbrev pub closed_terms : (List TokenKind → Read RawTerm) → List TokenKind → Read RawTerms
closed_terms item ts = given (terms item (length ts) ts) closed

-- arguments in brackets; the number is the brackets left
abbrev pub arguments : (ℕ → List TokenKind → Read RawTerm) → ℕ → List TokenKind → Read RawTerms
arguments item zero ts = None
arguments item (suc d) ts = given (eat_mark OPEN ts) (closed_terms (item d))

abbrev pub applied : (List TokenKind → Read RawTerms) → Name × List TokenKind → Read RawTerm
applied args r = or_stay (Some (RawTerm.App r.0 RawTerms.none, r.1)) (λ s. Some (RawTerm.App r.0 s.0, s.1)) (args r.1)

-- height left, brackets left
unfoldable pub term : ℕ → ℕ → List TokenKind → Read RawTerm
term zero d ts = None
term (suc h) d ts = given (eat_name ts) (applied (arguments (term h) d))

-- ---- formulas

-- brackets left, height left
abbrev pub Parser : Type 0
Parser = ℕ → ℕ → List TokenKind → Read RawForm

abbrev pub atom_of : RawTerm → RawForm
atom_of (RawTerm.App n args) = RawForm.Atom n args

-- a term alone, or an equation
abbrev pub equated : ℕ → ℕ → RawTerm × List TokenKind → Read RawForm
equated d h r = or_stay (Some (atom_of r.0, r.1)) (λ s. Some (RawForm.Equal r.0 s.0, s.1)) (behind (nat_le (raw_term_depth r.0) h) (eat_mark EQUAL r.1) (term h d))

abbrev pub equation : ℕ → ℕ → List TokenKind → Read RawForm
equation d h ts = given (term (suc h) d ts) (equated d h)

-- name ":" name "."
abbrev pub sort_after : Name → Name × List TokenKind → Read Var
sort_after x s = given (eat_mark DOT s.1) (λ us. Some (record { name = x; sort = s.0 }, us))

abbrev pub colon_after : Name × List TokenKind → Read Var
colon_after x = given (eat_mark COLON x.1) (λ us. given (eat_name us) (sort_after x.0))

abbrev pub bound_var : List TokenKind → Read Var
bound_var ts = given (eat_name ts) colon_after

abbrev pub bound : (Var → RawForm → RawForm) → (List TokenKind → Read RawForm) → Var × List TokenKind → Read RawForm
bound quantifier una x = read_map (quantifier x.0) (una x.1)

abbrev pub binder : (Var → RawForm → RawForm) → (List TokenKind → Read RawForm) → List TokenKind → Read RawForm
binder quantifier una ts = given (bound_var ts) (bound quantifier una)

abbrev pub bracketed : Parser → ℕ → ℕ → List TokenKind → Read RawForm
bracketed form zero h ts = None
bracketed form (suc d) h ts = given (form d h ts) closed

-- by the first token; one level of height is taken for it
abbrev pub una_by : Parser → Parser → ℕ → ℕ → List TokenKind → Read RawForm
una_by form una d h [] = None
una_by form una d h (Word w ∷ ts) =
    if w == NOT then read_map RawForm.Not (una d h ts)
    else (if w == ALL then binder RawForm.All (una d h) ts
    else (if w == EX then binder RawForm.Ex (una d h) ts
    else (if w == TRUE then Some (RawForm.True, ts)
    else (if w == FALSE then Some (RawForm.False, ts) else None))))
una_by form una d h (Ident n ∷ ts) = equation d h (Ident n ∷ ts)
una_by form una d h (Number k ∷ ts) = None
una_by form una d h (Mark m ∷ ts) = if m == OPEN then bracketed form d (suc h) ts else None

-- goes on while an operator comes and an operand behind it reads; the second number bounds the turns
unfoldable pub chain : (RawForm → RawForm → RawForm) → (List TokenKind → Option (List TokenKind)) → (List TokenKind → Read RawForm) → ℕ → ℕ → RawForm → List TokenKind → Read RawForm
chain op eat item h zero p us = Some (p, us)
chain op eat item h (suc k) p us = or_stay (Some (p, us)) (λ r. chain op eat item h k (op p r.0) r.1) (behind (nat_le (raw_form_depth p) h) (eat us) item)

-- operators to the left; each turn is a level of height, so that the turns never run out
abbrev pub lefts : (RawForm → RawForm → RawForm) → ℕ → ℕ → (List TokenKind → Read RawForm) → RawForm × List TokenKind → Read RawForm
lefts op word h item r = chain op (eat_word word) item h (suc h) r.0 r.1

-- one operator, to the right
abbrev pub right : (RawForm → RawForm → RawForm) → ℕ → ℕ → (List TokenKind → Read RawForm) → RawForm × List TokenKind → Read RawForm
right op mark h item r = or_stay (Some (r.0, r.1)) (λ s. Some (op r.0 s.0, s.1)) (behind (nat_le (raw_form_depth r.0) h) (eat_mark mark r.1) item)

-- one more level of recursion
module _ (r : Level → Parser) where
  abbrev pub una_rule : Parser
  una_rule d zero ts = None
  una_rule d (suc h) ts = una_by (r level.Form) (r level.Una) d h ts

  abbrev pub con_rule : Parser
  con_rule d zero ts = None
  con_rule d (suc h) ts = given (una_rule d (suc h) ts) (lefts RawForm.And AND h (r level.Una d h))

  abbrev pub dis_rule : Parser
  dis_rule d zero ts = None
  dis_rule d (suc h) ts = given (con_rule d (suc h) ts) (lefts RawForm.Or OR h (r level.Con d h))

  abbrev pub imp_rule : Parser
  imp_rule d zero ts = None
  imp_rule d (suc h) ts = given (dis_rule d (suc h) ts) (right RawForm.Imp ARROW h (r level.Imp d h))

  abbrev pub form_rule : Parser
  form_rule d zero ts = None
  form_rule d (suc h) ts = given (imp_rule d (suc h) ts) (right RawForm.Iff DOUBLE_ARROW h (r level.Imp d h))

  abbrev pub rule : Level → Parser
  rule level.Form = form_rule
  rule level.Imp = imp_rule
  rule level.Dis = dis_rule
  rule level.Con = con_rule
  rule level.Una = una_rule

-- the number bounds the recursion
unfoldable pub read : ℕ → Level → Parser
read zero l d h ts = None
read (suc n) l d h ts = rule (read n) l d h ts
