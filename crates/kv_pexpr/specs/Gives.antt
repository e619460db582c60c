-- What a function that reads ensures.
use Rattle.std.specs.Prelude.{ℕ, ◌≡◌, ◌≤◌, List, map, Result, Ok, Err, Option, Some, None}
use Rattle.kv_lex.specs.declared.token.Token.{Token}
use Rattle.kv_lex.specs.declared.token.TokenKind.{TokenKind}
use Rattle.kv_raw.specs.RawTrees as P
use Rattle.kv_raw.specs.RawBridge.{raw_term, raw_terms, raw_form}
use Rattle.kv_raw.specs.RawCount.{raw_term_depth, raw_terms_depth, raw_form_depth}
use Rattle.kv_raw.specs.declared.raws.RawForm.{RawForm}
use Rattle.kv_raw.specs.declared.raws.RawTerm.{RawTerm}
use Rattle.kv_names.specs.declared.symbols.Var.{Var}
use Rattle.kv_pexpr.specs.declared.errors.ReadError.{ReadError}
use Rattle.kv_pexpr.specs.declared.errors.ReadError.TheVariants.{Syntax, NoMemory}
use Rattle.kv_pexpr.specs.declared.found.Found.{Found}
use Rattle.kv_pexpr.specs.declared.levels.Operator.{Operator}
use Rattle.kv_pexpr.specs.declared.levels.Operator.TheVariants as operator
use Rattle.kv_pexpr.specs.declared.levels.Quantifier.{Quantifier}
use Rattle.kv_pexpr.specs.declared.levels.Quantifier.TheVariants as quantifier

abbrev pub kinds : List Token → List TokenKind
kinds = map (λ t. t.kind)

-- the tree that was found as plain data, and the kinds of the tokens behind it
abbrev pub seen : Found RawForm → P.RawForm × List TokenKind
seen found = (raw_form found.tree, kinds found.rest.now)

abbrev pub seen_term : Found RawTerm → P.RawTerm × List TokenKind
seen_term found = (raw_term found.tree, kinds found.rest.now)

abbrev pub seen_terms : Found (List RawTerm) → P.RawTerms × List TokenKind
seen_terms found = (raw_terms found.tree, kinds found.rest.now)

-- what a function returned, seen by view, is what reading gives, unless memory ran out
abbrev pub Gives : {X Y : Type 0} → (X → Y) → Result X ReadError → Option Y → Type 0
Gives view (Ok x) read = read ≡ Some (view x)
Gives view (Err Syntax) read = read ≡ None
Gives view (Err NoMemory) read = Unit {0}

-- the height that is told is the tree's, and within the limit
abbrev pub IsHigh : ℕ → Result (Found RawForm) ReadError → Type 0
IsHigh h (Ok found) = (raw_form_depth (raw_form found.tree) ≡ found.height) × (found.height ≤ h)
IsHigh h (Err e) = Unit {0}

abbrev pub IsHighTerm : ℕ → Result (Found RawTerm) ReadError → Type 0
IsHighTerm h (Ok found) = (raw_term_depth (raw_term found.tree) ≡ found.height) × (found.height ≤ h)
IsHighTerm h (Err e) = Unit {0}

abbrev pub AreHighTerms : ℕ → Result (Found (List RawTerm)) ReadError → Type 0
AreHighTerms h (Ok found) = (raw_terms_depth (raw_terms found.tree) ≡ found.height) × (found.height ≤ h)
AreHighTerms h (Err e) = Unit {0}

-- what an operator makes of two formulas, and a quantifier of one
abbrev pub joined : Operator → P.RawForm → P.RawForm → P.RawForm
joined operator.And p q = P.RawForm.And p q
joined operator.Or p q = P.RawForm.Or p q
joined operator.Imp p q = P.RawForm.Imp p q
joined operator.Iff p q = P.RawForm.Iff p q

abbrev pub quantified : Quantifier → Var → P.RawForm → P.RawForm
quantified quantifier.All x p = P.RawForm.All x p
quantified quantifier.Ex x p = P.RawForm.Ex x p
