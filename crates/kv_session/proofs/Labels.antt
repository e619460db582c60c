-- Labels by their names.
use Rattle.std.proofs.Common.{ℕ, suc, ◌≡◌, ◌<◌, List, [], ◌∷◌, ◌++◌, length, get_or, refl, ap, ◌∙◌, sym, arith, inl, inr, append_assoc, append-nil}
use Rattle.std.specs.Prelude.{Bool, true, false, cond, ◌==◌}
use Rattle.std.specs.Str.{chars, NoCharPasses, NonePass, encode_utf8_all}
use Rattle.std.proofs.lemmas.Bool.Decides.{eqb_tells}
use Rattle.std.proofs.lemmas.Str.{encodes-chars}
use Rattle.std.proofs.lemmas.Str.Pattern.{NoCharPasses-char}
use Rattle.std.proofs.lemmas.List.Folds.{list_any-append}
use Rattle.unicode_ident.specs.Ident.{is_xid_start, is_xid_continue}
use Rattle.unicode_ident.proofs.IdentLemmas.{is_xid_start-ascii, is_xid_continue-ascii}
use Rattle.kv_lex.specs.Tokens.{past}
use Rattle.kv_lex.specs.Marks.{DOT}
use Rattle.kv_lex.specs.declared.token.TokenKind.{TokenKind}
use Rattle.kv_lex.specs.declared.token.TokenKind.TheVariants.{Ident, Mark}
use Rattle.kv_punit.specs.Grammar.{has_colon}
use Rattle.kv_punit.specs.Grammar as g
use Rattle.kv_session.specs.Spellable.{IsName, IsLabel}
use Rattle.kv_session.specs.Spellable as s
use Rattle.kv_session.proofs.Tokens.{label_kinds}
use Rattle.kv_session.proofs.Words.{name_run}
use Rattle.kv_names.specs.Names.{Name}

-- no byte of the name is that byte
abbrev pub Lacks : ℕ → Name → Type 0
Lacks sign [] = Unit {0}
Lacks sign (b ∷ bs) = ((b == sign) ≡ false) × Lacks sign bs

pub name_alone : (done n : Name) → Lacks 46 n → label_kinds done n ≡ Ident (done ++ n) ∷ []
name_alone done [] lacks = ap (λ m. Ident m ∷ []) (sym (append-nil done))
name_alone done (b ∷ bs) lacks = rw lacks.0 (name_alone (done ++ (b ∷ [])) bs lacks.1 ∙ ap (λ m. Ident m ∷ []) (append_assoc done (b ∷ []) bs))

pub name_first : (done n more : Name) → Lacks 46 n → label_kinds done (n ++ (46 ∷ more)) ≡ Ident (done ++ n) ∷ Mark DOT ∷ label_kinds [] more
name_first done [] more lacks = ap (λ m. Ident m ∷ Mark DOT ∷ label_kinds [] more) (sym (append-nil done))
name_first done (b ∷ bs) more lacks = rw lacks.0 (name_first (done ++ (b ∷ [])) bs more lacks.1 ∙ ap (λ m. Ident m ∷ Mark DOT ∷ label_kinds [] more) (append_assoc done (b ∷ []) bs))

-- ---- a name has no full stop and no colon

by_index : (sign : ℕ) (n : Name) → ((i : ℕ) → i < length n → get_or n i 0 ≡ sign → ⊥) → Lacks sign n
by_index sign [] none = tt
by_index sign (b ∷ bs) none = (elim (eqb_tells b sign) [ inl t ↦ absurd (none 0 (omega arith) t.1) | inr f ↦ f.0 ], by_index sign bs (λ i below e. none (suc i) (omega arith) e))

-- a character that passes a test is none that doesn't
differs : (passes : ℕ → Bool) (sign c : ℕ) → passes sign ≡ false → passes c ≡ true → (c == sign) ≡ false
differs passes sign c fails is = elim (eqb_tells c sign) [
  | inl same ↦ absurd (let e = ap passes same.1 in cc (e, fails, is))
  | inr other ↦ other.0
]

lacks_on : (b : Bool) (sign c : ℕ) (cs : List ℕ) → is_xid_continue c ≡ b → is_xid_continue sign ≡ false → cond b (past is_xid_continue cs) (c ∷ cs) ≡ []
    → (past is_xid_continue cs ≡ [] → NonePass (λ d. d == sign) cs) → NonePass (λ d. d == sign) (c ∷ cs)
lacks_on true sign c cs is fails e next = (differs is_xid_continue sign c fails is, next e)
lacks_on false sign c cs is fails e next = absurd (cc)

run_lacks : (sign : ℕ) (cs : List ℕ) → is_xid_continue sign ≡ false → past is_xid_continue cs ≡ [] → NonePass (λ c. c == sign) cs
run_lacks sign [] fails e = tt
run_lacks sign (c ∷ cs) fails e = lacks_on (is_xid_continue c) sign c cs refl fails e (λ rest. run_lacks sign cs fails rest)

pub name_lacks : (sign : ℕ) (n : Name) → IsName n → sign < 128 → is_xid_start sign ≡ false → is_xid_continue sign ≡ false → Lacks sign n
name_lacks sign n is low no_start no_more =
    let r = name_run (chars n) n [] is.reads in
    let none : NonePass (λ c. c == sign) (r.first ∷ r.others) = (differs is_xid_start sign r.first no_start r.starts, run_lacks sign r.others no_more r.left) in
    let passes : NoCharPasses (λ c. c == sign) n = (r.first ∷ r.others, ap encode_utf8_all (sym r.is) ∙ encodes-chars n is.text, none) in
    by_index sign n (λ i below. NoCharPasses-char sign n i passes low below)

pub no_dot : (n : Name) → IsName n → Lacks 46 n
no_dot n is = name_lacks 46 n is (omega arith) (is_xid_start-ascii 46 (omega arith)) (is_xid_continue-ascii 46 (omega arith))

pub no_colon : (n : Name) → IsName n → Lacks 58 n
no_colon n is = name_lacks 58 n is (omega arith) (is_xid_start-ascii 58 (omega arith)) (is_xid_continue-ascii 58 (omega arith))

-- ---- the grammar of labels

pub label_reads : {l : Name} → IsLabel l → (us : List TokenKind) → g.IsLabel (label_kinds [] l ++ us) l us
label_reads (s.name {n = n} is) us = rw (name_alone [] n (no_dot n is)) g.name
label_reads (s.dot {n = n} {l = l} is rest) us = rw (name_first [] n l (no_dot n is)) (g.dot (label_reads rest us))

lacks_none : (n : Name) → Lacks 58 n → has_colon n ≡ false
lacks_none [] lacks = refl
lacks_none (b ∷ bs) lacks = rw lacks.0 (lacks_none bs lacks.1)

pub label_no_colon : {l : Name} → IsLabel l → has_colon l ≡ false
label_no_colon (s.name {n = n} is) = lacks_none n (no_colon n is)
label_no_colon (s.dot {n = n} {l = l} is rest) =
    list_any-append (λ b. b == 58) n (46 ∷ l) ∙ rw (lacks_none n (no_colon n is)) (label_no_colon rest)
