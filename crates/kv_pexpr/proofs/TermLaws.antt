-- The function reads terms as the grammar does.
use Rattle.std.proofs.Common.{ℕ, zero, suc, ◌≡◌, ◌≤◌, ◌<◌, List, ◌∷◌, length, refl, ap, subst, arith, inl, inr, lit<}
use Rattle.std.specs.Prelude.{Some}
use Rattle.kv_lex.specs.declared.token.TokenKind.{TokenKind}
use Rattle.kv_lex.specs.declared.token.TokenKind.TheVariants.{Ident, Mark}
use Rattle.kv_lex.specs.Marks.{OPEN, CLOSE, COMMA}
use Rattle.kv_names.specs.Names.{Name}
use Rattle.kv_raw.specs.RawTrees.{RawTerm, RawTerms}
use Rattle.kv_raw.specs.RawCount.{raw_term_depth, raw_terms_depth}
use Rattle.kv_pexpr.specs.Grammar as g
use Rattle.kv_pexpr.specs.Grammar.{IsTerm, AreTerms}
use Rattle.kv_pexpr.specs.Parse.{eat_mark, eat_name, or_stay, read_map, closed, term, terms, terms_after, closed_terms, arguments, applied, Read}
use Rattle.kv_pexpr.proofs.Binds.{binds, no_mark}
use Rattle.kv_pexpr.proofs.Reaches.{Reaches, or_reaches}
use Rattle.kv_pexpr.proofs.Steps.{some_is, given_some, stay_or, mark_some, name_some}

-- a term takes a token at least
mutual
  pub term_takes : {d : ℕ} {ts us : List TokenKind} {t : RawTerm} → IsTerm d ts t us → length us < length ts
  term_takes g.name = omega arith
  term_takes (g.applied r) = omega (arith, terms_take r)

  terms_take : {d : ℕ} {ts us : List TokenKind} {args : RawTerms} → AreTerms d ts args us → length us < length ts
  terms_take (g.last r) = term_takes r
  terms_take (g.more r s) = omega (arith, term_takes r, terms_take s)

-- ---- what the function reads, the grammar reads

abbrev pub TermIs : ℕ → ℕ → List TokenKind → RawTerm × List TokenKind → Type 0
TermIs d h ts r = IsTerm d ts r.0 r.1 × (raw_term_depth r.0 ≤ h)

abbrev TermsAre : ℕ → ℕ → List TokenKind → RawTerms × List TokenKind → Type 0
TermsAre d h ts r = AreTerms d ts r.0 r.1 × (raw_terms_depth r.0 ≤ h)

sound_terms : (d h : ℕ) (item : List TokenKind → Read RawTerm) → ((ts : List TokenKind) (r : RawTerm × List TokenKind) → item ts ≡ Some r → TermIs d h ts r)
    → (k : ℕ) (ts : List TokenKind) (r : RawTerms × List TokenKind) → terms item k ts ≡ Some r → TermsAre d h ts r
unfolding terms
sound_terms d h item each zero ts r e = cc
sound_terms d h item each (suc k) ts r e =
    let first = given_some (item ts) (terms_after (terms item k)) e in
    let t = each ts first.0 first.1 in
    elim (stay_or (Some (RawTerms.more first.0.0 RawTerms.none, first.0.1)) (λ us. read_map (RawTerms.more first.0.0) (terms item k us)) (eat_mark COMMA first.0.1) first.2) [
      | inl s ↦ (let more = given_some (terms item k s.0) (λ x. Some (RawTerms.more first.0.0 x.0, x.1)) s.2 in
          let rest = sound_terms d h item each k s.0 more.0 more.1 in
          let t' = rw (mark_some COMMA first.0.1 s.0 s.1) at t.0 in
          subst (TermsAre d h ts) (some_is more.2) (g.more t' rest.0, omega (arith, t.1, rest.1)))
      | inr s ↦ subst (TermsAre d h ts) (some_is s.1) (g.last t.0, omega (arith, t.1))
    ]

sound_arguments : (d h : ℕ) (item : ℕ → List TokenKind → Read RawTerm) → ((ts : List TokenKind) (r : RawTerm × List TokenKind) → item d ts ≡ Some r → TermIs d h ts r)
    → (n : Name) (ts : List TokenKind) (r : RawTerms × List TokenKind) → arguments item (suc d) ts ≡ Some r → TermIs (suc d) (suc h) (Ident n ∷ ts) (RawTerm.App n r.0, r.1)
sound_arguments d h item each n ts r e =
    let opened = given_some (eat_mark OPEN ts) (closed_terms (item d)) e in
    let args = given_some (terms (item d) (length opened.0) opened.0) closed opened.2 in
    let close = given_some (eat_mark CLOSE args.0.1) (λ us. Some (args.0.0, us)) args.2 in
    let are = sound_terms d h (item d) each (length opened.0) opened.0 args.0 args.1 in
    let are' = rw (mark_some CLOSE args.0.1 close.0 close.1) at are.0 in
    rw (mark_some OPEN ts opened.0 opened.1)
    (subst (λ x. TermIs (suc d) (suc h) (Ident n ∷ Mark OPEN ∷ opened.0) (RawTerm.App n x.0, x.1)) (some_is close.2) (g.applied are', omega (arith, are.1)))

pub sound_term : (h d : ℕ) (ts : List TokenKind) (r : RawTerm × List TokenKind) → term h d ts ≡ Some r → TermIs d h ts r
unfolding term
sound_term zero d ts r e = cc
sound_term (suc h) zero ts r e =
    let first = given_some (eat_name ts) (applied (arguments (term h) zero)) e in
    rw (name_some ts first.0 first.1) (subst (TermIs zero (suc h) (Ident first.0.0 ∷ first.0.1)) (some_is first.2) (g.name, omega arith))
sound_term (suc h) (suc d) ts r e =
    let first = given_some (eat_name ts) (applied (arguments (term h) (suc d))) e in
    rw (name_some ts first.0 first.1)
    (elim (stay_or (Some (RawTerm.App first.0.0 RawTerms.none, first.0.1)) (λ s. Some (RawTerm.App first.0.0 s.0, s.1)) (arguments (term h) (suc d) first.0.1) first.2) [
      | inl s ↦ subst (TermIs (suc d) (suc h) (Ident first.0.0 ∷ first.0.1)) (some_is s.2) (sound_arguments d h (term h) (sound_term h d) first.0.0 first.0.1 s.0 s.1)
      | inr s ↦ subst (TermIs (suc d) (suc h) (Ident first.0.0 ∷ first.0.1)) (some_is s.1) (g.name, omega arith)
    ])

-- ---- what the grammar reads, the function reads

mutual
  unfolding term terms

  pub exact_term : {d : ℕ} {ts us : List TokenKind} {t : RawTerm} → IsTerm d ts t us → (h : ℕ) → raw_term_depth t ≤ h → 0 < binds us → term h d ts ≡ Some (t, us)
  exact_term g.name zero low stop = absurd (omega arith)
  exact_term (g.applied r) zero low stop = absurd (omega arith)
  exact_term (g.name {d = zero} {us = us}) (suc h) low stop = refl
  exact_term (g.name {d = suc d} {us = us}) (suc h) low stop = rw (no_mark OPEN us stop)
  exact_term (g.applied {ts = ts} r) (suc h) low stop = rw (exact_terms r h (length ts) (omega arith) (omega arith) (lit< tt))

  exact_terms : {d : ℕ} {ts us : List TokenKind} {args : RawTerms} → AreTerms d ts args us → (h k : ℕ) → raw_terms_depth args ≤ h
      → length ts ≤ k → 6 < binds us → terms (term h d) k ts ≡ Some (args, us)
  exact_terms (g.last {ts = ts} r) h zero low turns stop = absurd (omega (arith, term_takes r))
  exact_terms (g.more {ts = ts} r s) h zero low turns stop = absurd (omega (arith, term_takes r))
  exact_terms (g.last {ts = ts} {us = us} r) h (suc k) low turns stop = rw (exact_term r h (omega arith) (omega arith), no_mark COMMA us stop)
  exact_terms (g.more {ts = ts} {us = us} r s) h (suc k) low turns stop =
      rw (exact_term r h (omega arith) (lit< tt), exact_terms s h k (omega arith) (omega (arith, term_takes r)) stop)

-- ---- no reading is longer than the one that the function finds

pub longest_term : {d : ℕ} {ts us : List TokenKind} {t : RawTerm} → IsTerm d ts t us → (h : ℕ) → raw_term_depth t ≤ h → Reaches us (term h d ts)
unfolding term terms
longest_term g.name zero low = absurd (omega arith)
longest_term (g.applied r) zero low = absurd (omega arith)
longest_term (g.name {d = d} {n = n} {us = us}) (suc h) low =
    or_reaches us (Some (RawTerm.App n RawTerms.none, us)) (λ s. Some (RawTerm.App n s.0, s.1)) (arguments (term h) d us) ((RawTerm.App n RawTerms.none, us), refl, omega arith) (λ s e.
    let is = sound_term (suc h) d (Ident n ∷ us) (RawTerm.App n s.0, s.1) (ap (or_stay (Some (RawTerm.App n RawTerms.none, us)) (λ s. Some (RawTerm.App n s.0, s.1))) e) in
    ((RawTerm.App n s.0, s.1), refl, omega (arith, term_takes is.0)))
longest_term (g.applied {n = n} {ts = ts} {us = us} {args = args} r) (suc h) low =
    ((RawTerm.App n args, us), rw (exact_terms r h (length ts) (omega arith) (omega arith) (lit< tt)), omega arith)
