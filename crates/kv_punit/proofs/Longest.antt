-- The longest term and the longest formula, as the readers compute them.
use Rattle.std.proofs.Common.{ℕ, ◌≡◌, ◌≤◌, ◌<◌, List, [], ◌∷◌, ◌++◌, length, drop, refl, ap, ◌∙◌, sym, subst, arith}
use Rattle.std.specs.Prelude.{Option, Some, None, Err}
use Rattle.std.proofs.lemmas.List.{length-append, length-map}
use Rattle.std.proofs.Math.Seq.{drop-append_seam}
use Rattle.kv_lex.specs.declared.token.Token.{Token}
use Rattle.kv_lex.specs.declared.token.TokenKind.{TokenKind}
use Rattle.kv_pexpr.specs.Gives.{kinds, Gives}
use Rattle.kv_pexpr.specs.Grammar.{ReadsForm, ReadsTerm, Stops, TermStops}
use Rattle.kv_pexpr.specs.Parse.{Read}
use Rattle.kv_pexpr.specs.Readings.{IsLongest}
use Rattle.kv_pexpr.specs.declared.errors.ReadError.{ReadError}
use Rattle.kv_pexpr.specs.declared.errors.ReadError.TheVariants as reader
use Rattle.kv_pexpr.proofs.Finds.{Finds, one_tree}
use Rattle.kv_pexpr.proofs.One.{form_finds, term_finds}
use Rattle.kv_punit.specs.Parse.{longest_form, longest_term}

pub form_longest : Finds ReadsForm Stops longest_form
unfolding longest_form
form_longest = form_finds

pub term_longest : Finds ReadsTerm TermStops longest_term
unfolding longest_term
term_longest = term_finds

-- the same list in two parts, of which the second are equally long
same_rest : {X : Type 0} (front before us vs : List X) → front ++ us ≡ before ++ vs → length us ≡ length vs → us ≡ vs
same_rest front before us vs e long =
    let n : length front ≡ length before = omega (arith, ap length e, length-append front us, length-append before vs) in
    sym (drop-append_seam front us) ∙ ap (drop (length front)) e ∙ ap (λ k. drop k (before ++ vs)) n ∙ drop-append_seam before vs

module _ {P : Type 0} {Reads : List TokenKind → P → List TokenKind → Type 0} {Stop : List TokenKind → Type 0} {parse : List TokenKind → Read P} (finds : Finds Reads Stop parse) where
  -- a reading takes a token at least
  pub takes_some : (ts us : List TokenKind) (p : P) → Reads ts p us → length us < length ts
  takes_some ts us p reads = let f = finds.front ts us p reads in omega (arith, f.some, ap length f.is, length-append f.front us)

  -- a reading that no other one passes is what is computed
  pub computed : (ts us : List TokenKind) (p : P) → Reads ts p us → ((q : P) (vs : List TokenKind) → Reads ts q vs → length us ≤ length vs) → parse ts ≡ Some (p, us)
  computed ts us p reads longest =
      let a = finds.reaches ts us p reads in
      let other : Reads ts a.0.0 a.0.1 = finds.sound ts a.0 a.1 in
      let f = finds.front ts us p reads in
      let g = finds.front ts a.0.1 a.0.0 other in
      let low : length us ≤ length a.0.1 = longest a.0.0 a.0.1 other in
      let rest : a.0.1 ≡ us = same_rest g.front f.front a.0.1 us (sym g.is ∙ f.is) (omega (arith, low, a.2)) in
      let tree : a.0.0 ≡ p = one_tree finds ts us a.0.0 p (subst (λ vs. Reads ts a.0.0 vs) rest other) reads in
      a.1 ∙ ap (λ q. Some (q, a.0.1)) tree ∙ ap (λ vs. Some (p, vs)) rest

  none_of : (ts : List TokenKind) (o : Read P) → parse ts ≡ o → ((q : P) (vs : List TokenKind) → Reads ts q vs → ⊥) → parse ts ≡ None
  none_of ts None e absent = e
  none_of ts (Some r) e absent = absurd (absent r.0 r.1 (finds.sound ts r e))

  -- what the longest reading at the first place is, by places
  pub given : (tokens : List Token) (at : ℕ) (p : P) → Reads (kinds tokens) p (kinds (drop at tokens))
      → ((q : P) (vs : List TokenKind) → Reads (kinds tokens) q vs → length (drop at tokens) ≤ length vs) → parse (kinds tokens) ≡ Some (p, kinds (drop at tokens))
  given tokens at p reads longest =
      computed (kinds tokens) (kinds (drop at tokens)) p reads
      (λ q vs r. omega (arith, longest q vs r, length-map (drop at tokens) (λ (t : Token). t.kind)))

  pub not_given : {W : Type 0} (X : Type 0) (view : W → P × List TokenKind) (tokens : List Token) (e : ReadError) → IsLongest {X = X} Reads tokens 0 (Err e) → Gives view (Err e) (parse (kinds tokens))
  not_given X view tokens reader.Syntax absent = none_of (kinds tokens) (parse (kinds tokens)) refl absent
  not_given X view tokens reader.NoMemory absent = tt
