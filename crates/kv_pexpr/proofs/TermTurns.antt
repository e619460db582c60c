-- The steps of reading a term, as the code takes them. The loop reads plain terms one after another.
use Rattle.std.proofs.Common.{◌≡◌, ℕ, suc, ◌+◌, ◌-◌, ◌<◌, ◌≤◌, ap, ◌∙◌, sym, arith, List, [], ◌∷◌, ◌++◌, max, refl}
use Rattle.std.specs.Prelude.{Some, None}
use Rattle.kv_lex.specs.declared.token.TokenKind.{TokenKind}
use Rattle.kv_lex.specs.Marks.{COMMA}
use Rattle.kv_names.specs.Names.{Name}
use Rattle.kv_raw.specs.RawTrees.{RawTerm, RawTerms}
use Rattle.kv_raw.specs.RawCount.{raw_term_depth, raw_terms_depth}
use Rattle.kv_pexpr.specs.Parse.{term, terms, terms_after, arguments, applied, given, read_map, eat_name, eat_mark, Read}

-- terms before others
abbrev pub ahead : List RawTerm → RawTerms → RawTerms
ahead [] us = us
ahead (t ∷ ts) us = RawTerms.more t (ahead ts us)

pub ahead_push : (ts : List RawTerm) (t : RawTerm) (us : RawTerms) → ahead (ts ++ (t ∷ [])) us ≡ ahead ts (RawTerms.more t us)
ahead_push [] t us = refl
ahead_push (u ∷ ts) t us = ap (RawTerms.more u) (ahead_push ts t us)

pub depth_push : (ts : List RawTerm) (t : RawTerm) → raw_terms_depth (ahead (ts ++ (t ∷ [])) RawTerms.none) ≡ max (raw_terms_depth (ahead ts RawTerms.none)) (raw_term_depth t)
depth_push [] t = omega arith
depth_push (u ∷ ts) t = omega (arith, depth_push ts t)

pub term_none : (h d : ℕ) (ts : List TokenKind) → h ≡ 0 → term h d ts ≡ None
unfolding term
term_none h d ts e = ap (λ n. term n d ts) e

pub term_step : (h d : ℕ) (ts : List TokenKind) → 0 < h → term h d ts ≡ given (eat_name ts) (applied (arguments (term (h - 1)) d))
unfolding term
term_step h d ts some = let e : h ≡ suc (h - 1) = omega arith in ap (λ n. term n d ts) e

-- a symbol with its arguments, and without
module _ (h d : ℕ) (ts us : List TokenKind) (n : Name) (t : RawTerm) (some : 0 < h) (named : eat_name ts ≡ Some (n, us)) where
  pub applied_some : (args : RawTerms) (vs : List TokenKind) → arguments (term (h - 1)) d us ≡ Some (args, vs) → t ≡ RawTerm.App n args → term h d ts ≡ Some (t, vs)
  applied_some args vs inner is = term_step h d ts some ∙ rw (named, inner, is) refl

  pub applied_none : arguments (term (h - 1)) d us ≡ None → t ≡ RawTerm.App n RawTerms.none → term h d ts ≡ Some (t, us)
  applied_none inner is = term_step h d ts some ∙ rw (named, inner, is) refl

pub terms_step : (item : List TokenKind → Read RawTerm) (n at : ℕ) (ts : List TokenKind) → at < n → terms item (n - at) ts ≡ given (item ts) (terms_after (terms item (n - (at + 1))))
unfolding terms
terms_step item n at ts below = let e : n - at ≡ suc (n - (at + 1)) = omega arith in ap (λ k. terms item k ts) e

pub terms_none : (item : List TokenKind → Read RawTerm) (n at : ℕ) (ts : List TokenKind) → n ≤ at → terms item (n - at) ts ≡ None
unfolding terms
terms_none item n at ts done = let e : n - at ≡ 0 = omega arith in ap (λ k. terms item k ts) e

-- one more term before what is left
more_ahead : (front : List RawTerm) (t : RawTerm) (r : Read RawTerms) → read_map (ahead front) (read_map (RawTerms.more t) r) ≡ read_map (ahead (front ++ (t ∷ []))) r
more_ahead front t None = refl
more_ahead front t (Some r) = ap (λ x. Some (x, r.1)) (sym (ahead_push front t r.0))

module _ {whole : Read RawTerms} (item : List TokenKind → Read RawTerm) (n at : ℕ) (front : List RawTerm) (ts : List TokenKind)
    (so_far : whole ≡ read_map (ahead front) (terms item (n - at) ts)) where
  pub no_term : at < n → item ts ≡ None → whole ≡ None
  no_term below none =
      let e : read_map (ahead front) (terms item (n - at) ts) ≡ None = rw (terms_step item n at ts below, none) refl in
      so_far ∙ e

  pub last_term : (t : RawTerm) (us : List TokenKind) → at < n → item ts ≡ Some (t, us) → None ≡ eat_mark COMMA us → whole ≡ Some (ahead (front ++ (t ∷ [])) RawTerms.none, us)
  last_term t us below reads none =
      let e : read_map (ahead front) (terms item (n - at) ts) ≡ Some (ahead front (RawTerms.more t RawTerms.none), us) = rw (terms_step item n at ts below, reads, ← none) refl in
      so_far ∙ e ∙ ap (λ x. Some (x, us)) (sym (ahead_push front t RawTerms.none))

  pub next_term : (t : RawTerm) (us vs : List TokenKind) → at < n → item ts ≡ Some (t, us) → Some vs ≡ eat_mark COMMA us
      → whole ≡ read_map (ahead (front ++ (t ∷ []))) (terms item (n - (at + 1)) vs)
  next_term t us vs below reads comma =
      so_far ∙ ap (read_map (ahead front)) (terms_step item n at ts below ∙ rw (reads, ← comma)) ∙ more_ahead front t (terms item (n - (at + 1)) vs)

  pub no_turn : n ≤ at → whole ≡ None
  no_turn done = so_far ∙ ap (read_map (ahead front)) (terms_none item n at ts done)
