-- The steps that the reader computes are those of the grammar.
use Rattle.std.proofs.Common.{ℕ, ◌≡◌, ◌<◌, List, ◌∷◌, length, refl, ap, ◌∙◌, subst, arith, inl, inr}
use Rattle.std.specs.Prelude.{Some, None, cond, codes}
use Rattle.std.specs.Str.{bytes_eq}
use Rattle.std.proofs.lemmas.Slice.Eq.{bytes_eq-Decides}
use Rattle.kv_lex.specs.declared.token.TokenKind.{TokenKind}
use Rattle.kv_lex.specs.declared.token.TokenKind.TheVariants.{Word, Ident, Number}
use Rattle.kv_pexpr.specs.Grammar.{Stops}
use Rattle.kv_pexpr.specs.Parse.{given, eat_word, eat_name}
use Rattle.kv_pexpr.proofs.Steps.{some_is, given_some, word_some, name_some}
use Rattle.kv_names.specs.Names.{Name}
use Rattle.kv_syn.specs.Scripts.{Step}
use Rattle.kv_syn.specs.declared.scripts.Side.{Side}
use Rattle.kv_syn.specs.declared.scripts.Side.TheVariants.{L, R}
use Rattle.kv_table.specs.Names.{row_of}
use Rattle.kv_table.specs.Rules.{rule_rows}
use Rattle.kv_table.specs.Keywords as word
use Rattle.kv_punit.specs.declared.steps.Takes.{Takes}
use Rattle.kv_punit.specs.declared.steps.Takes.TheVariants as take
use Rattle.kv_punit.specs.Grammar as g
use Rattle.kv_punit.specs.Grammar.{IsStep}
use Rattle.kv_punit.specs.Parse as spec
use Rattle.kv_punit.specs.Steps.{takes, side_name}
use Rattle.kv_punit.proofs.Longest.{form_longest, term_longest, takes_some}
use Rattle.kv_punit.proofs.Before.{number_some, cond_some}
use Rattle.kv_punit.proofs.Stopping.{term_stops}

-- ---- sides

side_from : (n : Name) (s : Side) → spec.side_named n ≡ Some s → n ≡ side_name s
side_from n s e = elim (cond_some (bytes_eq n (codes "L")) (Some L) (cond (bytes_eq n (codes "R")) (Some R) None) e) [
  | inl a ↦ subst (λ x. n ≡ side_name x) (some_is a.1) ((bytes_eq-Decides n (codes "L")).0 a.0)
  | inr a ↦ elim (cond_some (bytes_eq n (codes "R")) (Some R) None a) [
    | inl b ↦ subst (λ x. n ≡ side_name x) (some_is b.1) ((bytes_eq-Decides n (codes "R")).0 b.0)
    | inr b ↦ absurd (let f = b in cc)
  ]
]

side_some : (ts : List TokenKind) (r : Side × List TokenKind) → spec.eat_side ts ≡ Some r → ts ≡ Ident (side_name r.0) ∷ r.1
side_some ts r e =
    let n = given_some (eat_name ts) (λ n. given (spec.side_named n.0) (λ side. Some (side, n.1))) e in
    let s = given_some (spec.side_named n.0.0) (λ side. Some (side, n.0.1)) n.2 in
    name_some ts n.0 n.1 ∙ ap (λ x. Ident x ∷ n.0.1) (side_from n.0.0 s.0 s.1)
    ∙ ap (λ (x : Side × List TokenKind). Ident (side_name x.0) ∷ x.1) (some_is s.2)

side_found : (s : Side) → spec.side_named (side_name s) ≡ Some s
side_found L = refl
side_found R = refl

-- ---- what is computed is in the grammar

module _ (n : Name) (row : ℕ) (found : row_of rule_rows n ≡ Some row) (ts : List TokenKind) (r : Step × List TokenKind) where
  one_sound : takes row ≡ Some take.One → spec.one_number row ts ≡ Some r → IsStep (Ident n ∷ ts) r.0 r.1
  one_sound what e =
      let i = given_some (spec.eat_number ts) (spec.one row) e in
      rw (number_some ts i.0 i.1) (subst (λ (x : Step × List TokenKind). IsStep (Ident n ∷ Number i.0.0 ∷ i.0.1) x.0 x.1) (some_is i.2) (g.one found what))

  two_sound : takes row ≡ Some take.Two → spec.two_numbers row ts ≡ Some r → IsStep (Ident n ∷ ts) r.0 r.1
  two_sound what e =
      let i = given_some (spec.eat_number ts) (spec.second row) e in
      let j = given_some (spec.eat_number i.0.1) (spec.two row i.0.0) i.2 in
      rw (number_some ts i.0 i.1, number_some i.0.1 j.0 j.1)
      (subst (λ (x : Step × List TokenKind). IsStep (Ident n ∷ Number i.0.0 ∷ Number j.0.0 ∷ j.0.1) x.0 x.1) (some_is j.2) (g.two found what))

  name_sound : takes row ≡ Some take.Name → spec.number_and_name row ts ≡ Some r → IsStep (Ident n ∷ ts) r.0 r.1
  name_sound what e =
      let i = given_some (spec.eat_number ts) (spec.as_name row) e in
      let w = given_some (eat_word word.AS i.0.1) (λ us. given (eat_name us) (spec.fresh row i.0.0)) i.2 in
      let x = given_some (eat_name w.0) (spec.fresh row i.0.0) w.2 in
      rw (number_some ts i.0 i.1, word_some word.AS i.0.1 w.0 w.1, name_some w.0 x.0 x.1)
      (subst (λ (y : Step × List TokenKind). IsStep (Ident n ∷ Number i.0.0 ∷ Word word.AS ∷ Ident x.0.0 ∷ x.0.1) y.0 y.1) (some_is x.2) (g.name found what))

  term_sound : takes row ≡ Some take.Term → spec.number_and_term row ts ≡ Some r → IsStep (Ident n ∷ ts) r.0 r.1
  term_sound what e =
      let i = given_some (spec.eat_number ts) (spec.as_term row) e in
      let w = given_some (eat_word word.WITH i.0.1) (λ us. given (spec.longest_term us) (spec.termed row i.0.0)) i.2 in
      let t = given_some (spec.longest_term w.0) (spec.termed row i.0.0) w.2 in
      rw (number_some ts i.0 i.1, word_some word.WITH i.0.1 w.0 w.1)
      (subst (λ (y : Step × List TokenKind). IsStep (Ident n ∷ Number i.0.0 ∷ Word word.WITH ∷ w.0) y.0 y.1) (some_is t.2) (g.term found what (term_longest.sound w.0 t.0 t.1)))

  form_sound : takes row ≡ Some take.Form → spec.formula row ts ≡ Some r → IsStep (Ident n ∷ ts) r.0 r.1
  form_sound what e =
      let f = given_some (spec.longest_form ts) (spec.formed row) e in
      subst (λ (y : Step × List TokenKind). IsStep (Ident n ∷ ts) y.0 y.1) (some_is f.2) (g.form found what (form_longest.sound ts f.0 f.1))

  side_sound : takes row ≡ Some take.Side → spec.side_and_number row ts ≡ Some r → IsStep (Ident n ∷ ts) r.0 r.1
  side_sound what e =
      let s = given_some (spec.eat_side ts) (spec.behind_side row) e in
      let i = given_some (spec.eat_number s.0.1) (spec.placed row s.0.0) s.2 in
      rw (side_some ts s.0 s.1, number_some s.0.1 i.0 i.1)
      (subst (λ (y : Step × List TokenKind). IsStep (Ident n ∷ Ident (side_name s.0.0) ∷ Number i.0.0 ∷ i.0.1) y.0 y.1) (some_is i.2) (g.side found what))

  two_sided_sound : takes row ≡ Some take.TwoSided → spec.side_between row ts ≡ Some r → IsStep (Ident n ∷ ts) r.0 r.1
  two_sided_sound what e =
      let i = given_some (spec.eat_number ts) (spec.before_side row) e in
      let s = given_some (spec.eat_side i.0.1) (spec.before_number row i.0.0) i.2 in
      let j = given_some (spec.eat_number s.0.1) (spec.between row i.0.0 s.0.0) s.2 in
      rw (number_some ts i.0 i.1, side_some i.0.1 s.0 s.1, number_some s.0.1 j.0 j.1)
      (subst (λ (y : Step × List TokenKind). IsStep (Ident n ∷ Number i.0.0 ∷ Ident (side_name s.0.0) ∷ Number j.0.0 ∷ j.0.1) y.0 y.1) (some_is j.2) (g.two_sided found what))

  rule_sound : (what : Takes) → takes row ≡ Some what → spec.behind_rule row what ts ≡ Some r → IsStep (Ident n ∷ ts) r.0 r.1
  rule_sound take.One what e = one_sound what e
  rule_sound take.Two what e = two_sound what e
  rule_sound take.Name what e = name_sound what e
  rule_sound take.Term what e = term_sound what e
  rule_sound take.Form what e = form_sound what e
  rule_sound take.Side what e = side_sound what e
  rule_sound take.TwoSided what e = two_sided_sound what e

pub sound_step : (ts : List TokenKind) (r : Step × List TokenKind) → spec.step ts ≡ Some r → IsStep ts r.0 r.1
sound_step ts r e =
    let a = given_some (spec.eat_rule ts) spec.taking e in
    let b = given_some (eat_name ts) spec.ruled a.1 in
    let c = given_some (row_of rule_rows b.0.0) (λ row. Some (row, b.0.1)) b.2 in
    let f : spec.taking (c.0, b.0.1) ≡ Some r = ap spec.taking (some_is c.2) ∙ a.2 in
    let what = given_some (takes c.0) (λ what. spec.behind_rule c.0 what b.0.1) f in
    rw (name_some ts b.0 b.1) (rule_sound b.0.0 c.0 c.1 b.0.1 r what.0 what.1 what.2)

-- ---- what is in the grammar is computed

-- a step takes a token at least
pub step_takes : {ts us : List TokenKind} {s : Step} → IsStep ts s us → length us < length ts
step_takes (g.one found what) = omega arith
step_takes (g.two found what) = omega arith
step_takes (g.name found what) = omega arith
step_takes (g.term {t = t} {ts = ts} {us = us} found what reads) = omega (arith, takes_some term_longest ts us t reads)
step_takes (g.form {f = f} {ts = ts} {us = us} found what reads) = omega (arith, takes_some form_longest ts us f reads)
step_takes (g.side found what) = omega arith
step_takes (g.two_sided found what) = omega arith

pub exact_step : {ts us : List TokenKind} {s : Step} → IsStep ts s us → Stops us → spec.step ts ≡ Some (s, us)
exact_step (g.one found what) stop = rw (found, what)
exact_step (g.two found what) stop = rw (found, what)
exact_step (g.name found what) stop = rw (found, what)
exact_step (g.term {t = t} {ts = ts} {us = us} found what reads) stop = rw (found, what, term_longest.exactly ts us t reads (term_stops us stop))
exact_step (g.form {f = f} {ts = ts} {us = us} found what reads) stop = rw (found, what, form_longest.exactly ts us f reads stop)
exact_step (g.side {s = s} found what) stop = rw (found, what, side_found s)
exact_step (g.two_sided {s = s} found what) stop = rw (found, what, side_found s)

-- no step is the hole
pub no_open : {ts us : List TokenKind} {s : Step} → IsStep ts s us → eat_word word.OPEN ts ≡ None
no_open (g.one found what) = refl
no_open (g.two found what) = refl
no_open (g.name found what) = refl
no_open (g.term found what reads) = refl
no_open (g.form found what reads) = refl
no_open (g.side found what) = refl
no_open (g.two_sided found what) = refl
