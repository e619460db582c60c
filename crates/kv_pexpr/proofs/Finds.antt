-- What holds of a function that finds the longest reading.
use Rattle.std.proofs.Common.{ℕ, ◌+◌, ◌-◌, ◌≡◌, ◌≤◌, ◌<◌, List, [], ◌++◌, length, take, drop, ap, ◌∙◌, sym, subst, arith}
use Rattle.std.specs.Prelude.{Result, Ok, Err, IfOk, Some}
use Rattle.std.proofs.lemmas.List.{append_cancel_right, drop-map, drop-drop, length-map, length-append, length-drop, take_all}
use Rattle.std.proofs.Math.Seq.{drop-append_seam}
use Rattle.kv_lex.specs.declared.token.Token.{Token}
use Rattle.kv_lex.specs.declared.token.TokenKind.{TokenKind}
use Rattle.kv_pexpr.specs.declared.errors.ReadError.{ReadError}
use Rattle.kv_pexpr.specs.declared.errors.ReadError.TheVariants.{Syntax, NoMemory}
use Rattle.kv_pexpr.specs.Gives.{kinds, Gives}
use Rattle.kv_pexpr.specs.Parse.{Read}
use Rattle.kv_pexpr.specs.Readings.{OneTree, OneReading, IsLongest, IsOnly}
use Rattle.kv_pexpr.proofs.Fronts.{Front}
use Rattle.kv_pexpr.proofs.Reaches.{Reaches}
use Rattle.kv_pexpr.proofs.Steps.{some_is}

pub record Finds {P : Type 0} (Reads : List TokenKind → P → List TokenKind → Type 0) (Stops : List TokenKind → Type 0) (parse : List TokenKind → Read P) : Type 0 where
  pub sound : (ts : List TokenKind) (r : P × List TokenKind) → parse ts ≡ Some r → Reads ts r.0 r.1
  pub front : (ts us : List TokenKind) (p : P) → Reads ts p us → Front (λ ks ls. Reads ks p ls) ts us
  pub reaches : (ts us : List TokenKind) (p : P) → Reads ts p us → Reaches us (parse ts)
  pub exactly : (ts us : List TokenKind) (p : P) → Reads ts p us → Stops us → parse ts ≡ Some (p, us)
  pub ended : Stops []

-- where the tokens behind a reading begin
pub record Behind (at : ℕ) (tokens : List Token) (rest : List Token) : Type 0 where
  pub later : at < length tokens - length rest
  pub within : length rest ≤ length tokens
  pub is : kinds (drop (length tokens - length rest) tokens) ≡ kinds rest

pub tail_range : {X : Type 0} (xs : List X) (at : ℕ) → take (length xs - at) (drop at xs) ≡ drop at xs
tail_range xs at = take_all (length xs - at) (drop at xs) (omega (arith, length-drop at xs))

module _ {P : Type 0} {Reads : List TokenKind → P → List TokenKind → Type 0} {Stops : List TokenKind → Type 0} {parse : List TokenKind → Read P} (finds : Finds Reads Stops parse) where
  -- with nothing behind them both are the one that the function reads
  pub one_tree : OneTree Reads
  one_tree ts us p q r s =
      let a = finds.front ts us p r in
      let b = finds.front ts us q s in
      let same : b.front ≡ a.front = append_cancel_right b.front a.front us (sym b.is ∙ a.is) in
      let again = subst (λ (ks : List TokenKind). Reads (ks ++ []) q []) same (b.again []) in
      let e = some_is (sym (finds.exactly (a.front ++ []) [] p (a.again []) finds.ended) ∙ finds.exactly (a.front ++ []) [] q again finds.ended) in
      ap (λ x. x.0) e

  pub one_reading : OneReading Reads Stops
  one_reading ts us vs p q r s stops stops' =
      let e = some_is (sym (finds.exactly ts us p r stops) ∙ finds.exactly ts vs q s stops') in
      (ap (λ x. x.0) e, ap (λ x. x.1) e)

  pub found : {X : Type 0} (view : X → P × List TokenKind) (r : Result X ReadError) (ts : List TokenKind) → Gives view r (parse ts) → IfOk r (λ x. Reads ts (view x).0 (view x).1)
  found view (Ok x) ts h = finds.sound ts (view x) h
  found view (Err Syntax) ts h = tt
  found view (Err NoMemory) ts h = tt

  pub behind : (at : ℕ) (tokens rest : List Token) (p : P) → at ≤ length tokens → Reads (kinds (drop at tokens)) p (kinds rest) → Behind at tokens rest
  behind at tokens rest p h reads =
      let f = finds.front (kinds (drop at tokens)) (kinds rest) p reads in
      let n : length tokens - at ≡ length f.front + length rest = sym (length-drop at tokens) ∙ sym (length-map (drop at tokens) (λ (t : Token). t.kind)) ∙ ap length f.is ∙ length-append f.front (kinds rest) ∙ ap (λ k. length f.front + k) (length-map rest (λ (t : Token). t.kind)) in
      let k : length tokens - length rest ≡ at + length f.front = omega arith in
      record {
        later = omega (arith, f.some);
        within = omega arith;
        is = ap (λ i. kinds (drop i tokens)) k ∙ ap kinds (sym (drop-drop (length f.front) at tokens)) ∙ sym (drop-map (λ (t : Token). t.kind) (length f.front) (drop at tokens)) ∙ ap (drop (length f.front)) f.is ∙ drop-append_seam f.front (kinds rest);
      }

-- what was found, by places
module _ {X P : Type 0} (plain : X → P) {Reads : List TokenKind → P → List TokenKind → Type 0} {Stops : List TokenKind → Type 0} {parse : List TokenKind → Read P} (finds : Finds Reads Stops parse) (tokens : List Token) (at : ℕ) where
  abbrev pub stands : X × ℕ → P × List TokenKind
  stands found = (plain found.0, kinds (drop found.1 tokens))

  -- what is read at the place
  abbrev pub read_there : Read P
  read_there = parse (kinds (drop at tokens))

  pub placed : {Y : Type 0} (view : Y → P × List TokenKind) (r : Result Y ReadError)
      → Gives view r (parse (kinds (take (length tokens - at) (drop at tokens)))) → Gives view r read_there
  placed view r h = subst (λ ts. Gives view r (parse (kinds ts))) (tail_range tokens at) h

  same_failure : {Y : Type 0} (view : Y → P × List TokenKind) (e : ReadError) → Gives view (Err e) read_there → Gives stands (Err e) read_there
  same_failure view Syntax h = h
  same_failure view NoMemory h = tt

  -- the error of the reading, handed on
  pub handed_on : {Y : Type 0} (view : Y → P × List TokenKind) (e y : ReadError) (r : Result (X × ℕ) ReadError)
      → Gives view (Err e) (parse (kinds (take (length tokens - at) (drop at tokens)))) → r ≡ Err y → y ≡ e → Gives stands r read_there
  handed_on view e y r h is same =
      let k : r ≡ Err e = cc in
      subst (λ x. Gives stands x read_there) (sym k) (same_failure view e (placed view (Err e) h))

  pub is_longest : (r : Result (X × ℕ) ReadError) → Gives stands r read_there → IsLongest Reads tokens at r
  is_longest (Ok found) h = λ p us reads.
      let a = finds.reaches (kinds (drop at tokens)) us p reads in
      let e = some_is (sym a.1 ∙ h) in
      omega (arith, a.2, ap (λ x. length x.1) e, length-map (drop found.1 tokens) (λ (t : Token). t.kind))
  is_longest (Err Syntax) h = λ p us reads. let a = finds.reaches (kinds (drop at tokens)) us p reads in cc (a.1, h)
  is_longest (Err NoMemory) h = tt

  pub is_only : (r : Result (X × ℕ) ReadError) → Gives stands r read_there → IsOnly plain Reads Stops tokens at r
  is_only (Ok found) h p us reads none =
      let e = some_is (sym h ∙ finds.exactly (kinds (drop at tokens)) us p reads none) in
      (ap (λ x. x.0) e, ap (λ x. x.1) e)
  is_only (Err Syntax) h p us reads none = let e = finds.exactly (kinds (drop at tokens)) us p reads none in cc (e, h)
  is_only (Err NoMemory) h p us reads none = tt
