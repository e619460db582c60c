-- The items of a list each once, so far as a loop over it has come, with the set of their keys.
use Rattle.std.proofs.Common.{◌≡◌, ℕ, suc, ◌+◌, ◌<◌, ◌≤◌, add-one, drop, drop-cons, get_or, length, List, [], ◌∷◌, ◌++◌, Bool, true, false, not, ◌||◌, cond, refl, subst, sym, ap, ◌∙◌}
use Rattle.std.proofs.Math.ListN.{drop_of_length-le}
use Rattle.std.proofs.lemmas.List.Folds.{list_any-append}
use Rattle.std.specs.Bool.{OnFalse}
use Rattle.std.specs.HashSet as bag
use Rattle.std.specs.HashSet.{HashSet}
use Rattle.std.specs.List.{list_any}
use Rattle.kv_goal.specs.Once.{once, once_after}

either : (b there : Bool) → cond b true there ≡ (there || b)
either true true = refl
either true false = refl
either false true = refl
either false false = refl

or_false : (a b : Bool) → (a || (b || false)) ≡ (a || b)
or_false true b = refl
or_false false true = refl
or_false false false = refl

not_false : (b : Bool) → false ≡ not b → b ≡ true
not_false true e = refl
not_false false e = absurd (cc)

not_true : (b : Bool) → true ≡ not b → b ≡ false
not_true true e = absurd (cc)
not_true false e = refl

where_false : {P : Type 0} (b : Bool) → b ≡ false → OnFalse b P → P
where_false true e p = absurd (cc)
where_false false e p = p

-- K: keys; T: items; a key stands for an item
module _ {K T S : Type 0} (eq : K → K → Bool) (same : T → T → Bool) (StandsFor : K → T → Type 0)
    (agree : (k q : K) (x z : T) → StandsFor k x → StandsFor q z → eq k q ≡ same z x) where
  -- the set has the keys of these items
  unfoldable pub HasKeys : HashSet K S → List T → Type 0
  HasKeys set seen = (q : K) (z : T) → StandsFor q z → bag.contains eq set q ≡ list_any (same z) seen

  pub record SoFar (set : HashSet K S) (seen rest all : List T) : Type 0 where
    pub keys : HasKeys set seen
    pub whole : once_after same seen rest ≡ once same all

  no_keys : (set : HashSet K S) (seen : List T) → bag.IsEmpty set → seen ≡ [] → HasKeys set seen
  unfolding HasKeys
  no_keys set seen empty none q z stands = rw empty (rw none refl)

  pub none_seen : (set : HashSet K S) (seen all : List T) → bag.IsEmpty set → seen ≡ [] → SoFar set seen all all
  none_seen set seen all empty none = record { keys = no_keys set seen empty none; whole = ap (λ s. once_after same s all) none }

  module _ (set : HashSet K S) (seen rest all : List T) (x : T) (so_far : SoFar set seen (x ∷ rest) all) (k : K) (stands : StandsFor k x)
      (new : Bool) (is : new ≡ not (bag.contains eq set k)) (more : HashSet K S) (put : bag.Updates eq set more k true) where
    stood : bag.contains eq set k ≡ list_any (same x) seen
    unfolding HasKeys
    stood = so_far.keys k x stands

    where_seen : (b : Bool) → list_any (same x) seen ≡ b → cond b (once_after same seen rest) (once_after same (seen ++ x ∷ []) rest) ≡ once same all
    where_seen b e = ap (λ there. cond there (once_after same seen rest) (once_after same (seen ++ x ∷ []) rest)) (sym e) ∙ so_far.whole

    more_at : (q : K) (z : T) → StandsFor q z → bag.contains eq more q ≡ (list_any (same z) seen || same z x)
    unfolding HasKeys
    more_at q z s = put.0 q ∙ either (eq k q) (bag.contains eq set q) ∙ ap (λ b. bag.contains eq set q || b) (agree k q x z stands s) ∙ ap (λ b. b || same z x) (so_far.keys q z s)

    more_keys : HasKeys more (seen ++ x ∷ [])
    unfolding HasKeys
    more_keys q z s = more_at q z s ∙ sym (list_any-append (same z) seen (x ∷ []) ∙ or_false (list_any (same z) seen) (same z x))

    pub one_more : new ≡ true → SoFar more (seen ++ x ∷ []) rest all
    one_more e = record { keys = more_keys; whole = where_seen false (sym stood ∙ not_true (bag.contains eq set k) (sym e ∙ is)) }

    -- the key of an item that was seen changes nothing
    kept_keys : (unchanged : bag.IsUnchanged set more) → HasKeys more seen
    unfolding HasKeys
    kept_keys unchanged q z s = ap (list_any (eq q)) unchanged ∙ so_far.keys q z s

    pub none_more : new ≡ false → OnFalse new (bag.IsUnchanged set more) → SoFar more seen rest all
    none_more e unchanged = record { keys = kept_keys (where_false new e unchanged); whole = where_seen true (sym stood ∙ not_false (bag.contains eq set k) (sym e ∙ is)) }

  pub moved : (set : HashSet K S) (seen now rest all : List T) → seen ≡ now → SoFar set seen rest all → SoFar set now rest all
  moved set seen now rest all e so_far = subst (λ s. SoFar set s rest all) e so_far

  pub at : (set : HashSet K S) (seen rest left all : List T) → rest ≡ left → SoFar set seen rest all → SoFar set seen left all
  at set seen rest left all e so_far = subst (λ r. SoFar set seen r all) e so_far

  pub all_seen : (set : HashSet K S) (seen all : List T) → SoFar set seen [] all → seen ≡ once same all
  all_seen set seen all so_far = so_far.whole

-- ---- the list of a loop

pub left_at : {T : Type 0} (xs : List T) (i : ℕ) (x : T) → i < length xs → x ≡ get_or xs i x → drop i xs ≡ x ∷ drop (i + 1) xs
left_at xs i x below is = drop-cons xs i x below ∙ ap (λ y. y ∷ drop (suc i) xs) (sym is) ∙ ap (λ n. x ∷ drop n xs) (sym (add-one i))

pub ended : {T : Type 0} (xs : List T) (i : ℕ) → length xs ≤ i → drop i xs ≡ []
ended xs i past = drop_of_length-le xs {i = i} past

pub pushed : {T : Type 0} (seen more now : List T) (x copy : T) → more ≡ seen ++ copy ∷ [] → copy ≡ x → now ≡ more → seen ++ x ∷ [] ≡ now
pushed seen more now x copy p e n = sym (n ∙ p ∙ ap (λ y. seen ++ y ∷ []) e)
