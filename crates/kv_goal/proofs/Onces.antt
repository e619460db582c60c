-- Items that are taken once of parts, and then of all: as if they were taken once of all.
use Rattle.std.proofs.Common.{◌≡◌, Bool, true, false, ◌||◌, cond, List, [], ◌∷◌, ◌++◌, append_assoc, append-nil, refl, sym, ap, ◌∙◌}
use Rattle.std.proofs.lemmas.List.Folds.{list_any-append}
use Rattle.std.specs.List.{list_any}
use Rattle.kv_goal.specs.ByName.{each}
use Rattle.kv_goal.specs.Once.{once_after, once}

or_none : (b : Bool) → b ≡ (b || false)
or_none true = refl
or_none false = refl

or_more : (a b c : Bool) → ((a || (b || false)) || c) ≡ (a || (b || c))
or_more true b c = refl
or_more false true c = refl
or_more false false c = refl

false_true : {A : Type 0} → false ≡ true → A
false_true e = absurd (cc)

absorbed : (a b c : Bool) → (b ≡ true → a ≡ true) → (a || c) ≡ (a || (b || c))
absorbed true b c h = refl
absorbed false true c h = false_true (h refl)
absorbed false false c h = refl

or_true : (a b : Bool) → b ≡ true → (a || b) ≡ true
or_true true b e = refl
or_true false b e = e

module _ {T : Type 0} (same : T → T → Bool) where
  -- a test that answers alike at items that are the same
  abbrev pub Respects : (T → Bool) → Type 0
  Respects test = (x z : T) → same x z ≡ true → test x ≡ test z

  module _ (test : T → Bool) (respects : Respects test) where
    held_by : (x z : T) (zs : List T) (b : Bool) → same x z ≡ b → (list_any (same x) zs ≡ true → test x ≡ true → list_any test zs ≡ true)
        → (b || list_any (same x) zs) ≡ true → test x ≡ true → (test z || list_any test zs) ≡ true
    held_by x z zs true is later e h = ap (λ t. t || list_any test zs) (sym (respects x z is) ∙ h)
    held_by x z zs false is later e h = or_true (test z) (list_any test zs) (later e h)

    -- where an item was seen, and the test holds of it, it holds of one of the seen
    held : (x : T) (seen : List T) → list_any (same x) seen ≡ true → test x ≡ true → list_any test seen ≡ true
    held x [] e h = e
    held x (z ∷ zs) e h = held_by x z zs (same x z) refl (held x zs) e h

    any_where : (x : T) (seen xs : List T) (b : Bool) → list_any (same x) seen ≡ b
        → ((more : List T) → list_any test (once_after same more xs) ≡ (list_any test more || list_any test xs))
        → list_any test (cond b (once_after same seen xs) (once_after same (seen ++ x ∷ []) xs)) ≡ (list_any test seen || (test x || list_any test xs))
    any_where x seen xs true is later = later seen ∙ absorbed (list_any test seen) (test x) (list_any test xs) (held x seen is)
    any_where x seen xs false is later =
        later (seen ++ x ∷ []) ∙ ap (λ a. a || list_any test xs) (list_any-append test seen (x ∷ [])) ∙ or_more (list_any test seen) (test x) (list_any test xs)

    any_after : (xs seen : List T) → list_any test (once_after same seen xs) ≡ (list_any test seen || list_any test xs)
    any_after [] seen = or_none (list_any test seen)
    any_after (x ∷ xs) seen = any_where x seen xs (list_any (same x) seen) refl (λ more. any_after xs more)

    -- the test holds of an item, or of none, as before
    pub any_once : (xs : List T) → list_any test (once same xs) ≡ list_any test xs
    any_once xs = any_after xs []

  split_where : (x : T) (seen xs ys : List T) (b : Bool) → ((more : List T) → once_after same more (xs ++ ys) ≡ once_after same (once_after same more xs) ys)
      → cond b (once_after same seen (xs ++ ys)) (once_after same (seen ++ x ∷ []) (xs ++ ys)) ≡ once_after same (cond b (once_after same seen xs) (once_after same (seen ++ x ∷ []) xs)) ys
  split_where x seen xs ys true later = later seen
  split_where x seen xs ys false later = later (seen ++ x ∷ [])

  -- the items of one list, and then of another
  pub split : (xs ys seen : List T) → once_after same seen (xs ++ ys) ≡ once_after same (once_after same seen xs) ys
  split [] ys seen = refl
  split (x ∷ xs) ys seen = split_where x seen xs ys (list_any (same x) seen) (λ more. split xs ys more)

  module _ (tells : (y : T) → Respects (same y)) where
    -- an item that was seen isn't taken again
    skipped : (y : T) (seen ys : List T) → list_any (same y) seen ≡ true → once_after same seen ys ≡ once_after same seen (y ∷ ys)
    skipped y seen ys e = ap (λ b. cond b (once_after same seen ys) (once_after same (seen ++ y ∷ []) ys)) (sym e)

    seen_still : (y : T) (seen mid : List T) → list_any (same y) mid ≡ true → list_any (same y) (once_after same seen mid) ≡ true
    seen_still y seen mid e = any_after (same y) (tells y) mid seen ∙ or_true (list_any (same y) seen) (list_any (same y) mid) e

    twice_where : (y : T) (seen mid ys : List T) (b : Bool) → list_any (same y) mid ≡ b
        → ((more : List T) → once_after same seen (once_after same more ys) ≡ once_after same seen (more ++ ys))
        → once_after same seen (cond b (once_after same mid ys) (once_after same (mid ++ y ∷ []) ys)) ≡ once_after same seen (mid ++ y ∷ ys)
    twice_where y seen mid ys true is later =
        later mid ∙ split mid ys seen ∙ skipped y (once_after same seen mid) ys (seen_still y seen mid is) ∙ sym (split mid (y ∷ ys) seen)
    twice_where y seen mid ys false is later = later (mid ++ y ∷ []) ∙ ap (once_after same seen) (append_assoc mid (y ∷ []) ys)

    twice : (ys mid seen : List T) → once_after same seen (once_after same mid ys) ≡ once_after same seen (mid ++ ys)
    twice [] mid seen = ap (once_after same seen) (sym (append-nil mid))
    twice (y ∷ ys) mid seen = twice_where y seen mid ys (list_any (same y) mid) refl (λ more. twice ys more seen)

    module _ {A : Type 0} (of : A → List T) where
      abbrev once_of : A → List T
      once_of a = once same (of a)

      once_each_after : (us : List A) (seen : List T) → once_after same seen (each once_of us) ≡ once_after same seen (each of us)
      once_each_after [] seen = refl
      once_each_after (a ∷ us) seen =
          split (once_of a) (each once_of us) seen
          ∙ ap (λ s. once_after same s (each once_of us)) (twice (of a) [] seen)
          ∙ once_each_after us (once_after same seen (of a))
          ∙ sym (split (of a) (each of us) seen)

      -- once of what each of two rows gives once
      pub once_each : (us vs : List A) → once same (each once_of us ++ each once_of vs) ≡ once same (each of us ++ each of vs)
      once_each us vs =
          split (each once_of us) (each once_of vs) []
          ∙ ap (λ s. once_after same s (each once_of vs)) (once_each_after us [])
          ∙ once_each_after vs (once_after same [] (each of us))
          ∙ sym (split (each of us) (each of vs) [])
