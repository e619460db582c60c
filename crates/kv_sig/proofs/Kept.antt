-- A table stays an index when symbols come and go at the end of the list.
use Rattle.std.proofs.Common.{◌≡◌, ℕ, zero, suc, List, [], ◌∷◌, ◌++◌, Option, Some, None, Bool, false, length, refl, sym, ap, subst, ◌∙◌, ◌⊎◌, inl, inr, ◌<◌, arith, get_or}
use Rattle.std.proofs.lemmas.Slice.Eq.{bytes_eq-Decides}
use Rattle.std.proofs.lemmas.Cmp.{nat_list_eq_equiv}
use Rattle.std.proofs.Math.Logic.{⊎_elim}
use Rattle.std.specs.Prelude.{Vec, MatchOption, Result, Ok, Err, OnOk, OnErr}
use Rattle.std.specs.Str.{bytes_eq}
use Rattle.std.proofs.lemmas.Bool.{cases_Bool}
use Rattle.std.proofs.lemmas.Map.Keys.{IsDistinct-from_apart}
use Rattle.std.proofs.lemmas.Option.{slice_get-get_or, slice_get-map}
use Rattle.std.specs.List.{slice_get, find, IsDistinct}
use Rattle.std.specs.Option.{option_map}
use Rattle.std.specs.Map.{lookup, IsKeyTest, AreApart, KeepsOthers}
use Rattle.std.specs.HashMap.{HashMap, Updates}
use Rattle.kv_names.specs.Names.{Name}
use Rattle.kv_names.specs.declared.symbols.Symbol.{Symbol}
use Rattle.kv_names.specs.declared.memory.NoMemory.{NoMemory}
use Rattle.kv_sig.specs.Signatures.{profile_of, names_of}
use Rattle.kv_sig.specs.Index.{told, IsIndex}
use Rattle.kv_sig.proofs.Found.{find_none}

get_front : {X : Type 0} (xs : List X) (x y : X) (i : ℕ) → slice_get xs i ≡ Some y → slice_get (xs ++ x ∷ []) i ≡ Some y
get_front [] x y i e = cc
get_front (z ∷ xs) x y zero e = e
get_front (z ∷ xs) x y (suc i) e = get_front xs x y i e

get_pushed : {X : Type 0} (xs : List X) (x y : X) (i : ℕ) → slice_get (xs ++ x ∷ []) i ≡ Some y → (slice_get xs i ≡ Some y) ⊎ ((i ≡ length xs) × (x ≡ y))
get_pushed [] x y zero e = inr (refl, (let k : Some x ≡ Some y = e in cc))
get_pushed [] x y (suc i) e = cc
get_pushed (z ∷ xs) x y zero e = inl e
get_pushed (z ∷ xs) x y (suc i) e = ⊎_elim (λ k. inl k) (λ k. inr (ap suc k.0, k.1)) (get_pushed xs x y i e)

unchanged : {K X : Type 0} (eq : K → K → Bool) (test : K → Bool) (old new : List (K × X)) → KeepsOthers eq test old new → (other : K → Bool) → IsKeyTest eq other → AreApart test other → lookup other new ≡ lookup other old
unfolding KeepsOthers
unchanged eq test old new h = h

module _ {A S : Type 0} (xs : List Symbol) (m n : HashMap (Vec ℕ A) ℕ S) (h : IsIndex xs m) (x : Symbol) (key : Vec ℕ A) (k : key.items ≡ x.name)
    (e : find (λ y. bytes_eq y.name x.name) xs ≡ None) (count : ℕ) (l : count ≡ length xs) (u : Updates (λ a b. bytes_eq a.items b.items) m n key (Some count)) where
  apart : (y : Symbol) (i : ℕ) → slice_get xs i ≡ Some y → bytes_eq key.items y.name ≡ false
  apart y i g = nat_list_eq_equiv.symm key.items y.name ∙ subst (λ name. bytes_eq y.name name ≡ false) (sym k) (find_none (λ z. bytes_eq z.name x.name) xs e i y g)

  -- the table tells of a new name, which no symbol has yet
  noted : IsIndex xs n
  unfolding IsIndex
  noted i y g = unchanged (λ a b. bytes_eq a.items b.items) (λ b. bytes_eq key.items b.items) m.entries n.entries u.3 (λ b. bytes_eq y.name b.items)
      (λ a b t. nat_list_eq_equiv.congr y.name a.items b.items t)
      (λ b t. nat_list_eq_equiv.symm y.name b.items ∙ sym (nat_list_eq_equiv.congr key.items b.items y.name t) ∙ apart y i g)
      ∙ h i y g

  pushed : IsIndex (xs ++ x ∷ []) n
  unfolding IsIndex
  pushed i y g = ⊎_elim
      (λ old. noted i y old)
      (λ last. ap (λ z. told n z.name) (sym last.1) ∙ ap (told n) (sym k) ∙ u.1 ∙ ap Some (l ∙ sym last.0))
      (get_pushed xs x y i g)

  -- after the table tells of the new name, the symbol is added or memory runs out
  pub after_push : (ys : List Symbol) (r : Result (Unit {0}) NoMemory) → OnOk r (ys ≡ xs ++ x ∷ []) → OnErr r (ys ≡ xs) → IsIndex ys n
  after_push ys (Ok _) ok err = subst (λ zs. IsIndex zs n) (sym ok) pushed
  after_push ys (Err _) ok err = subst (λ zs. IsIndex zs n) (sym err) noted

pub empty : {A S : Type 0} (xs : List Symbol) (m : HashMap (Vec ℕ A) ℕ S) → xs ≡ [] → IsIndex xs m
unfolding IsIndex
empty xs m e i y g = let k : slice_get [] i ≡ Some y = subst (λ zs. slice_get zs i ≡ Some y) e g in cc

pub kept : {A S : Type 0} (xs : List Symbol) (m n : HashMap (Vec ℕ A) ℕ S) → n.entries ≡ m.entries → IsIndex xs m → IsIndex xs n
unfolding IsIndex
kept xs m n e h i y g = ap (lookup (λ b. bytes_eq y.name b.items)) e ∙ h i y g

no_profile_where : (o : Option Symbol) → option_map (λ x. x.profile) o ≡ None → o ≡ None
no_profile_where None e = refl
no_profile_where (Some x) e = cc

pub no_profile : (xs : List Symbol) (name : Name) → profile_of xs name ≡ None → find (λ y. bytes_eq y.name name) xs ≡ None
no_profile xs name e = no_profile_where (find (λ y. bytes_eq y.name name) xs) e

pub popped : {A S : Type 0} (xs ys : List Symbol) (m : HashMap (Vec ℕ A) ℕ S) (o : Option Symbol) → MatchOption o ((xs ≡ []) × (ys ≡ [])) (λ x. xs ≡ ys ++ x ∷ []) → IsIndex xs m → IsIndex ys m
unfolding IsIndex
popped xs ys m None e h i y g = let k : slice_get [] i ≡ Some y = subst (λ zs. slice_get zs i ≡ Some y) e.1 g in cc
popped xs ys m (Some x) e h i y g = h i y (subst (λ zs. slice_get zs i ≡ Some y) (sym e) (get_front ys x y i g))

named_where : (o : Option Symbol) (a : Name) → option_map (λ x. x.name) o ≡ Some a → (x : Symbol) × (o ≡ Some x) × (x.name ≡ a)
named_where None a e = cc
named_where (Some x) a e = let k : Some x.name ≡ Some a = e in (x, refl, cc)

module _ {A S : Type 0} (xs : List Symbol) (m : HashMap (Vec ℕ A) ℕ S) (h : IsIndex xs m) where
  led : (i : ℕ) (d : Name) → i < length (names_of xs) → told m (get_or (names_of xs) i d) ≡ Some i
  unfolding IsIndex
  led i d l =
      let a : Name = get_or (names_of xs) i d in
      let x : (x : Symbol) × (slice_get xs i ≡ Some x) × (x.name ≡ a) =
      named_where (slice_get xs i) a (sym (slice_get-map (λ x. x.name) xs i) ∙ slice_get-get_or (names_of xs) i d l) in
      subst (λ name. told m name ≡ Some i) x.2 (h i x.0 x.1)

  -- two symbols of one name would stand at one place
  pub different : IsDistinct bytes_eq (names_of xs)
  different = IsDistinct-from_apart bytes_eq (names_of xs) (λ i j d l r.
      ⊎_elim
      (λ y.
      let k : told m (get_or (names_of xs) i d) ≡ Some j = subst (λ name. told m name ≡ Some j) (sym ((bytes_eq-Decides (get_or (names_of xs) i d) (get_or (names_of xs) j d)).0 y)) (led j d r) in
      let f : told m (get_or (names_of xs) i d) ≡ Some i = led i d (omega arith) in
      let q : Some i ≡ Some j = sym f ∙ k in
      let w : i ≡ j = cc in absurd (omega arith))
      (λ n. n)
      (cases_Bool (bytes_eq (get_or (names_of xs) i d) (get_or (names_of xs) j d))))
