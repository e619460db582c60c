-- Look-ups by a table are those of the list.
use Rattle.std.proofs.Common.{◌≡◌, ℕ, zero, suc, List, [], ◌∷◌, Option, Some, None, Bool, true, false, refl, sym, subst, ◌∙◌}
use Rattle.std.proofs.lemmas.Bool.{cases_Bool, cond-true, cond-false}
use Rattle.std.proofs.lemmas.Slice.Eq.{bytes_eq-Decides}
use Rattle.std.proofs.Math.Logic.{⊎_elim}
use Rattle.std.specs.Prelude.{Vec}
use Rattle.std.specs.Str.{bytes_eq}
use Rattle.std.specs.List.{slice_get, find}
use Rattle.std.specs.HashMap.{HashMap}
use Rattle.kv_names.specs.Names.{Name}
use Rattle.kv_names.specs.declared.symbols.Symbol.{Symbol}
use Rattle.kv_sig.specs.Index.{told, IsIndex, if_named, at_place}

pub find_none : {X : Type 0} (t : X → Bool) (xs : List X) → find t xs ≡ None → (i : ℕ) (s : X) → slice_get xs i ≡ Some s → t s ≡ false
find_none t [] e i s g = cc
find_none t (x ∷ xs) e zero s g =
    ⊎_elim
    (λ y. let k : Some x ≡ None = sym (cond-true (t x) (Some x) (find t xs) y) ∙ e in cc)
    (λ n. let k : Some x ≡ Some s = g in cc)
    (cases_Bool (t x))
find_none t (x ∷ xs) e (suc i) s g =
    ⊎_elim
    (λ y. let k : Some x ≡ None = sym (cond-true (t x) (Some x) (find t xs) y) ∙ e in cc)
    (λ n. find_none t xs (sym (cond-false (t x) (Some x) (find t xs) n) ∙ e) i s g)
    (cases_Bool (t x))

find_some : {X : Type 0} (t : X → Bool) (xs : List X) (s : X) → find t xs ≡ Some s → (i : ℕ) × (slice_get xs i ≡ Some s) × (t s ≡ true)
find_some t [] s e = cc
find_some t (x ∷ xs) s e =
    ⊎_elim
    (λ y. let k : Some x ≡ Some s = sym (cond-true (t x) (Some x) (find t xs) y) ∙ e in (0, k, (let f : x ≡ s = cc in subst (λ z. t z ≡ true) f y)))
    (λ n. let f = find_some t xs s (sym (cond-false (t x) (Some x) (find t xs) n) ∙ e) in (suc f.0, f.1, f.2))
    (cases_Bool (t x))

module _ {A S : Type 0} (xs : List Symbol) (index : HashMap (Vec ℕ A) ℕ S) (h : IsIndex xs index) (name : Name) where
  -- what the list finds, the table leads to
  leads : (s : Symbol) → find (λ x. bytes_eq x.name name) xs ≡ Some s → (i : ℕ) × (slice_get xs i ≡ Some s) × (told index name ≡ Some i)
  unfolding IsIndex
  leads s e =
      let f : (i : ℕ) × (slice_get xs i ≡ Some s) × (bytes_eq s.name name ≡ true) = find_some (λ x. bytes_eq x.name name) xs s e in
      (f.0, f.1, subst (λ n. told index n ≡ Some f.0) ((bytes_eq-Decides s.name name).0 f.2) (h f.0 s f.1))

  hit_where : (p : ℕ) (s : Symbol) → told index name ≡ Some p → slice_get xs p ≡ Some s → bytes_eq s.name name ≡ true → (o : Option Symbol) → find (λ x. bytes_eq x.name name) xs ≡ o → o ≡ Some s
  hit_where p s e g y None f = let k : bytes_eq s.name name ≡ false = find_none (λ x. bytes_eq x.name name) xs f p s g in cc
  hit_where p s e g y (Some r) f =
      let k : (i : ℕ) × (slice_get xs i ≡ Some r) × (told index name ≡ Some i) = leads r f in
      let q : k.0 ≡ p = (let l : Some k.0 ≡ Some p = sym k.2 ∙ e in cc) in
      let m : slice_get xs p ≡ Some r = subst (λ i. slice_get xs i ≡ Some r) q k.1 in sym m ∙ g

  hit : (p : ℕ) (s : Symbol) → told index name ≡ Some p → slice_get xs p ≡ Some s → bytes_eq s.name name ≡ true → find (λ x. bytes_eq x.name name) xs ≡ Some s
  hit p s e g y = hit_where p s e g y (find (λ x. bytes_eq x.name name) xs) refl

  miss_where : ((p : ℕ) (s : Symbol) → told index name ≡ Some p → slice_get xs p ≡ Some s → bytes_eq s.name name ≡ false) → (o : Option Symbol) → find (λ x. bytes_eq x.name name) xs ≡ o → o ≡ None
  miss_where n None f = refl
  miss_where n (Some r) f =
      let k : (i : ℕ) × (slice_get xs i ≡ Some r) × (told index name ≡ Some i) = leads r f in
      let l : (i : ℕ) × (slice_get xs i ≡ Some r) × (bytes_eq r.name name ≡ true) = find_some (λ x. bytes_eq x.name name) xs r f in
      let m : bytes_eq r.name name ≡ false = n k.0 r k.2 k.1 in
      let y : bytes_eq r.name name ≡ true = l.2 in cc

  miss : ((p : ℕ) (s : Symbol) → told index name ≡ Some p → slice_get xs p ≡ Some s → bytes_eq s.name name ≡ false) → find (λ x. bytes_eq x.name name) xs ≡ None
  miss n = miss_where n (find (λ x. bytes_eq x.name name) xs) refl

  found_at : (p : ℕ) → told index name ≡ Some p → (o : Option Symbol) → slice_get xs p ≡ o → if_named name o ≡ find (λ x. bytes_eq x.name name) xs
  found_at p e None g = sym (miss (λ q s f k.
      let same : q ≡ p = (let l : Some q ≡ Some p = sym f ∙ e in cc) in
      let m : Some s ≡ None = sym (subst (λ i. slice_get xs i ≡ Some s) same k) ∙ g in cc))
  found_at p e (Some s) g =
      ⊎_elim
      (λ y. cond-true (bytes_eq s.name name) (Some s) None y ∙ sym (hit p s e g y))
      (λ n. cond-false (bytes_eq s.name name) (Some s) None n ∙ sym (miss (λ q r f k.
      let same : q ≡ p = (let l : Some q ≡ Some p = sym f ∙ e in cc) in
      let m : Some s ≡ Some r = sym g ∙ subst (λ i. slice_get xs i ≡ Some r) same k in
      let w : s ≡ r = cc in subst (λ z. bytes_eq z.name name ≡ false) w n)))
      (cases_Bool (bytes_eq s.name name))

  found_where : (o : Option ℕ) → told index name ≡ o → at_place xs name o ≡ find (λ x. bytes_eq x.name name) xs
  found_where None e = sym (miss (λ q s f k. let l : None ≡ Some q = sym e ∙ f in cc))
  found_where (Some p) e = found_at p e (slice_get xs p) refl

  -- looking by the table is looking through the list
  pub found : at_place xs name (told index name) ≡ find (λ x. bytes_eq x.name name) xs
  found = found_where (told index name) refl
