-- Names that differ.
use Rattle.std.proofs.Common.{ℕ, zero, suc, ◌≡◌, ◌<◌, ◌+◌, length, get_or, arith, List, [], ◌∷◌, ◌++◌, take, map, refl, ap, ◌∙◌, sym, subst, inl, inr}
use Rattle.std.specs.Prelude.{Bool, true, false, not, cond, Result, Ok, Err, IfOk, ◌||◌, ◌⊎◌, Some, slice_get}
use Rattle.std.specs.Bool.{Decides}
use Rattle.std.specs.List.{All, AllByRecursion, IsDistinct, list_any}
use Rattle.std.specs.Str.{bytes_eq}
use Rattle.std.proofs.lemmas.Option.{slice_get-get_or}
use Rattle.std.proofs.lemmas.List.{map-append}
use Rattle.std.proofs.lemmas.List.Folds.{list_any-append}
use Rattle.std.proofs.lemmas.List.Elements.{All-nil, All-cons, All-head, All-tail}
use Rattle.std.proofs.lemmas.Cmp.{nat_list_eq_equiv}
use Rattle.std.proofs.lemmas.Map.Keys.{IsDistinct-head, IsDistinct-tail, IsDistinct-push}
use Rattle.kv_names.specs.Names.{Name}
use Rattle.kv_syn.specs.Projects as P
use Rattle.kv_syn.specs.ProjectBridge.{plain_unit}
use Rattle.kv_syn.specs.declared.units.Unit.{Unit as UnitTree}
use Rattle.kv_punit.specs.Limits.{AreDifferent, HasDifferentNames, theorem_names, proof_names}
use Rattle.kv_pexpr.proofs.Steps.{some_is}

or_true : (a b : Bool) → (a || b) ≡ true → (a ≡ true) ⊎ (b ≡ true)
or_true true b e = inl refl
or_true false b e = inr e

-- what is told of each is told of one
all_at : (P : Name → Type 0) (xs zs : List Name) (y : Name) → AllByRecursion P (xs ++ (y ∷ zs)) → P y
all_at P [] zs y all = all.0
all_at P (x ∷ xs) zs y all = all_at P xs zs y all.1

-- a name that was there before
pub not_different : (xs zs : List Name) (y : Name) → list_any (bytes_eq y) xs ≡ true → IsDistinct bytes_eq (xs ++ (y ∷ zs)) → ⊥
not_different [] zs y e d = absurd (cc)
not_different (x ∷ xs) zs y e d = elim (or_true (bytes_eq y x) (list_any (bytes_eq y) xs) e) [
  | inl same ↦ absurd (let other = nat_list_eq_equiv.symm y x ∙ all_at (λ z. bytes_eq x z ≡ false) xs zs y (IsDistinct-head bytes_eq x (xs ++ (y ∷ zs)) d) in cc (same, other))
  | inr there ↦ not_different xs zs y there (IsDistinct-tail bytes_eq x (xs ++ (y ∷ zs)) d)
]

-- the thing at a place
pub at_place : {X : Type 0} (xs : List X) (i : ℕ) (x : X) → i < length xs → x ≡ get_or xs i x → slice_get xs i ≡ Some x
at_place xs i x below is = slice_get-get_or xs i x below ∙ ap Some (sym is)

-- the list around one of its things
pub around : {X : Type 0} (xs : List X) (i : ℕ) (x : X) → slice_get xs i ≡ Some x → (zs : List X) × (xs ≡ take i xs ++ (x ∷ zs))
around [] i x e = absurd (cc)
around (y ∷ ys) zero x e = (ys, ap (λ z. z ∷ ys) (some_is e))
around (y ∷ ys) (suc i) x e = let r = around ys i x e in (r.0, ap (λ l. y ∷ l) r.1)

-- a thing of the list has a name that was there before
pub has_equal : {X : Type 0} (name : X → Name) (xs : List X) (i : ℕ) (x : X) → slice_get xs i ≡ Some x → list_any (bytes_eq (name x)) (map name (take i xs)) ≡ true → IsDistinct bytes_eq (map name xs) → ⊥
has_equal name xs i x at e d =
    let r = around xs i x at in
    not_different (map name (take i xs)) (map name r.0) (name x) e
    (subst (IsDistinct bytes_eq) (ap (map name) r.1 ∙ map-append name (take i xs) (x ∷ r.0)) d)

-- ---- names so far

pub none_different : AreDifferent []
unfolding IsDistinct
none_different = tt

-- one more of the list
pub take_suc : {X : Type 0} (xs : List X) (i : ℕ) (x : X) → slice_get xs i ≡ Some x → take (i + 1) xs ≡ take i xs ++ (x ∷ [])
take_suc xs i x e = let f : i + 1 ≡ suc i = omega arith in ap (λ k. take k xs) f ∙ go xs i x e
  where
    go : {X : Type 0} (xs : List X) (i : ℕ) (x : X) → slice_get xs i ≡ Some x → take (suc i) xs ≡ take i xs ++ (x ∷ [])
    go [] i x e = absurd (cc)
    go (y ∷ ys) zero x e = ap (λ z. z ∷ []) (some_is e)
    go (y ∷ ys) (suc i) x e = ap (λ l. y ∷ l) (go ys i x e)

pub names_more : {X : Type 0} (name : X → Name) (xs : List X) (i : ℕ) (x : X) → slice_get xs i ≡ Some x → map name (take (i + 1) xs) ≡ map name (take i xs) ++ (name x ∷ [])
names_more name xs i x e = ap (map name) (take_suc xs i x e) ∙ map-append name (take i xs) (x ∷ [])

pub different_more : {X : Type 0} (name : X → Name) (xs : List X) (i : ℕ) (x : X) → slice_get xs i ≡ Some x → AreDifferent (map name (take i xs)) → list_any (bytes_eq (name x)) (map name (take i xs)) ≡ false
    → AreDifferent (map name (take (i + 1) xs))
different_more name xs i x e d new = subst AreDifferent (sym (names_more name xs i x e)) (IsDistinct-push nat_list_eq_equiv (map name (take i xs)) (name x) d new)

any_last : (q y : Name) (xs : List Name) (b : Bool) → list_any (bytes_eq q) xs ≡ b → list_any (bytes_eq q) (xs ++ (y ∷ [])) ≡ cond (bytes_eq y q) true b
any_last q y xs b e = list_any-append (bytes_eq q) xs (y ∷ []) ∙ rw (e, nat_list_eq_equiv.symm q y) (cond_or b (bytes_eq y q))
  where
    cond_or : (a b : Bool) → (a || (b || false)) ≡ cond b true a
    cond_or true true = refl
    cond_or true false = refl
    cond_or false true = refl
    cond_or false false = refl

-- what is told of a name after one more
pub any_more : {X : Type 0} (name : X → Name) (xs : List X) (i : ℕ) (x : X) → slice_get xs i ≡ Some x → (q : Name) (b : Bool) → list_any (bytes_eq q) (map name (take i xs)) ≡ b
    → list_any (bytes_eq q) (map name (take (i + 1) xs)) ≡ cond (bytes_eq (name x) q) true b
any_more name xs i x e q b h = ap (list_any (bytes_eq q)) (names_more name xs i x e) ∙ any_last q (name x) (map name (take i xs)) b h

-- ---- units

pub names_and : (u : P.Unit) (a b : Bool) → Decides a (AreDifferent (theorem_names u)) → a ≡ true → Decides b (AreDifferent (proof_names u)) → Decides b (HasDifferentNames u)
names_and u a b t e p = (λ h. record { theorems = t.0 e; proofs = p.0 h }, λ n. p.1 n.proofs)

pub names_ok : {E : Type 0} (u : P.Unit) (a : Bool) (r : Result Bool E) → Decides a (AreDifferent (theorem_names u)) → a ≡ true → IfOk r (λ b. Decides b (AreDifferent (proof_names u))) → IfOk r (λ b. Decides b (HasDifferentNames u))
names_ok u a (Ok b) t e p = names_and u a b t e p
names_ok u a (Err fault) t e p = tt

pub names_not : (u : P.Unit) (a b : Bool) → Decides a (AreDifferent (theorem_names u)) → a ≡ false → b ≡ false → Decides b (HasDifferentNames u)
names_not u a b t e f = (λ h. absurd (cc (f, h)), λ n. absurd (let h = t.1 n.theorems in cc (e, h)))

-- what is told of each unit is told of one
pub each_at : (Q : P.Unit → Type 0) (units : List UnitTree) (i : ℕ) (u : UnitTree) → slice_get units i ≡ Some u → All Q (map plain_unit units) → Q (plain_unit u)
each_at Q [] i u e all = absurd (cc)
each_at Q (v ∷ vs) zero u e all = subst (λ x. Q (plain_unit x)) (some_is e) (All-head Q (plain_unit v) (map plain_unit vs) all)
each_at Q (v ∷ vs) (suc i) u e all = each_at Q vs i u e (All-tail Q (plain_unit v) (map plain_unit vs) all)

each_last : (Q : P.Unit → Type 0) (units : List P.Unit) (u : P.Unit) → All Q units → Q u → All Q (units ++ (u ∷ []))
each_last Q [] u all one = All-cons Q u [] one (All-nil Q)
each_last Q (v ∷ vs) u all one = All-cons Q v (vs ++ (u ∷ [])) (All-head Q v vs all) (each_last Q vs u (All-tail Q v vs all) one)

pub each_more : (Q : P.Unit → Type 0) (units : List UnitTree) (i : ℕ) (u : UnitTree) → slice_get units i ≡ Some u → All Q (map plain_unit (take i units)) → Q (plain_unit u) → All Q (map plain_unit (take (i + 1) units))
each_more Q units i u e all one =
    subst (All Q) (sym (ap (map plain_unit) (take_suc units i u e) ∙ map-append plain_unit (take i units) (u ∷ []))) (each_last Q (map plain_unit (take i units)) (plain_unit u) all one)

-- ---- a set's answer

pub was_there : (added there : Bool) → added ≡ not there → added ≡ false → there ≡ true
was_there added true e f = refl
was_there added false e f = absurd (cc (e, f))

pub was_new : (added there : Bool) → added ≡ not there → added ≡ true → there ≡ false
was_new added true e f = absurd (cc (e, f))
was_new added false e f = refl
