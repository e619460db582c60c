-- Parameters one after the other, with the set of the names so far.
use Rattle.std.proofs.Common.{◌≡◌, ℕ, suc, ◌+◌, ◌<◌, add-one, drop-cons, length, get_or, drop, map, Err, List, [], ◌∷◌, Option, Some, None, Bool, true, false, not, ◌||◌, cond, refl, sym, ap, ◌∙◌}
use Rattle.std.proofs.lemmas.Cmp.{nat_list_eq_equiv}
use Rattle.std.specs.Borrow.{Bor}
use Rattle.std.specs.HashSet as bag
use Rattle.std.specs.HashSet.{HashSet}
use Rattle.std.specs.List.{list_any}
use Rattle.std.specs.Str.{bytes_eq}
use Rattle.kv_flat.specs.Faults.{Finds}
use Rattle.kv_flat.specs.declared.faults.FlatError.{FlatError}
use Rattle.kv_flat.specs.declared.faults.FlatError.TheVariants as fault
use Rattle.kv_flat.specs.Items.{fault_of, first_of, parameters_fault, repetition, sort_fault}
use Rattle.kv_names.specs.Names.{Name}
use Rattle.kv_syn.specs.declared.outcomes.Reason.{Reason}
use Rattle.kv_names.specs.declared.symbols.Symbol.{Symbol}
use Rattle.kv_names.specs.declared.symbols.Var.{Var}
use Rattle.kv_table.specs.Reasons as reason

-- the set has these names and no others
unfoldable pub HasNames : {S : Type 0} → List Name → HashSet (Bor (List ℕ)) S → Type 0
HasNames names set = (name : Name) → bag.contains_by (λ (key : Bor (List ℕ)). bytes_eq name key.now) set ≡ list_any (bytes_eq name) names

-- the fault of all is that of the rest behind the names so far
pub record SoFar {S : Type 0} (signature : List Symbol) (set : HashSet (Bor (List ℕ)) S) (rest all : List Var) : Type 0 where
  pub names : List Name
  pub are : HasNames names set
  pub same : parameters_fault signature names rest ≡ parameters_fault signature [] all

-- a name as a key
abbrev key_of : List ℕ → Bor (List ℕ)
key_of name = record { ref_ptr = (0, 0); now = name }

either : (b there : Bool) → cond b true there ≡ (b || there)
either true there = refl
either false there = refl

module _ {S : Type 0} (signature : List Symbol) (set : HashSet (Bor (List ℕ)) S) (all : List Var) where
  no_names : bag.IsEmpty set → HasNames [] set
  unfolding HasNames
  no_names empty name = rw empty refl

  pub none_yet : bag.IsEmpty set → SoFar signature set all all
  none_yet empty = record { names = []; are = no_names empty; same = refl }

  pub all_judged : SoFar signature set [] all → parameters_fault signature [] all ≡ None
  all_judged so_far = sym so_far.same

  module _ (x : Var) (rest : List Var) (so_far : SoFar signature set (x ∷ rest) all) (key : Bor (List ℕ)) (named : key.now ≡ x.name)
      (new : Bool) (is : new ≡ not (bag.contains_by (λ (k : Bor (List ℕ)). bytes_eq key.now k.now) set)) where
    stood : bag.contains_by (λ (k : Bor (List ℕ)). bytes_eq key.now k.now) set ≡ list_any (bytes_eq x.name) so_far.names
    unfolding HasNames
    stood = so_far.are key.now ∙ ap (λ (n : Name). list_any (bytes_eq n) so_far.names) named

    repeated_where : (b : Bool) → new ≡ b → repetition so_far.names x.name ≡ cond b None (Some (fault_of reason.DUPLICATE x.name))
    repeated_where b e =
        ap (λ (there : Bool). cond there (Some (fault_of reason.DUPLICATE x.name)) None) (sym stood)
        ∙ turned (bag.contains_by (λ (k : Bor (List ℕ)). bytes_eq key.now k.now) set) b (sym is ∙ e)
      where
        turned : (there b : Bool) → not there ≡ b → cond there (Some (fault_of reason.DUPLICATE x.name)) None ≡ cond b None (Some (fault_of reason.DUPLICATE x.name))
        turned true true e = absurd (cc)
        turned true false e = refl
        turned false true e = refl
        turned false false e = absurd (cc)

    pub repeated : new ≡ false → parameters_fault signature [] all ≡ Some (fault_of reason.DUPLICATE x.name)
    repeated e =
        sym so_far.same
        ∙ ap (λ (f : Option Reason). first_of f (first_of (sort_fault signature x.sort) (parameters_fault signature (x.name ∷ so_far.names) rest))) (repeated_where false e)

    -- the name is new
    pub by_sort : new ≡ true → (fault : Option Reason) → sort_fault signature x.sort ≡ fault → parameters_fault signature [] all ≡ first_of fault (parameters_fault signature (x.name ∷ so_far.names) rest)
    by_sort e fault told =
        sym so_far.same
        ∙ ap (λ (f : Option Reason). first_of f (first_of (sort_fault signature x.sort) (parameters_fault signature (x.name ∷ so_far.names) rest))) (repeated_where true e)
        ∙ ap (λ (f : Option Reason). first_of f (parameters_fault signature (x.name ∷ so_far.names) rest)) told

    more_names : (more : HashSet (Bor (List ℕ)) S) → bag.Updates (λ a b. bytes_eq a.now b.now) set more key true → HasNames (x.name ∷ so_far.names) more
    unfolding HasNames
    more_names more put name =
        put.0 (key_of name)
        ∙ either (bytes_eq key.now name) (bag.contains_by (λ (k : Bor (List ℕ)). bytes_eq name k.now) set)
        ∙ ap (λ (b : Bool). b || bag.contains_by (λ (k : Bor (List ℕ)). bytes_eq name k.now) set) (nat_list_eq_equiv.symm key.now name ∙ ap (bytes_eq name) named)
        ∙ ap (λ (b : Bool). bytes_eq name x.name || b) (so_far.are name)

    pub one_more : new ≡ true → sort_fault signature x.sort ≡ None → (more : HashSet (Bor (List ℕ)) S) → bag.Updates (λ a b. bytes_eq a.now b.now) set more key true → SoFar signature more rest all
    one_more e told more put = record { names = x.name ∷ so_far.names; are = more_names more put; same = sym (by_sort e None told) }

-- what is left of borrowed parameters at a place, as plain data
pub left_at : (xs : List (Bor Var)) (i : ℕ) (x : Bor Var) → i < length xs → x ≡ get_or xs i x → map (λ (y : Bor Var). y.now) (drop i xs) ≡ x.now ∷ map (λ (y : Bor Var). y.now) (drop (i + 1) xs)
left_at xs i x below is = ap (map (λ (y : Bor Var). y.now)) (drop-cons xs i x below ∙ ap (λ y. y ∷ drop (suc i) xs) (sym is)) ∙ ap (λ n. x.now ∷ map (λ (y : Bor Var). y.now) (drop n xs)) (sym (add-one i))

-- the fault that is told is the fault of all
pub told_all : {E F : Option Reason} (error : FlatError) → F ≡ E → Finds E (Err error) → Finds F (Err error)
told_all (fault.Bad reason) e told = e ∙ told
told_all fault.NoMemory e told = tt

-- a sort's fault is the fault of all, where nothing before it is at fault
pub sort_told : {F rest : Option Reason} (error : FlatError) (own : Option Reason) → Finds own (Err error) → ((fault : Option Reason) → own ≡ fault → F ≡ first_of fault rest) → Finds F (Err error)
sort_told (fault.Bad reason) own told by = by (Some reason) told
sort_told fault.NoMemory own told by = tt
