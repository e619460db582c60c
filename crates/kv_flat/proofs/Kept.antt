-- A symbol more that is no sort makes no sort.
use Rattle.std.proofs.Common.{◌≡◌, List, [], ◌∷◌, ◌++◌, Option, Some, None, Bool, true, false, cond, Result, Ok, Err, refl, sym, ap, subst, ◌∙◌}
use Rattle.std.proofs.lemmas.List.Folds.{find-append}
use Rattle.std.specs.List.{find}
use Rattle.std.specs.Option.{option_map, option_or}
use Rattle.std.specs.Str.{bytes_eq}
use Rattle.kv_flat.specs.Faults.{Declares, Finds}
use Rattle.kv_flat.specs.Items.{fault_behind, fault_of, first_of, is_sort, is_sort_profile, or_clash, parameters_fault, repetition, sort_fault, sorts_fault, sorts_of, symbol_of, unless, with_item, with_symbol}
use Rattle.kv_flat.specs.declared.faults.FlatError.{FlatError}
use Rattle.kv_flat.specs.declared.faults.FlatError.TheVariants as fault
use Rattle.kv_sig.specs.Signatures.{added, added_where, profile_of}
use Rattle.kv_trees.specs.Same.{profile_eq}
use Rattle.kv_sig.specs.declared.sigs.SigError.{SigError}
use Rattle.kv_sig.specs.declared.sigs.SigError.TheVariants as sig
use Rattle.kv_syn.specs.Projects as P
use Rattle.kv_names.specs.Names.{Name}
use Rattle.kv_syn.specs.declared.outcomes.Reason.{Reason}
use Rattle.kv_names.specs.declared.symbols.Profile.{Profile}
use Rattle.kv_names.specs.declared.symbols.Profile.TheVariants.{Fun, Pred, Proc}
use Rattle.kv_names.specs.declared.symbols.Symbol.{Symbol}
use Rattle.kv_names.specs.declared.symbols.Var.{Var}
use Rattle.kv_table.specs.Reasons as reason

abbrev profile_in : Option Symbol → Option Profile
profile_in found = option_map (λ (x : Symbol). x.profile) found

or_no_sort : (found later : Option Symbol) → is_sort_profile (profile_in later) ≡ false → is_sort_profile (profile_in (option_or found later)) ≡ is_sort_profile (profile_in found)
or_no_sort None later none = none
or_no_sort (Some x) later none = refl

lone : (b : Bool) (x : Symbol) → is_sort_profile (Some x.profile) ≡ false → is_sort_profile (profile_in (cond b (Some x) None)) ≡ false
lone true x none = none
lone false x none = refl

behind_all : (signature : List Symbol) (x : Symbol) → is_sort_profile (Some x.profile) ≡ false → (s : Name) → is_sort (signature ++ x ∷ []) s ≡ is_sort signature s
behind_all signature x none s =
    ap (λ (found : Option Symbol). is_sort_profile (profile_in found)) (find-append (λ (y : Symbol). bytes_eq y.name s) signature (x ∷ []))
    ∙ or_no_sort (find (λ (y : Symbol). bytes_eq y.name s) signature) (find (λ (y : Symbol). bytes_eq y.name s) (x ∷ [])) (lone (bytes_eq x.name s) x none)

the_same : (b : Bool) (clash : SigError) (signature new : List Symbol) → cond b (Ok signature) (Err clash) ≡ Ok new → signature ≡ new
the_same true clash signature new e = cc
the_same false clash signature new e = absurd (cc)

-- the same names are sorts in both
abbrev SameSorts : List Symbol → List Symbol → Type 0
SameSorts new signature = (s : Name) → is_sort new s ≡ is_sort signature s

kept_where : (there : Option Profile) (signature new : List Symbol) (x : Symbol) → is_sort_profile (Some x.profile) ≡ false → added_where there signature x ≡ Ok new → SameSorts new signature
kept_where None signature new x none e s =
    let is : signature ++ x ∷ [] ≡ new = cc in subst (λ (n : List Symbol). is_sort n s ≡ is_sort signature s) is (behind_all signature x none s)
kept_where (Some there) signature new x none e s = ap (λ (n : List Symbol). is_sort n s) (sym (the_same (profile_eq there x.profile) (sig.Clash x.name) signature new e))

no_clash : (found : Result (List Symbol) SigError) (new : List Symbol) → or_clash found ≡ Ok new → found ≡ Ok new
no_clash (Ok signature) new e = cc
no_clash (Err (sig.Clash name)) new e = absurd (cc)
no_clash (Err sig.NoMemory) new e = absurd (cc)

kept : (signature new : List Symbol) (x : Symbol) → is_sort_profile (Some x.profile) ≡ false → or_clash (added signature x) ≡ Ok new → SameSorts new signature
kept signature new x none e = kept_where (profile_of signature x.name) signature new x none (no_clash (added signature x) new e)

-- so nothing else is at fault over the signature with that symbol
module _ (new signature : List Symbol) (same : SameSorts new signature) where
  of_sort : (s : Name) → sort_fault new s ≡ sort_fault signature s
  of_sort s = ap (λ (b : Bool). cond b None (Some (fault_of reason.UNKNOWN s))) (same s)

  of_sorts : (ss : List Name) → sorts_fault new ss ≡ sorts_fault signature ss
  of_sorts [] = refl
  of_sorts (s ∷ ss) = ap (λ (f : Option Reason). first_of f (sorts_fault new ss)) (of_sort s) ∙ ap (first_of (sort_fault signature s)) (of_sorts ss)

  of_parameters : (before : List Name) (xs : List Var) → parameters_fault new before xs ≡ parameters_fault signature before xs
  of_parameters before [] = refl
  of_parameters before (x ∷ xs) =
      ap (λ (f : Option Reason). first_of (repetition before x.name) (first_of f (parameters_fault new (x.name ∷ before) xs))) (of_sort x.sort)
      ∙ ap (λ (f : Option Reason). first_of (repetition before x.name) (first_of (sort_fault signature x.sort) f)) (of_parameters (x.name ∷ before) xs)

-- what stands behind a name is judged alike before and after its symbol is added
behind_kept : (signature new : List Symbol) (item : P.Item) → with_symbol signature (symbol_of item) ≡ Ok new → fault_behind new item ≡ fault_behind signature item
behind_kept signature new (P.Item.Sort s) e = refl
behind_kept signature new (P.Item.Free d) e = refl
behind_kept signature new (P.Item.Fun g args result) e =
    let same = kept signature new (record { name = g; profile = Fun args result }) refl e in
    ap (λ (f : Option Reason). first_of f (sort_fault new result)) (of_sorts new signature same args) ∙ ap (first_of (sorts_fault signature args)) (of_sort new signature same result)
behind_kept signature new (P.Item.Pred p args) e = of_sorts new signature (kept signature new (record { name = p; profile = Pred args }) refl e) args
behind_kept signature new (P.Item.Proc p values refs body) e = of_parameters new signature (kept signature new (record { name = p; profile = Proc (sorts_of values) (sorts_of refs) }) refl e) [] (values ++ refs)
behind_kept signature new (P.Item.Generated g) e = refl
behind_kept signature new (P.Item.Axiom a) e = refl

module _ (signature new : List Symbol) (item : P.Item) (x : Symbol) (is : symbol_of item ≡ Some x) where
  symbol_is : with_symbol signature (symbol_of item) ≡ or_clash (added signature x)
  symbol_is = ap (with_symbol signature) is

  -- the name clashes
  pub clashing : (later : List Symbol) (error : FlatError) → Declares (or_clash (added signature x)) later (Err error) → Declares (with_item signature item) new (Err error)
  clashing later (fault.Bad reason) told = ap (λ (r : Result (List Symbol) Reason). unless r (fault_behind signature item)) (symbol_is ∙ told)
  clashing later fault.NoMemory told = tt

  judged : or_clash (added signature x) ≡ Ok new → (found : Option Reason) → fault_behind new item ≡ found → with_item signature item ≡ unless (Ok new) found
  judged e found behind =
      ap (λ (r : Result (List Symbol) Reason). unless r (fault_behind signature item)) (symbol_is ∙ e)
      ∙ ap (unless (Ok new)) (sym (behind_kept signature new item (symbol_is ∙ e)) ∙ behind)

  -- the name doesn't clash, and what stands behind it is judged
  pub not_clashing : or_clash (added signature x) ≡ Ok new → (result : Result (Unit {0}) FlatError) → Finds (fault_behind new item) result → Declares (with_item signature item) new result
  not_clashing e (Ok done) told = judged e None told
  not_clashing e (Err (fault.Bad reason)) told = judged e (Some reason) told
  not_clashing e (Err fault.NoMemory) told = tt
