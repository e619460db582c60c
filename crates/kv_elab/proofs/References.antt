-- The references of a call.
use Rattle.std.proofs.Common.{◌≡◌, false, cond, List, [], ◌∷◌, ◌++◌, Option, Some, None, Ok, Err, length, bytes_eq, sym, subst, ◌∙◌, arith}
use Rattle.std.proofs.Math.Path.{ap₂}
use Rattle.std.specs.List.{list_any}
use Rattle.std.proofs.lemmas.Slice.Eq.{bytes_eq-Decides}
use Rattle.kv_names.specs.Names.{Name}
use Rattle.kv_names.specs.declared.symbols.Symbol.{Symbol}
use Rattle.kv_names.specs.declared.symbols.Var.{Var}
use Rattle.kv_trees.specs.declared.trees.Ref.{Ref}
use Rattle.kv_sig.specs.Members.{In, Every, Distinct}
use Rattle.kv_sig.specs.Typing.{AreVariables}
use Rattle.kv_sig.specs.FreeNames.{free_refs}
use Rattle.kv_elab.specs.declared.contexts.Context.{Context}
use Rattle.kv_elab.specs.Faults.{TypeFault}
use Rattle.kv_elab.specs.Typed.{and_then}
use Rattle.kv_elab.specs.Scopes.{place_of}
use Rattle.kv_elab.specs.Elab.{elab_place, elab_ref, elab_refs}
use Rattle.kv_elab.specs.Lawful.{sorts_of, IsLawful}
use Rattle.kv_elab.proofs.Outcomes.{Answers, from_ok, no_fault, from_both, from_if, from_unless}
use Rattle.kv_elab.proofs.Members.{none_in, cases_in, every_append, any_front, any_last, true_not_false}
use Rattle.kv_elab.proofs.Places.{Names, place_names, one_name, place_typed, place_within}

ref_at : (before : List Name) (want name : Name) (o : Option (Ref × Name)) (r : Ref) → Answers (and_then (elab_place name o) (elab_ref before want name)) r →
    (o ≡ Some (r, want)) × (list_any (λ y. bytes_eq y name) before ≡ false)
ref_at before want name None r e = absurd (no_fault (TypeFault.Unknown name) r e)
ref_at before want name (Some p) r e =
    let new = from_unless (list_any (λ y. bytes_eq y name) before) (cond (bytes_eq want p.1) (Ok p.0) (Err (TypeFault.Sort want p.1))) (TypeFault.Duplicate name) r e in
    let fits = from_if (bytes_eq want p.1) (Ok p.0) (TypeFault.Sort want p.1) r new.1 in
    (ap₂ (λ x s. Some (x, s)) (from_ok p.0 r fits.1) (sym ((bytes_eq-Decides want p.1).0 fits.0)), new.0)

-- the reference is the place of a name that does not stand before
abbrev IsNamed : Context → List Name → Ref → Type 0
IsNamed c before r = (name : Name) × (s : Name) × (place_of c name ≡ Some (r, s)) × (list_any (λ y. bytes_eq y name) before ≡ false)

refs_named : (c : Context) (before wants names : List Name) (rs : List Ref) (r : Ref) → Answers (elab_refs c before wants names) rs → In r rs → IsNamed c before r
refs_named c before [] names rs r e i = absurd (none_in r (subst (In r) (sym (from_ok [] rs e)) i))
refs_named c before (want ∷ wants) [] rs r e i = absurd (none_in r (subst (In r) (sym (from_ok [] rs e)) i))
refs_named c before (want ∷ wants) (x ∷ xs) rs r e i =
    from_both (λ qs. In r qs → IsNamed c before r) ◌∷◌ (and_then (elab_place x (place_of c x)) (elab_ref before want x)) (elab_refs c (before ++ x ∷ []) wants xs) rs e (λ q qs first rest.
    cases_in (λ z. IsNamed c before z) r q qs
    (let at = ref_at before want x (place_of c x) q first in (x, want, at.0, at.1))
    (λ j. let is = refs_named c (before ++ x ∷ []) wants xs qs r rest j in (is.0, is.1, is.2, any_front (λ y. bytes_eq y is.0) before (x ∷ []) is.3))) i

pub refs_distinct : (c : Context) (before wants names : List Name) (rs : List Ref) → Answers (elab_refs c before wants names) rs → Distinct rs
refs_distinct c before [] names rs e = subst Distinct (from_ok [] rs e) tt
refs_distinct c before (want ∷ wants) [] rs e = subst Distinct (from_ok [] rs e) tt
refs_distinct c before (want ∷ wants) (x ∷ xs) rs e =
    from_both Distinct ◌∷◌ (and_then (elab_place x (place_of c x)) (elab_ref before want x)) (elab_refs c (before ++ x ∷ []) wants xs) rs e (λ r qs first rest. (
      λ again. let other = refs_named c (before ++ x ∷ []) wants xs qs r rest again in
          let own : Names c x r want = place_names c x (r, want) (ref_at before want x (place_of c x) r first).0 in
          let same : x ≡ other.0 = one_name c x other.0 r want other.1 own (place_names c other.0 (r, other.1) other.2) in
          true_not_false (sym (any_last (λ y. bytes_eq y other.0) before x ((bytes_eq-Decides x other.0).1 same)) ∙ other.3),
      refs_distinct c (before ++ x ∷ []) wants xs qs rest,
    ))

pub refs_typed : (sig : List Symbol) (c : Context) (before wants names : List Name) (rs : List Ref) → IsLawful sig c → length names ≡ length wants →
    Answers (elab_refs c before wants names) rs → AreVariables sig (sorts_of c) rs wants
refs_typed sig c before [] names rs law n e = subst (λ qs. AreVariables sig (sorts_of c) qs []) (from_ok [] rs e) tt
refs_typed sig c before (want ∷ wants) [] rs law n e = absurd (omega arith)
refs_typed sig c before (want ∷ wants) (x ∷ xs) rs law n e =
    from_both (λ qs. AreVariables sig (sorts_of c) qs (want ∷ wants)) ◌∷◌ (and_then (elab_place x (place_of c x)) (elab_ref before want x)) (elab_refs c (before ++ x ∷ []) wants xs) rs e (λ r qs first rest.
    (place_typed sig c x r want law (place_names c x (r, want) (ref_at before want x (place_of c x) r first).0), refs_typed sig c (before ++ x ∷ []) wants xs qs law (omega arith) rest))

pub refs_within : (c : Context) (before wants names : List Name) (rs : List Ref) → Answers (elab_refs c before wants names) rs → Every (λ (v : Var). In v c.free) (free_refs rs)
refs_within c before [] names rs e = subst (λ qs. Every (λ (v : Var). In v c.free) (free_refs qs)) (from_ok [] rs e) tt
refs_within c before (want ∷ wants) [] rs e = subst (λ qs. Every (λ (v : Var). In v c.free) (free_refs qs)) (from_ok [] rs e) tt
refs_within c before (want ∷ wants) (x ∷ xs) rs e =
    from_both (λ qs. Every (λ (v : Var). In v c.free) (free_refs qs)) ◌∷◌ (and_then (elab_place x (place_of c x)) (elab_ref before want x)) (elab_refs c (before ++ x ∷ []) wants xs) rs e (λ r qs first rest.
    every_append (λ (v : Var). In v c.free) _ _ (place_within c x r want (place_names c x (r, want) (ref_at before want x (place_of c x) r first).0)) (refs_within c (before ++ x ∷ []) wants xs qs rest))
