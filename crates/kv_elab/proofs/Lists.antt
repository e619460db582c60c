-- Terms one by one and as a list.
use Rattle.std.proofs.Common.{◌≡◌, ℕ, ◌+◌, ◌<◌, ◌≤◌, List, [], ◌∷◌, ◌++◌, Ok, Err, arith, length, drop, take, get_or, refl, ap, ◌∙◌, sym, add-one, drop-cons, append_assoc}
use Rattle.std.proofs.lemmas.List.{drop_all, take_more, append-nil}
use Rattle.std.proofs.Math.Path.{ap₂}
use Rattle.kv_names.specs.Names.{Name}
use Rattle.kv_trees.specs.Trees as P
use Rattle.kv_trees.specs.Bridge.{plain_term, plain_terms}
use Rattle.kv_raw.specs.RawBridge.{raw_term, raw_terms}
use Rattle.kv_names.specs.declared.symbols.Symbol.{Symbol}
use Rattle.kv_trees.specs.declared.trees.Ref.{Ref}
use Rattle.kv_trees.specs.declared.trees.Term.{Term}
use Rattle.kv_raw.specs.declared.raws.RawTerm.{RawTerm}
use Rattle.kv_elab.specs.declared.contexts.Context.{Context}
use Rattle.kv_elab.specs.Typed.{Typed, and_then, both}
use Rattle.kv_elab.specs.Scopes.{place_of}
use Rattle.kv_elab.specs.Elab.{terms_count, of_sort, elab_term, elab_args, elab_place, elab_ref, elab_refs}

pub counted : (ts : List RawTerm) → length ts ≡ terms_count (raw_terms ts)
counted [] = refl
counted (t ∷ ts) = omega (arith, counted ts)

pub drop_next : {A : Type 0} (xs : List A) (i : ℕ) (x : A) → i < length xs → x ≡ get_or xs i x → drop i xs ≡ x ∷ drop (i + 1) xs
drop_next xs i x h e = drop-cons xs i x h ∙ ap₂ (λ y n. y ∷ drop n xs) (sym e) (sym (add-one i))

abbrev pub joined : P.Terms → P.Terms → P.Terms
joined P.Terms.none us = us
joined (P.Terms.more t ts) us = P.Terms.more t (joined ts us)

-- what is typed so far, and then the rest
abbrev pub after : List Term → Typed P.Terms → Typed P.Terms
after ts rest = and_then rest (λ us. Ok (joined (plain_terms ts) us))

joined-none : (us : P.Terms) → joined us P.Terms.none ≡ us
joined-none P.Terms.none = refl
joined-none (P.Terms.more t ts) = ap (P.Terms.more t) (joined-none ts)

joined-more : (ts : List Term) (t : Term) (us : P.Terms) → joined (plain_terms ts) (P.Terms.more (plain_term t) us) ≡ joined (plain_terms (ts ++ t ∷ [])) us
joined-more [] t us = refl
joined-more (x ∷ xs) t us = ap (P.Terms.more (plain_term x)) (joined-more xs t us)

after-more : (ts : List Term) (t : Term) (first : Typed P.Term) (rest : Typed P.Terms) → first ≡ Ok (plain_term t) → after ts (both P.Terms.more first rest) ≡ after (ts ++ t ∷ []) rest
after-more ts t first (Ok us) e = ap (λ r. after ts (both P.Terms.more r (Ok us))) e ∙ ap Ok (joined-more ts t us)
after-more ts t first (Err fault) e = ap (λ r. after ts (both P.Terms.more r (Err fault))) e

pub args_next : (sig : List Symbol) (c : Context) (wants : List Name) (args : List RawTerm) (ts : List Term) (i : ℕ) (want : Name) (arg : RawTerm) (t : Term) →
    i < length wants → i < length args → want ≡ get_or wants i want → arg ≡ get_or args i arg →
    and_then (elab_term sig c (raw_term arg)) (of_sort want) ≡ Ok (plain_term t) →
    after ts (elab_args sig c (drop i wants) (raw_terms (drop i args))) ≡ after (ts ++ t ∷ []) (elab_args sig c (drop (i + 1) wants) (raw_terms (drop (i + 1) args)))
args_next sig c wants args ts i want arg t h g w a e =
    ap₂ (λ ws xs. after ts (elab_args sig c ws (raw_terms xs))) (drop_next wants i want h w) (drop_next args i arg g a)
    ∙ after-more ts t (and_then (elab_term sig c (raw_term arg)) (of_sort want)) (elab_args sig c (drop (i + 1) wants) (raw_terms (drop (i + 1) args))) e

pub args_end : (sig : List Symbol) (c : Context) (wants : List Name) (args : List RawTerm) (ts : List Term) (i : ℕ) →
    length wants ≤ i → length args ≤ i → after ts (elab_args sig c (drop i wants) (raw_terms (drop i args))) ≡ Ok (plain_terms ts)
args_end sig c wants args ts i h g =
    ap₂ (λ ws xs. after ts (elab_args sig c ws (raw_terms xs))) (drop_all i wants h) (drop_all i args g) ∙ ap Ok (joined-none (plain_terms ts))

-- the references that are typed so far, and then the rest
abbrev pub after_refs : List Ref → Typed (List Ref) → Typed (List Ref)
after_refs rs rest = and_then rest (λ qs. Ok (rs ++ qs))

after_refs-more : (rs : List Ref) (r : Ref) (first : Typed Ref) (rest : Typed (List Ref)) → first ≡ Ok r → after_refs rs (both ◌∷◌ first rest) ≡ after_refs (rs ++ r ∷ []) rest
after_refs-more rs r first (Ok qs) e = ap (λ x. after_refs rs (both ◌∷◌ x (Ok qs))) e ∙ ap Ok (sym (append_assoc rs (r ∷ []) qs))
after_refs-more rs r first (Err fault) e = ap (λ x. after_refs rs (both ◌∷◌ x (Err fault))) e

take_next : {A : Type 0} (xs : List A) (i : ℕ) (x : A) → i < length xs → x ≡ get_or xs i x → take i xs ++ x ∷ [] ≡ take (i + 1) xs
take_next xs i x h e = ap (λ y. take i xs ++ y ∷ []) e ∙ sym (take_more xs i x h)

pub refs_next : (c : Context) (wants names : List Name) (rs : List Ref) (i : ℕ) (want name : Name) (r : Ref) →
    i < length wants → i < length names → want ≡ get_or wants i want → name ≡ get_or names i name →
    and_then (elab_place name (place_of c name)) (elab_ref (take i names) want name) ≡ Ok r →
    after_refs rs (elab_refs c (take i names) (drop i wants) (drop i names)) ≡ after_refs (rs ++ r ∷ []) (elab_refs c (take (i + 1) names) (drop (i + 1) wants) (drop (i + 1) names))
refs_next c wants names rs i want name r h g w n e =
    ap₂ (λ ws xs. after_refs rs (elab_refs c (take i names) ws xs)) (drop_next wants i want h w) (drop_next names i name g n)
    ∙ after_refs-more rs r (and_then (elab_place name (place_of c name)) (elab_ref (take i names) want name)) (elab_refs c (take i names ++ name ∷ []) (drop (i + 1) wants) (drop (i + 1) names)) e
    ∙ ap (λ before. after_refs (rs ++ r ∷ []) (elab_refs c before (drop (i + 1) wants) (drop (i + 1) names))) (take_next names i name g n)

pub refs_end : (c : Context) (wants names : List Name) (rs : List Ref) (i : ℕ) →
    length wants ≤ i → length names ≤ i → after_refs rs (elab_refs c (take i names) (drop i wants) (drop i names)) ≡ Ok rs
refs_end c wants names rs i h g =
    ap₂ (λ ws xs. after_refs rs (elab_refs c (take i names) ws xs)) (drop_all i wants h) (drop_all i names g) ∙ ap Ok (append-nil rs)
