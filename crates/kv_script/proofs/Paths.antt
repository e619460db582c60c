-- Paths and lists, place by place.
use Rattle.std.proofs.Common.{ℕ, ◌+◌, ◌<◌, List, [], ◌∷◌, ◌++◌, length, get_or, drop, Option, Some, None, MatchOption, ◌≡◌, refl, sym, ap, ◌∙◌}
use Rattle.std.proofs.lemmas.List.{drop_more}

pub drop_here : {A : Type 0} (xs : List A) (i : ℕ) (x : A) → i < length xs → x ≡ get_or xs i x → drop i xs ≡ x ∷ drop (i + 1) xs
drop_here xs i x h e = drop_more xs i x h ∙ ap (λ y. y ∷ drop (i + 1) xs) (sym e)

same_front : (xs ys : List ℕ) (a b : ℕ) → xs ++ a ∷ [] ≡ ys ++ b ∷ [] → xs ≡ ys
same_front [] [] a b e = refl
same_front [] (y ∷ []) a b e = cc
same_front [] (y ∷ z ∷ ys) a b e = cc
same_front (x ∷ []) [] a b e = cc
same_front (x ∷ z ∷ xs) [] a b e = cc
same_front (x ∷ xs) (y ∷ ys) a b e =
    let e1 : x ≡ y = cc in
    let e2 : xs ++ a ∷ [] ≡ ys ++ b ∷ [] = cc in
    let ih = same_front xs ys a b e2 in cc

-- the last number is taken off again
pub popped : (o : Option ℕ) (before after path : List ℕ) (n : ℕ) → before ≡ path ++ n ∷ [] → MatchOption o ((before ≡ []) × (after ≡ [])) (λ last. before ≡ after ++ last ∷ []) → after ≡ path
popped None before after [] n e m = m.1
popped None before after (x ∷ path) n e m = let e' = sym (m.0) ∙ e in cc
popped (Some last) before after path n e m = same_front after path last n (sym m ∙ e)
