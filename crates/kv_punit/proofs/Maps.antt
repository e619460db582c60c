-- What is seen of a list's items.
use Rattle.std.proofs.Common.{◌≡◌, List, [], ◌∷◌, ◌++◌, map, ap, ◌∙◌}
use Rattle.std.proofs.lemmas.List.{map-append}

-- what is seen of a list to which an item was added
pub pushed : {X Y : Type 0} (f : X → Y) (xs new : List X) (x : X) (y : Y) → new ≡ xs ++ (x ∷ []) → f x ≡ y → map f new ≡ map f xs ++ (y ∷ [])
pushed f xs new x y e is = ap (map f) e ∙ map-append f xs (x ∷ []) ∙ ap (λ z. map f xs ++ (z ∷ [])) is
