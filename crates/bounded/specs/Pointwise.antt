-- Lists that are compared element by element, through a view of the elements.
use Rattle.std.proofs.Common.{◌≡◌, Bool, ◌&&◌, List, [], ◌∷◌, map, refl, ap, ◌∙◌}
use Rattle.std.specs.Cmp.Lexicographic.{pointwise}

-- where elements are compared as their views are
pub pointwise_map : {X Y : Type 0} (eq : X → X → Bool) (same : Y → Y → Bool) (v : X → Y) → ((x y : X) → eq x y ≡ same (v x) (v y)) → (xs ys : List X) → pointwise eq xs ys ≡ pointwise same (map v xs) (map v ys)
pointwise_map eq same v says [] [] = refl
pointwise_map eq same v says [] (y ∷ ys) = refl
pointwise_map eq same v says (x ∷ xs) [] = refl
pointwise_map eq same v says (x ∷ xs) (y ∷ ys) = ap (λ b. b && pointwise eq xs ys) (says x y) ∙ ap (λ b. same (v x) (v y) && b) (pointwise_map eq same v says xs ys)
