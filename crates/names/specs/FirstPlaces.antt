-- First positions.
use Rattle.std.specs.Prelude.{ℕ, suc, Bool, cond, List, [], ◌∷◌, Some, None, Option}
use Rattle.std.specs.List.{flat_map}
use Rattle.std.specs.Option.{option_map, option_to_list as optional}

-- the least position whose entry passes
abbrev pub first_where : {X : Type 0} → (X → Bool) → List X → Option ℕ
first_where p [] = None
first_where p (x ∷ xs) = cond (p x) (Some 0) (option_map suc (first_where p xs))

-- the first positions in xs of those ys that are there
abbrev pub first_places : {X Y : Type 0} → (X → Y → Bool) → List X → List Y → List ℕ
first_places same xs ys = flat_map (λ y. optional (first_where (λ x. same x y) xs)) ys
