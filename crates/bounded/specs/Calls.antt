-- What calls of a closure leave of a list.
use Rattle.std.specs.Prelude.{◌≡◌, Bool, List}
use Rattle.std.specs.List.{AllZip, items_where_true}

-- the test R answers at each of xs, and ys are those at which it is true, in order
abbrev pub IsKeptBy : {X : Type 0} → (X → Bool → Type 0) → List X → List X → Type 0
IsKeptBy R xs ys = (bs : List Bool) × AllZip R xs bs × (ys ≡ items_where_true bs xs)

-- R relates each x to what p makes of it, and to nothing else
abbrev pub Computes : {X Y : Type 0} → (X → Y → Type 0) → (X → Y) → Type 0
Computes {X} {Y} R p = (x : X) (y : Y) → R x y → y ≡ p x
