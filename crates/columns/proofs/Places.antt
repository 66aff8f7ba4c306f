-- First positions in a list of columns.
use Rattle.std.proofs.Common.{◌≡◌, ℕ, ◌<◌, eqb, List, length, get_or, IfSome, Some, None, true, Option, MatchOption, ◌∙◌}
use Rattle.std.specs.List.{AllWithin}
use Rattle.std.proofs.lemmas.Bool.{eqb-true}
use Rattle.std.proofs.lemmas.Bool.Decides.{Decides-eqb}
use Rattle.std.proofs.lemmas.List.{get_or_default}
use Rattle.names.proofs.FirstPlaces.{first_where_is, place_passes}
use Rattle.columns.specs.Columns.{first_place}

-- the least position is the one that the search finds
pub first_place_is : (xs : List ℕ) (c : ℕ) (r : Option ℕ) → MatchOption r (AllWithin (λ y. y ≡ c → ⊥) xs 0 (length xs)) (λ i. (i < length xs) × (get_or xs i 0 ≡ c) × AllWithin (λ y. y ≡ c → ⊥) xs 0 i) → first_place xs c ≡ r
first_place_is xs c None h = first_where_is (λ x. eqb x c) (λ x. x ≡ c) (λ x. Decides-eqb x c) xs None h
first_place_is xs c (Some i) h =
    first_where_is (λ x. eqb x c) (λ x. x ≡ c) (λ x. Decides-eqb x c) xs (Some i) (h.0, (λ d. get_or_default xs i d 0 h.0 ∙ h.1), h.2)

-- the first place is one in the list, and holds the column
pub place_holds : (xs : List ℕ) (c : ℕ) → IfSome (first_place xs c) (λ p. (p < length xs) × (get_or xs p 0 ≡ c))
place_holds xs c = go (first_place xs c) (place_passes (λ x. eqb x c) 0 xs)
  where
    go : (r : Option ℕ) → IfSome r (λ p. (p < length xs) × (eqb (get_or xs p 0) c ≡ true)) → IfSome r (λ p. (p < length xs) × (get_or xs p 0 ≡ c))
    go None h = tt
    go (Some p) h = (h.0, eqb-true (get_or xs p 0) c h.1)
