-- A loop that decides whether a property holds of each element, and stops at the first that lacks it.
use Rattle.std.proofs.Common.{ℕ, ◌<◌, ◌≤◌, Bool, true, false, List, [], ◌∷◌, map, length, get_or, take, Decides, refl, subst}
use Rattle.std.specs.List.{AllByRecursion}
use Rattle.std.proofs.ByRecursion.{All-get_or, All-map}
use Rattle.std.proofs.lemmas.List.{take_all}
use Rattle.std.proofs.lemmas.Bool.{false≢true}

module _ {X : Type 0} (P : X → Type 0) (xs : List X) (i : ℕ) where
  pub one_lacks : (d : X) → i < length xs → (P (get_or xs i d) → ⊥) → Decides false (AllByRecursion P xs)
  one_lacks d h bad = ((λ e. absurd (false≢true e)), λ all. absurd (bad (All-get_or P xs i d h all)))

  pub all_have : length xs ≤ i → AllByRecursion P (take i xs) → Decides true (AllByRecursion P xs)
  all_have h all = ((λ _. subst (λ (l : List X). AllByRecursion P l) (take_all i xs h) all), λ _. refl)

all_unmap : {X Y : Type 0} (P : Y → Type 0) (f : X → Y) (xs : List X) → AllByRecursion P (map f xs) → AllByRecursion (λ x. P (f x)) xs
all_unmap P f [] all = tt
all_unmap P f (x ∷ xs) all = (all.0, all_unmap P f xs all.1)

-- what is decided of the elements is decided of their views
pub decided_views : {X Y : Type 0} (P : Y → Type 0) (f : X → Y) (xs : List X) (r : Bool) → Decides r (AllByRecursion (λ x. P (f x)) xs) → Decides r (AllByRecursion P (map f xs))
decided_views P f xs r d = ((λ e. All-map P f xs (d.0 e)), λ all. d.1 (all_unmap P f xs all))
