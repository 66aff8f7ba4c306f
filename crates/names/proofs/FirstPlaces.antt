-- First positions, as a search finds them.
use Rattle.std.proofs.Common.{◌≡◌, ℕ, zero, suc, ◌+◌, ◌<◌, ◌≤◌, Bool, true, false, cond, ◌&&◌, ◌||◌, eqb, List, [], ◌∷◌, ◌++◌, map, length, get_or, take, is_some, IfSome, Some, None, Decides, Option, sym, refl, ap, ◌∙◌, le_of_suc-le-suc, not-suc-le-zero, arith, MatchOption}
use Rattle.std.specs.Option.{option_map, option_to_list as optional}
use Rattle.std.specs.List.{HoldsAt, AllWithin, list_all, list_any}
use Rattle.std.proofs.lemmas.List.{take_more, flat_map_more, length-append, append-nil}
use Rattle.std.proofs.lemmas.Bool.{ne_eqb}
use Rattle.std.proofs.lemmas.Bool.Decides.{nat_tests}
use Rattle.names.specs.FirstPlaces.{first_where, first_places}

fails : (b : Bool) (P : Type 0) → Decides b P → (P → ⊥) → b ≡ false
fails true P d no' = absurd (no' (d.0 refl))
fails false P d no' = refl

-- a test p that decides P
module _ {X : Type 0} (p : X → Bool) (P : X → Type 0) (decides : (x : X) → Decides (p x) (P x)) where
  step : (x : X) (xs : List X) (r : Option ℕ) → (P x → ⊥) → first_where p xs ≡ r → first_where p (x ∷ xs) ≡ option_map suc r
  step x xs r ne e = ap (λ b. cond b (Some 0) (option_map suc (first_where p xs))) (fails (p x) (P x) (decides x) ne) ∙ ap (option_map suc) e

  later : (x : X) (xs : List X) (n : ℕ) → AllWithin (λ y. P y → ⊥) (x ∷ xs) 0 (suc n) → AllWithin (λ y. P y → ⊥) xs 0 n
  later x xs n h k d low high = h (suc k) d (omega arith) (omega arith)

  -- the least position is the one that the search finds
  pub first_where_is : (xs : List X) (r : Option ℕ) → MatchOption r (AllWithin (λ y. P y → ⊥) xs 0 (length xs)) (λ i. (i < length xs) × HoldsAt P xs i × AllWithin (λ y. P y → ⊥) xs 0 i) → first_where p xs ≡ r
  first_where_is [] None h = refl
  first_where_is [] (Some i) h = absurd (not-suc-le-zero h.0)
  first_where_is (x ∷ xs) None h = step x xs None (h 0 x (omega arith) (omega arith)) (first_where_is xs None (later x xs (length xs) h))
  first_where_is (x ∷ xs) (Some zero) h = ap (λ b. cond b (Some 0) (option_map suc (first_where p xs))) ((decides x).1 (h.1 x))
  first_where_is (x ∷ xs) (Some (suc i)) h =
      step x xs (Some i) (h.2 0 x (omega arith) (omega arith)) (first_where_is xs (Some i) (le_of_suc-le-suc h.0, (λ d. h.1 d), later x xs i h.2))

-- a first one is found where any passes
pub found_any : {X : Type 0} (p : X → Bool) (xs : List X) → is_some (first_where p xs) ≡ list_any p xs
found_any p [] = refl
found_any p (x ∷ xs) = go (p x) (first_where p xs) (found_any p xs) where
  go : (b : Bool) (r : Option ℕ) → is_some r ≡ list_any p xs → is_some (cond b (Some 0) (option_map suc r)) ≡ (b || list_any p xs)
  go true r h = refl
  go false None h = h
  go false (Some i) h = h

-- the fact that a test of one type tells
module _ {X : Type 0} (same : X → X → Bool) (y : X) (P : X → Type 0) (decides : (x : X) → Decides (same x y) (P x)) where
  pub told : (xs : List X) (r : Option ℕ) → MatchOption r (AllWithin (λ x. ¬ (same x y ≡ true)) xs 0 (length xs)) (λ i. (i < length xs) × HoldsAt (λ x. same x y ≡ true) xs i × AllWithin (λ x. ¬ (same x y ≡ true)) xs 0 i) → MatchOption r (AllWithin (λ x. P x → ⊥) xs 0 (length xs)) (λ i. (i < length xs) × HoldsAt P xs i × AllWithin (λ x. P x → ⊥) xs 0 i)
  told xs None h = λ k d low high q. h k d low high ((decides _).1 q)
  told xs (Some i) h = (h.0, (λ d. (decides _).0 (h.1 d)), λ k d low high q. h.2 k d low high ((decides _).1 q))

-- the first place is one in the list, and what stands there passes
pub place_passes : {X : Type 0} (p : X → Bool) (d : X) (xs : List X) → IfSome (first_where p xs) (λ i. (i < length xs) × (p (get_or xs i d) ≡ true))
place_passes p d [] = tt
place_passes p d (x ∷ xs) = go (p x) refl (first_where p xs) (place_passes p d xs)
  where
    go : (b : Bool) → p x ≡ b → (r : Option ℕ) → IfSome r (λ i. (i < length xs) × (p (get_or xs i d) ≡ true)) → IfSome (cond b (Some 0) (option_map suc r)) (λ i. (i < suc (length xs)) × (p (get_or (x ∷ xs) i d) ≡ true))
    go true e r h = (omega arith, e)
    go false e None h = tt
    go false e (Some i) h = (omega (arith, h.0), h.1)

one_at_most : (r : Option ℕ) → length (optional r) ≤ 1
one_at_most None = omega arith
one_at_most (Some i) = omega arith

module _ {X Y : Type 0} (same : X → Y → Bool) (xs : List X) where
  abbrev first : Y → Option ℕ
  first y = first_where (λ x. same x y) xs

  pub places_few : (ys : List Y) → length (first_places same xs ys) ≤ length ys
  places_few [] = omega arith
  places_few (y ∷ ys) =
      omega (arith, length-append (optional (first y)) (first_places same xs ys), one_at_most (first y), places_few ys)

  places_more : (ys : List Y) (i : ℕ) (d : Y) → i < length ys → first_places same xs (take (i + 1) ys) ≡ first_places same xs (take i ys) ++ optional (first (get_or ys i d))
  places_more ys i d h =
      ap (first_places same xs) (take_more ys i d h) ∙ sym (flat_map_more (λ y. optional (first y)) [] (take i ys) (get_or ys i d))

  -- one entry more, listed or not
  module _ (ys : List Y) (i : ℕ) (d : Y) (h : i < length ys) {out : List ℕ} (so_far : out ≡ first_places same xs (take i ys)) where
    pub places_listed : (p : ℕ) {grown : List ℕ} → first (get_or ys i d) ≡ Some p → grown ≡ out ++ p ∷ [] → grown ≡ first_places same xs (take (i + 1) ys)
    places_listed p found pushed = pushed ∙ ap (λ l. l ++ p ∷ []) so_far ∙ sym (places_more ys i d h ∙ ap (λ r. first_places same xs (take i ys) ++ optional r) found)

    pub places_missing : first (get_or ys i d) ≡ None → out ≡ first_places same xs (take (i + 1) ys)
    places_missing missing = so_far ∙ sym (places_more ys i d h ∙ ap (λ r. first_places same xs (take i ys) ++ optional r) missing ∙ append-nil _)

  -- as many places as entries exactly when all are listed
  pub all_listed_is : (ys : List Y) → eqb (length (first_places same xs ys)) (length ys) ≡ list_all (λ y. is_some (first y)) ys
  all_listed_is [] = refl
  all_listed_is (y ∷ ys) =
      elim (first y) as (λ r. eqb (length (optional r ++ first_places same xs ys)) (suc (length ys)) ≡ (is_some r && list_all (λ z. is_some (first z)) ys)) [
        | None ↦ ne_eqb _ _ (λ e. omega (arith, places_few ys))
        | Some p ↦ same_suc (length (first_places same xs ys)) (length ys) ∙ all_listed_is ys
      ]
    where
      same_suc : (m n : ℕ) → eqb (suc m) (suc n) ≡ eqb m n
      same_suc m n = grind (arith, nat_tests)

pub first_where_map : {X Y : Type 0} (p : Y → Bool) (f : X → Y) (xs : List X) → first_where p (map f xs) ≡ first_where (λ x. p (f x)) xs
first_where_map p f [] = refl
first_where_map p f (x ∷ xs) = ap (λ r. cond (p (f x)) (Some 0) (option_map suc r)) (first_where_map p f xs)
