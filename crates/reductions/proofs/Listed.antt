-- Columns that are listed.
use Rattle.std.proofs.Common.{◌≡◌, ℕ, zero, suc, ◌+◌, ◌<◌, ◌≤◌, Bool, true, false, cond, ◌||◌, eqb, List, [], ◌∷◌, ◌++◌, is_some, Some, None, filter, Option, sym, refl, ap, ◌∙◌, subst, ⊎_elim, arith}
use Rattle.std.specs.List.{range_with_len, flat_map, AllByRecursion, list_all}
use Rattle.std.specs.Option.{option_map}
use Rattle.std.proofs.lemmas.List.{map-id}
use Rattle.std.proofs.lemmas.List.FromFn.{map-range_with_len_more}
use Rattle.std.proofs.ByRecursion.{All-append, all_kept_by, kept_by_passes}
use Rattle.std.proofs.lemmas.Bool.{false≢true, or_cases, or_left, or_right, and_parts, cases_eq, eq-eqb, eqb-true}
use Rattle.columns.specs.Columns.{is_listed, first_place}

pub listed_cons : (x : ℕ) (xs : List ℕ) (c : ℕ) → is_listed (x ∷ xs) c ≡ (eqb x c || is_listed xs c)
listed_cons x xs c = go (eqb x c) (first_place xs c)
  where
    go : (b : Bool) (r : Option ℕ) → is_some (cond b (Some 0) (option_map suc r)) ≡ (b || is_some r)
    go true r = refl
    go false None = refl
    go false (Some p) = refl

pub all_at : (P : ℕ → Type 0) (xs : List ℕ) (c : ℕ) → AllByRecursion P xs → is_listed xs c ≡ true → P c
all_at P [] c all e = absurd (false≢true e)
all_at P (x ∷ xs) c all e =
    ⊎_elim (λ h. subst P (eqb-true x c h) all.0) (λ h. all_at P xs c all.1 h) (or_cases (eqb x c) (is_listed xs c) (sym (listed_cons x xs c) ∙ e))

pub all_by : (P : ℕ → Type 0) (xs : List ℕ) → ((c : ℕ) → is_listed xs c ≡ true → P c) → AllByRecursion P xs
all_by P [] h = tt
all_by P (x ∷ xs) h =
    (h x (listed_cons x xs x ∙ or_left (eqb x x) (is_listed xs x) (eq-eqb x x refl)), all_by P xs (λ c e. h c (listed_cons x xs c ∙ or_right (eqb x c) (is_listed xs c) e)))

-- each column of the first list is in the second
abbrev pub Among : List ℕ → List ℕ → Type 0
Among xs ys = AllByRecursion (λ c. is_listed ys c ≡ true) xs

pub among_itself : (xs : List ℕ) → Among xs xs
among_itself xs = all_by (λ c. is_listed xs c ≡ true) xs (λ c h. h)

pub among_trans : (xs ys zs : List ℕ) → Among xs ys → Among ys zs → Among xs zs
among_trans xs ys zs p q = all_by (λ c. is_listed zs c ≡ true) xs (λ c h. all_at (λ z. is_listed zs z ≡ true) ys c q (all_at (λ y. is_listed ys y ≡ true) xs c p h))

module _ (p : ℕ → Bool) where
  pub kept_in : (xs : List ℕ) (c : ℕ) → is_listed xs c ≡ true → p c ≡ true → is_listed (filter p xs) c ≡ true
  kept_in [] c h e = h
  kept_in (x ∷ xs) c h e = go (p x) refl (λ t. kept_in xs c t e)
    where
      go : (b : Bool) → p x ≡ b → (is_listed xs c ≡ true → is_listed (filter p xs) c ≡ true) → is_listed (cond b (x ∷ filter p xs) (filter p xs)) c ≡ true
      go true t rest =
          listed_cons x (filter p xs) c ∙ ⊎_elim (or_left (eqb x c) _) (λ r. or_right (eqb x c) _ (rest r)) (or_cases (eqb x c) (is_listed xs c) (sym (listed_cons x xs c) ∙ h))
      go false f rest =
          ⊎_elim (λ s. absurd (false≢true (sym f ∙ ap p (eqb-true x c s) ∙ e))) rest (or_cases (eqb x c) (is_listed xs c) (sym (listed_cons x xs c) ∙ h))

  pub kept_among : (xs : List ℕ) → Among (filter p xs) xs
  kept_among xs = all_kept_by p (λ c. is_listed xs c ≡ true) xs (among_itself xs)

  pub kept_passes : (xs : List ℕ) (c : ℕ) → is_listed (filter p xs) c ≡ true → p c ≡ true
  kept_passes xs c h = all_at (λ x. p x ≡ true) (filter p xs) c (kept_by_passes p xs) h

pub all_from_pass : {X : Type 0} (p : X → Bool) (xs : List X) → list_all p xs ≡ true → AllByRecursion (λ x. p x ≡ true) xs
all_from_pass p [] e = tt
all_from_pass p (x ∷ xs) e = let parts = and_parts (p x) (list_all p xs) e in (parts.0, all_from_pass p xs parts.1)

pub all_split : {X : Type 0} (P : X → Type 0) (xs ys : List X) → AllByRecursion P (xs ++ ys) → AllByRecursion P xs × AllByRecursion P ys
all_split P [] ys all = (tt, all)
all_split P (x ∷ xs) ys all = let parts = all_split P xs ys all.1 in ((all.0, parts.0), parts.1)

-- what holds of all lists put together holds of each
pub all_joined : (P : ℕ → Type 0) (f : ℕ → List ℕ) (xs : List ℕ) (c : ℕ) → AllByRecursion P (flat_map f xs) → is_listed xs c ≡ true → AllByRecursion P (f c)
all_joined P f [] c all e = absurd (false≢true e)
all_joined P f (x ∷ xs) c all e =
    let parts = all_split P (f x) (flat_map f xs) all in
    ⊎_elim (λ h. subst (λ (y : ℕ). AllByRecursion P (f y)) (eqb-true x c h) parts.0) (λ h. all_joined P f xs c parts.1 h) (or_cases (eqb x c) (is_listed xs c) (sym (listed_cons x xs c) ∙ e))

pub joined_all : (P : ℕ → Type 0) (f : ℕ → List ℕ) (xs : List ℕ) → ((x : ℕ) → AllByRecursion P (f x)) → AllByRecursion P (flat_map f xs)
joined_all P f [] h = tt
joined_all P f (x ∷ xs) h = All-append P (f x) (flat_map f xs) (h x) (joined_all P f xs h)

pub counting_lists : (a n c : ℕ) → a ≤ c → c < a + n → is_listed (range_with_len a n) c ≡ true
counting_lists a zero c low high = absurd (omega arith)
counting_lists a (suc n) c low high =
    listed_cons a (range_with_len (a + 1) n) c ∙ ⊎_elim (λ e. or_left (eqb a c) _ (eq-eqb a c e)) (λ ne. or_right (eqb a c) _ (counting_lists (a + 1) n c (omega arith) (omega arith))) (cases_eq a c)

pub counting_more : (n : ℕ) → range_with_len 0 (n + 1) ≡ range_with_len 0 n ++ n ∷ []
counting_more n = sym (map-id (range_with_len 0 (n + 1))) ∙ map-range_with_len_more (λ x. x) 0 n n (omega arith) ∙ ap (λ l. l ++ n ∷ []) (map-id (range_with_len 0 n))
