-- What calls of a closure leave of a list: a loop's step, and what follows where the calls compute a function of views.
use Rattle.std.proofs.Common.{◌≡◌, ℕ, suc, ◌+◌, ◌<◌, ◌≤◌, Bool, true, false, cond, List, [], ◌∷◌, ◌++◌, map, length, get_or, take, filter, sym, refl, ap, ◌∙◌, subst, arith}
use Rattle.std.specs.List.{AllZip, items_where_true, list_all}
use Rattle.std.proofs.lemmas.Bool.{and_from}
use Rattle.std.proofs.lemmas.List.{take_more, take_all, append-nil, length-take-le}
use Rattle.bounded.specs.Calls.{IsKeptBy, Computes}

-- the first i and x are the first i + 1
pub take_next : {X : Type 0} (xs : List X) (i : ℕ) (x : X) → i < length xs → x ≡ get_or xs i x → take (i + 1) xs ≡ take i xs ++ x ∷ []
take_next xs i x h here = take_more xs i x h ∙ ap (λ y. take i xs ++ y ∷ []) (sym here)

module _ {X Y : Type 0} (R : X → Y → Type 0) where
  zip_append : (xs : List X) (ys : List Y) (x : X) (y : Y) → AllZip R xs ys → R x y → AllZip R (xs ++ x ∷ []) (ys ++ y ∷ [])
  zip_append [] [] x y all one = (one, tt)
  zip_append [] (b ∷ ys) x y all one = absurd all
  zip_append (a ∷ xs) [] x y all one = absurd all
  zip_append (a ∷ xs) (b ∷ ys) x y all one = (all.0, zip_append xs ys x y all.1 one)

  pub zip_more : (xs : List X) (i : ℕ) (x : X) (ys : List Y) (y : Y) {zs : List Y} → i < length xs → x ≡ get_or xs i x → AllZip R (take i xs) ys → R x y → zs ≡ ys ++ y ∷ [] → AllZip R (take (i + 1) xs) zs
  zip_more xs i x ys y {zs} h here all one pushed =
      subst (λ l. AllZip R l zs) (sym (take_next xs i x h here)) (subst (λ l. AllZip R (take i xs ++ x ∷ []) l) (sym pushed) (zip_append (take i xs) ys x y all one))

  pub zip_long : (xs : List X) (ys : List Y) → AllZip R xs ys → length ys ≡ length xs
  zip_long [] [] all = refl
  zip_long [] (y ∷ ys) all = absurd all
  zip_long (x ∷ xs) [] all = absurd all
  zip_long (x ∷ xs) (y ∷ ys) all = ap suc (zip_long xs ys all.1)

  -- the first i of xs were mapped to ys
  pub zip_room : (xs : List X) (i : ℕ) (ys : List Y) → i ≤ length xs → AllZip R (take i xs) ys → length ys ≡ i
  zip_room xs i ys h all = zip_long (take i xs) ys all ∙ length-take-le i xs h

  -- what R tells of the views, the lists tell of theirs
  pub zip_views : {V W : Type 0} (v : X → V) (w : Y → W) (g : V → W) → ((x : X) (y : Y) → R x y → w y ≡ g (v x)) → (xs : List X) (ys : List Y) → AllZip R xs ys → map w ys ≡ map g (map v xs)
  zip_views v w g says [] [] all = refl
  zip_views v w g says [] (y ∷ ys) all = absurd all
  zip_views v w g says (x ∷ xs) [] all = absurd all
  zip_views v w g says (x ∷ xs) (y ∷ ys) all = λ i. says x y all.0 i ∷ zip_views v w g says xs ys all.1 i

  pub zip_map : (g : X → Y) → ((x : X) (y : Y) → R x y → y ≡ g x) → (xs : List X) (ys : List Y) → AllZip R xs ys → ys ≡ map g xs
  zip_map g says [] [] all = refl
  zip_map g says [] (y ∷ ys) all = absurd all
  zip_map g says (x ∷ xs) [] all = absurd all
  zip_map g says (x ∷ xs) (y ∷ ys) all = λ i. says x y all.0 i ∷ zip_map g says xs ys all.1 i

  -- where R lets none fail the test, all pass
  pub zip_passes : (p : X → Bool) → ((x : X) (y : Y) → R x y → p x ≡ true) → (xs : List X) (ys : List Y) → AllZip R xs ys → list_all p xs ≡ true
  zip_passes p says [] [] all = refl
  zip_passes p says [] (y ∷ ys) all = absurd all
  zip_passes p says (x ∷ xs) [] all = absurd all
  zip_passes p says (x ∷ xs) (y ∷ ys) all = and_from _ _ (says x y all.0) (zip_passes p says xs ys all.1)

module _ {X : Type 0} (R : X → Bool → Type 0) where
  true_append : (bs : List Bool) (xs : List X) (b : Bool) (x : X) → AllZip R xs bs → items_where_true (bs ++ b ∷ []) (xs ++ x ∷ []) ≡ items_where_true bs xs ++ cond b (x ∷ []) []
  true_append [] [] true x all = refl
  true_append [] [] false x all = refl
  true_append [] (a ∷ xs) b x all = absurd all
  true_append (c ∷ bs) [] b x all = absurd all
  true_append (true ∷ bs) (a ∷ xs) b x all = ap (λ l. a ∷ l) (true_append bs xs b x all.1)
  true_append (false ∷ bs) (a ∷ xs) b x all = true_append bs xs b x all.1

  pub kept_next : (xs : List X) (i : ℕ) (x : X) (b : Bool) {ys zs : List X} → i < length xs → x ≡ get_or xs i x → IsKeptBy R (take i xs) ys → R x b → zs ≡ ys ++ cond b (x ∷ []) [] → IsKeptBy R (take (i + 1) xs) zs
  kept_next xs i x b {ys} {zs} h here kept one grown = (
    kept.0 ++ b ∷ [],
    zip_more R xs i x kept.0 b h here kept.1 one refl,
    grown ∙ ap (λ l. l ++ cond b (x ∷ []) []) kept.2 ∙ sym (true_append kept.0 (take i xs) b x kept.1) ∙ ap (items_where_true (kept.0 ++ b ∷ [])) (sym (take_next xs i x h here)),
  )

  pub kept_with : (xs : List X) (i : ℕ) (x : X) {ys zs : List X} → i < length xs → x ≡ get_or xs i x → IsKeptBy R (take i xs) ys → R x true → zs ≡ ys ++ x ∷ [] → IsKeptBy R (take (i + 1) xs) zs
  kept_with xs i x h here kept one pushed = kept_next xs i x true h here kept one pushed

  pub kept_without : (xs : List X) (i : ℕ) (x : X) {ys zs : List X} → i < length xs → x ≡ get_or xs i x → IsKeptBy R (take i xs) ys → R x false → zs ≡ ys → IsKeptBy R (take (i + 1) xs) zs
  kept_without xs i x {ys} h here kept one same = kept_next xs i x false h here kept one (same ∙ sym (append-nil ys))

  true_short : (bs : List Bool) (xs : List X) → length (items_where_true bs xs) ≤ length xs
  true_short [] xs = omega arith
  true_short (b ∷ bs) [] = omega arith
  true_short (true ∷ bs) (x ∷ xs) = omega (arith, true_short bs xs)
  true_short (false ∷ bs) (x ∷ xs) = omega (arith, true_short bs xs)

  pub kept_short : (xs ys : List X) → IsKeptBy R xs ys → length ys ≤ length xs
  kept_short xs ys kept = omega (arith, ap length kept.2, true_short kept.0 xs)

  -- where R computes a test, what is kept are those that pass
  pub kept_filter : (p : X → Bool) → Computes R p → (xs ys : List X) → IsKeptBy R xs ys → ys ≡ filter p xs
  kept_filter p says xs ys kept = kept.2 ∙ where_true kept.0 xs kept.1 where
    where_true : (bs : List Bool) (xs : List X) → AllZip R xs bs → items_where_true bs xs ≡ filter p xs
    where_true [] [] all = refl
    where_true [] (x ∷ xs) all = absurd all
    where_true (b ∷ bs) [] all = absurd all
    where_true (true ∷ bs) (x ∷ xs) all = ap (λ l. x ∷ l) (where_true bs xs all.1) ∙ ap (λ b. cond b (x ∷ filter p xs) (filter p xs)) (says x true all.0)
    where_true (false ∷ bs) (x ∷ xs) all = where_true bs xs all.1 ∙ ap (λ b. cond b (x ∷ filter p xs) (filter p xs)) (says x false all.0)

  -- all of xs were tested
  pub kept_whole : (xs zs ys : List X) (i : ℕ) → length xs ≤ i → xs ≡ zs → IsKeptBy R (take i xs) ys → IsKeptBy R zs ys
  kept_whole xs zs ys i h same kept = subst (λ l. IsKeptBy R l ys) (take_all i xs h ∙ same) kept
