-- A loop that keeps the elements that pass p and changes each by g, and stores them from the front on, seen through a view v:
-- of the first i of xs, what is kept stands in the first k places of ys.
use Rattle.std.proofs.Common.{◌≡◌, ℕ, ◌+◌, ◌<◌, ◌≤◌, Bool, true, false, cond, List, [], ◌∷◌, ◌++◌, map, length, get_or, take, set, filter, sym, refl, ap, ◌∙◌, arith}
use Rattle.std.proofs.lemmas.List.{get_or-map, length-set, length-map, map-append, take_all, take_more_set, append-nil}
use Rattle.std.proofs.lemmas.List.Elements.{filter_more}

pub record Sift {X Y : Type 0} (v : X → Y) (p : Y → Bool) (g : Y → Y) (xs ys : List X) (k i : ℕ) : Type 0 where
  pub front : map v (take k ys) ≡ map g (filter p (take i (map v xs)))
  pub behind : k ≤ i
  pub long : length ys ≡ length xs

more : {X Y : Type 0} (v : X → Y) (p : Y → Bool) (xs : List X) (i : ℕ) (x : X) → i < length xs → x ≡ get_or xs i x → (b : Bool) → p (v x) ≡ b → filter p (take (i + 1) (map v xs)) ≡ filter p (take i (map v xs)) ++ cond b (v x ∷ []) []
more v p xs i x h here b test =
    let in_map : i < length (map v xs) = omega (arith, length-map xs v) in
    let front = filter p (take i (map v xs)) in
    filter_more p (map v xs) i (v x) in_map
    ∙ ap (λ y. front ++ cond (p y) (y ∷ []) []) (get_or-map v xs i x (v x) h ∙ ap v (sym here))
    ∙ ap (λ c. front ++ cond c (v x ∷ []) []) test

module _ {X Y : Type 0} {v : X → Y} {p : Y → Bool} {g : Y → Y} where
  pub sift_none : (xs : List X) → Sift v p g xs xs 0 0
  sift_none xs = record { front = refl; behind = omega arith; long = refl }

  pub sift_skip : {xs ys : List X} {k i : ℕ} (x : X) → Sift v p g xs ys k i → i < length xs → x ≡ get_or xs i x → p (v x) ≡ false → Sift v p g xs ys k (i + 1)
  sift_skip {xs} {ys} {k} {i} x s h here off =
      record { front = s.front ∙ ap (map g) (sym (more v p xs i x h here false off ∙ append-nil _)); behind = omega (arith, s.behind); long = s.long }

  pub sift_keep : {xs ys zs : List X} {k i : ℕ} (x y : X) → Sift v p g xs ys k i → i < length xs → x ≡ get_or xs i x → p (v x) ≡ true → v y ≡ g (v x) → zs ≡ set ys k y → Sift v p g xs zs (k + 1) (i + 1)
  sift_keep {xs} {ys} {zs} {k} {i} x y s h here on is stored =
      let room : k < length ys = omega (arith, s.behind, s.long) in
      let front = filter p (take i (map v xs)) in
      record {
        front = ap (λ l. map v (take (k + 1) l)) stored ∙ ap (map v) (take_more_set ys k y room) ∙ map-append v (take k ys) (y ∷ []) ∙ ap (λ l. l ++ v y ∷ []) s.front ∙ ap (λ z. map g front ++ z ∷ []) is
            ∙ sym (ap (map g) (more v p xs i x h here true on) ∙ map-append g front (v x ∷ []));
        behind = omega (arith, s.behind);
        long = ap length stored ∙ length-set ys k y ∙ s.long;
      }

  pub sift_all : {xs ys : List X} {k i : ℕ} → Sift v p g xs ys k i → length xs ≤ i → map v (take k ys) ≡ map g (filter p (map v xs))
  sift_all {xs} {ys} {k} {i} s h =
      s.front ∙ ap (λ l. map g (filter p l)) (take_all i (map v xs) (omega (arith, length-map xs v)))
