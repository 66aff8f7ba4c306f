-- A loop that changes each element of a list in place, seen through a view v of its elements:
-- after i turns the view of ys is that of xs with g applied to its first i elements.
use Rattle.std.proofs.Common.{◌≡◌, ℕ, ◌+◌, ◌<◌, ◌≤◌, List, ◌++◌, map, length, get_or, take, drop, set, sym, refl, ap, ◌∙◌, arith}
use Rattle.std.proofs.lemmas.List.{get_or-map, length-set, length-map, length-take-le, map-set, take_all, drop_all, append-nil, drop_more, get_or_at}
use Rattle.std.proofs.lemmas.List.Edits.{map_over_more}

pub record Over {X Y : Type 0} (v : X → Y) (g : Y → Y) (xs ys : List X) (i : ℕ) : Type 0 where
  pub seen : map v ys ≡ map g (take i (map v xs)) ++ drop i (map v xs)
  pub long : length ys ≡ length xs

module _ {X Y : Type 0} {v : X → Y} {g : Y → Y} where
  pub over_none : (xs : List X) → Over v g xs xs 0
  over_none xs = record { seen = refl; long = refl }

  -- the element at i is still that of xs
  over_here : {xs ys : List X} {i : ℕ} (d : X) → Over v g xs ys i → i < length xs → v (get_or ys i d) ≡ v (get_or xs i d)
  over_here {xs} {ys} {i} d o h =
      let in_ys : i < length ys = omega (arith, o.long) in
      let in_map : i < length (map v xs) = omega (arith, length-map xs v) in
      let front : length (map g (take i (map v xs))) ≡ i = length-map (take i (map v xs)) g ∙ length-take-le i (map v xs) (omega arith) in
      sym (get_or-map v ys i d (v d) in_ys) ∙ ap (λ l. get_or l i (v d)) (o.seen ∙ ap (λ l. map g (take i (map v xs)) ++ l) (drop_more (map v xs) i (v d) in_map))
      ∙ get_or_at (map g (take i (map v xs))) (get_or (map v xs) i (v d)) (drop (i + 1) (map v xs)) (v d) i front ∙ get_or-map v xs i d (v d) h

  -- the element x of xs at i becomes y
  pub over_more : {xs ys zs : List X} {i : ℕ} (x y : X) → Over v g xs ys i → i < length xs → x ≡ get_or xs i x → v y ≡ g (v x) → zs ≡ set ys i y → Over v g xs zs (i + 1)
  over_more {xs} {ys} {zs} {i} x y o h here same stored =
      let in_map : i < length (map v xs) = omega (arith, length-map xs v) in
      let in_ys : i < length ys = omega (arith, o.long) in
      let at : v x ≡ get_or (map v ys) i (v x) = ap v here ∙ sym (over_here x o h) ∙ sym (get_or-map v ys i x (v x) in_ys) in
      record {
        seen = ap (map v) stored ∙ map-set v ys i y ∙ ap (set (map v ys) i) same ∙ map_over_more g (map v xs) (map v ys) i (v x) in_map o.seen at;
        long = ap length stored ∙ length-set ys i y ∙ o.long;
      }

  pub over_all : {xs ys : List X} {i : ℕ} → Over v g xs ys i → length xs ≤ i → map v ys ≡ map g (map v xs)
  over_all {xs} {ys} {i} o h =
      let n_map : length (map v xs) ≤ i = omega (arith, length-map xs v) in
      o.seen ∙ ap (λ l. map g (take i (map v xs)) ++ l) (drop_all i (map v xs) n_map) ∙ append-nil _ ∙ ap (map g) (take_all i (map v xs) n_map)
