-- A loop that tests each element by p, stops at the first that fails, and changes the others by g, seen through a view v.
use Rattle.std.proofs.Common.{◌≡◌, ℕ, ◌+◌, ◌<◌, ◌≤◌, Bool, true, List, map, length, get_or, take, set, sym, refl, ap, ◌∙◌, arith}
use Rattle.std.specs.List.{list_all}
use Rattle.std.proofs.lemmas.List.{length-map, take_all}
use Rattle.bounded.proofs.Viewed.{passed_more}
use Rattle.bounded.proofs.Over.{Over, over_none, over_more, over_all}

pub record Tried {X Y : Type 0} (v : X → Y) (p : Y → Bool) (g : Y → Y) (xs ys : List X) (i : ℕ) : Type 0 where
  pub over : Over v g xs ys i
  pub passed : list_all p (take i (map v xs)) ≡ true

module _ {X Y : Type 0} {v : X → Y} {p : Y → Bool} {g : Y → Y} where
  pub tried_none : (xs : List X) → Tried v p g xs xs 0
  tried_none xs = record { over = over_none xs; passed = refl }

  pub tried_more : {xs ys zs : List X} {i : ℕ} (x y : X) → Tried v p g xs ys i → i < length xs → x ≡ get_or xs i x → p (v x) ≡ true → v y ≡ g (v x) → zs ≡ set ys i y → Tried v p g xs zs (i + 1)
  tried_more {xs} {ys} {zs} {i} x y t h here good is stored = record {
    over = over_more x y t.over h here is stored;
    passed = passed_more v p xs i x t.passed h here good;
  }

  pub tried_passes : {xs ys : List X} {i : ℕ} → Tried v p g xs ys i → length xs ≤ i → list_all p (map v xs) ≡ true
  tried_passes {xs} {ys} {i} t h =
      ap (list_all p) (sym (take_all i (map v xs) (omega (arith, length-map xs v)))) ∙ t.passed

  pub tried_all : {xs ys : List X} {i : ℕ} → Tried v p g xs ys i → length xs ≤ i → map v ys ≡ map g (map v xs)
  tried_all t h = over_all t.over h
