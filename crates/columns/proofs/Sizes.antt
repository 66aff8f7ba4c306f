-- When a list, seen through a view of its entries, has room.
use Rattle.std.proofs.Common.{◌≡◌, ℕ, ◌+◌, ◌<◌, ◌≤◌, List, map, length, Some, None, Ok, Err, Result, arith}
use Rattle.std.proofs.lemmas.List.{length-map}
use Rattle.std.proofs.lemmas.Bool.{cond-true, cond-false, lt-ltb, le-ltb, not_from_true, not_from_false}
use Rattle.names.specs.declared.error.Refusal.{Refusal}
use Rattle.names.specs.declared.error.Refusal.TheVariants.{Oversize}
use Rattle.names.specs.Refusals.{AnswersOr}
use Rattle.columns.specs.Columns.{full_at, oversize_together}

module _ {X Y : Type 0} (v : X → Y) (n : ℕ) where
  pub has_room : (xs : List X) → length xs < n → full_at n (map v xs) ≡ None
  has_room xs h = cond-false _ _ _ (not_from_true _ (lt-ltb _ n (omega (arith, length-map xs v))))

  pub is_full : (xs : List X) → length xs ≡ n → full_at n (map v xs) ≡ Some Oversize
  is_full xs h = cond-true _ _ _ (not_from_false _ (le-ltb _ n (omega (arith, length-map xs v))))

  pub fit_together : (xs ys : List X) → length xs + length ys ≤ n → oversize_together n (map v xs) (map v ys) ≡ None
  fit_together xs ys h = cond-false _ _ _ (le-ltb n _ (omega (arith, length-map xs v, length-map ys v)))

  pub pass_together : (xs ys : List X) → n < length xs + length ys → oversize_together n (map v xs) (map v ys) ≡ Some Oversize
  pass_together xs ys h = cond-true _ _ _ (lt-ltb n _ (omega (arith, length-map xs v, length-map ys v)))

-- where there is room, what a push promises is there
pub room_pushes : {A X : Type 0} (r : Result A Refusal) (n : ℕ) (xs : List X) (P U : Type 0) → AnswersOr r (full_at n xs) (λ _. P) U → length xs < n → P
room_pushes (Ok a) n xs P U h room = h.1
room_pushes (Err e) n xs P U h room =
    let none : full_at n xs ≡ None = cond-false _ _ _ (not_from_true _ (lt-ltb _ n room)) in
    absurd (let z : ◌≡◌ {A = ℕ} 0 1 = cc h.0 in omega arith)

-- where both fit together, what an extension promises is there
pub room_extends : {A X : Type 0} (r : Result A Refusal) (n : ℕ) (xs ys : List X) (P U : Type 0) → AnswersOr r (oversize_together n xs ys) (λ _. P) U → length xs + length ys ≤ n → P
room_extends (Ok a) n xs ys P U h room = h.1
room_extends (Err e) n xs ys P U h room =
    let none : oversize_together n xs ys ≡ None = cond-false _ _ _ (le-ltb n _ room) in
    absurd (let z : ◌≡◌ {A = ℕ} 0 1 = cc h.0 in omega arith)
