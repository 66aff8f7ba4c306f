-- A loop that pushes the elements that pass p after what was there.
use Rattle.std.proofs.Common.{◌≡◌, ℕ, ◌+◌, ◌<◌, ◌≤◌, Bool, true, false, cond, List, [], ◌∷◌, ◌++◌, length, get_or, take, drop, filter, sym, ap, ◌∙◌, append_assoc, arith}
use Rattle.std.proofs.lemmas.List.{append-nil, length-append, length_push, take_all, take-append-drop}
use Rattle.std.proofs.lemmas.List.Elements.{filter-append, filter_more}

module _ {X : Type 0} (p : X → Bool) (base xs : List X) (i : ℕ) (x : X) (inside : i < length xs) (here : x ≡ get_or xs i x) where
  more : (b : Bool) → p x ≡ b → filter p (take (i + 1) xs) ≡ filter p (take i xs) ++ cond b (x ∷ []) []
  more b test =
      filter_more p xs i x inside ∙ ap (λ y. filter p (take i xs) ++ cond (p y) (y ∷ []) []) (sym here) ∙ ap (λ c. filter p (take i xs) ++ cond c (x ∷ []) []) test

  pub kept_pushed : {out grown : List X} → out ≡ base ++ filter p (take i xs) → p x ≡ true → grown ≡ out ++ x ∷ [] → grown ≡ base ++ filter p (take (i + 1) xs)
  kept_pushed so_far test pushed =
      pushed ∙ ap (λ l. l ++ x ∷ []) so_far ∙ append_assoc base (filter p (take i xs)) (x ∷ []) ∙ ap (λ l. base ++ l) (sym (more true test))

  pub kept_skipped : {out : List X} → out ≡ base ++ filter p (take i xs) → p x ≡ false → out ≡ base ++ filter p (take (i + 1) xs)
  kept_skipped so_far test = so_far ∙ ap (λ l. base ++ l) (sym (more false test ∙ append-nil _))

  -- one more than what is there already
  pub kept_over : {out : List X} → out ≡ base ++ filter p (take i xs) → p x ≡ true → length out < length (base ++ filter p xs)
  kept_over {out} so_far test =
      let front = filter p (take i xs) in
      let whole : filter p xs ≡ filter p (take (i + 1) xs) ++ filter p (drop (i + 1) xs) = ap (filter p) (sym (take-append-drop (i + 1) xs)) ∙ filter-append p (take (i + 1) xs) (drop (i + 1) xs) in
      omega (arith, ap length so_far, length-append base front, length-append base (filter p xs), ap length whole, length-append (filter p (take (i + 1) xs)) (filter p (drop (i + 1) xs)), ap length (more true test), length_push front x)

pub kept_all : {X : Type 0} (p : X → Bool) (base xs : List X) (i : ℕ) {out : List X} → out ≡ base ++ filter p (take i xs) → length xs ≤ i → out ≡ base ++ filter p xs
kept_all p base xs i so_far h = so_far ∙ ap (λ l. base ++ filter p l) (take_all i xs h)
