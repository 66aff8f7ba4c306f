-- Bounded lists as the lists that they stand for.
use Rattle.std.proofs.Common.{◌≡◌, ℕ, zero, suc, ◌≤◌, List, [], ◌∷◌, ◌++◌, length, take, set, sym, refl, ap, ◌∙◌, append_assoc, arith}
use Rattle.std.proofs.lemmas.List.{length-take-le}
use Rattle.bounded.specs.View.{list_of}
use Rattle.bounded.specs.declared.list.Bounded.{Bounded}

pub length_list_of : {X : Type 0} {n : ℕ} (b : Bounded X n) → length (list_of b) ≡ b.len
length_list_of b = length-take-le b.len b.items (omega (arith, b.few.0, b.few.1))

pub few_list_of : {X : Type 0} {n : ℕ} (b : Bounded X n) → length (list_of b) ≤ n
few_list_of b = omega (arith, length_list_of b, b.few.1)

pub take_set_in : {X : Type 0} (n : ℕ) (xs : List X) (i : ℕ) (y : X) → take n (set xs i y) ≡ set (take n xs) i y
take_set_in zero xs i y = refl
take_set_in (suc n) [] i y = refl
take_set_in (suc n) (x ∷ xs) zero y = refl
take_set_in (suc n) (x ∷ xs) (suc i) y = ap (λ r. x ∷ r) (take_set_in n xs i y)

-- one more element at the end of what was there and what has come so far
pub grow : {X : Type 0} (old bs : List X) (x : X) {cs ys zs : List X} → ys ≡ old ++ bs → zs ≡ ys ++ x ∷ [] → cs ≡ bs ++ x ∷ [] → zs ≡ old ++ cs
grow old bs x so_far pushed more =
    pushed ∙ ap (λ l. l ++ x ∷ []) so_far ∙ append_assoc old bs (x ∷ []) ∙ ap (λ l. old ++ l) (sym more)
