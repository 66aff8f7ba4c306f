-- The columns of the entries that are kept so far.
use Rattle.std.proofs.Common.{◌≡◌, ℕ, zero, suc, ◌+◌, ◌<◌, Bool, true, false, cond, List, [], ◌∷◌, ◌++◌, filter, refl, ap, ◌∙◌, arith}
use Rattle.std.specs.List.{range_with_len}
use Rattle.std.specs.Option.{option_to_list as optional}
use Rattle.std.proofs.lemmas.List.Elements.{filter-append}
use Rattle.std.proofs.lemmas.Grind.{flat_map-append}
use Rattle.std.proofs.lemmas.List.{append-nil, map-append}
use Rattle.reductions.specs.GroupByLaws.{names_at}
use Rattle.reductions.specs.Meant.{column_named, meant, text_at}
use Rattle.reductions.proofs.Listed.{counting_more}
use Rattle.reductions.specs.Sorts.{mark_at, kept_positions, kept_before}

positions_more : (marks : List Bool) (n : ℕ) → kept_positions marks (n + 1) ≡ kept_positions marks n ++ cond (mark_at marks n) (n ∷ []) []
positions_more marks n = ap (filter (mark_at marks)) (counting_more n) ∙ filter-append (mark_at marks) (range_with_len 0 n) (n ∷ [])

module _ (texts names : List (List ℕ)) where
  one_more : (n : ℕ) (b : Bool) → meant texts (names_at names (cond b (n ∷ []) [])) ≡ cond b (optional (column_named texts (text_at names n))) []
  one_more n true = append-nil (optional (column_named texts (text_at names n)))
  one_more n false = refl

  -- one entry more: the column that its name means, if it is kept and means one
  pub kept_before_more : (marks : List Bool) (n : ℕ) → kept_before texts names marks (n + 1) ≡ kept_before texts names marks n ++ cond (mark_at marks n) (optional (column_named texts (text_at names n))) []
  kept_before_more marks n =
      let front = kept_positions marks n in
      let last : List ℕ = cond (mark_at marks n) (n ∷ []) [] in
      ap (λ ps. meant texts (names_at names ps)) (positions_more marks n) ∙ ap (meant texts) (map-append (text_at names) front last) ∙ flat_map-append (λ n. optional (column_named texts n)) (names_at names front) (names_at names last)
      ∙ ap (λ l. kept_before texts names marks n ++ l) (one_more n (mark_at marks n))

  kept_same : (p q : ℕ → Bool) (a n : ℕ) → ((k : ℕ) → k < a + n → p k ≡ q k) → filter p (range_with_len a n) ≡ filter q (range_with_len a n)
  kept_same p q a zero h = refl
  kept_same p q a (suc n) h =
      ap (λ b. cond b (a ∷ filter p (range_with_len (a + 1) n)) (filter p (range_with_len (a + 1) n))) (h a (omega arith)) ∙ ap (λ l. cond (q a) (a ∷ l) l) (kept_same p q (a + 1) n (λ k lt. h k (omega arith)))

  -- it depends on the marks before n alone
  pub kept_before_same : (marks others : List Bool) (n : ℕ) → ((k : ℕ) → k < n → mark_at marks k ≡ mark_at others k) → kept_before texts names marks n ≡ kept_before texts names others n
  kept_before_same marks others n h = ap (λ ps. meant texts (names_at names ps)) (kept_same (mark_at marks) (mark_at others) 0 n (λ k lt. h k (omega arith)))
