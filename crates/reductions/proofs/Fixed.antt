-- Rows that agree on known columns agree on what these determine.
use Rattle.std.proofs.Common.{◌≡◌, ℕ, ◌<◌, Bool, true, List, [], ◌∷◌, length, ⊎_elim}
use Rattle.std.specs.List.{AllByRecursion, list_all, list_any}
use Rattle.std.proofs.ByRecursion.{All-weaker}
use Rattle.std.proofs.lemmas.Bool.{false≢true, and_parts, or_cases}
use Rattle.columns.specs.Columns.{is_listed}
use Rattle.dependencies.specs.Model.{Dep}
use Rattle.dependencies.specs.Tables.{Table, cell_at, row_at, Keeps, KeepsAll}
use Rattle.reductions.specs.Determined.{determined_by, is_determined}
use Rattle.reductions.proofs.Listed.{all_at, all_from_pass}

-- what follows from each element that passes follows if one passes
some_gives : {X : Type 0} (p : X → Bool) (R : Type 0) (xs : List X) → AllByRecursion (λ x. p x ≡ true → R) xs → list_any p xs ≡ true → R
some_gives p R [] h e = absurd (false≢true e)
some_gives p R (x ∷ xs) h e = ⊎_elim h.0 (some_gives p R xs h.1) (or_cases (p x) (list_any p xs) e)

module _ (known : ℕ → Bool) (ds : List Dep) (t : Table) (i j : ℕ) (keeps : KeepsAll ds t) (hi : i < length t) (hj : j < length t) where
  abbrev Same : ℕ → Type 0
  Same c = cell_at (row_at t i) c ≡ cell_at (row_at t j) c

  pub determined_agree : ((c : ℕ) → known c ≡ true → Same c) → (c : ℕ) → is_determined known ds c ≡ true → Same c
  determined_agree agree c e =
      some_gives (determined_by known c) (Same c) ds
      (All-weaker (λ d. Keeps d t) (λ d. determined_by known c d ≡ true → Same c)
      (λ d k told.
      let parts = and_parts (is_listed d.targets c) (list_all known d.sources) told in
      let sources : AllByRecursion Same d.sources = All-weaker (λ s. known s ≡ true) Same agree d.sources (all_from_pass known d.sources parts.1) in
      all_at Same d.targets c (k.fixes i j hi hj sources) parts.0)
      ds keeps)
      e
