-- What the reduction of group-by names means for rows.
use Rattle.std.specs.Prelude.{ℕ, ◌<◌, List, map, length}
use Rattle.std.specs.List.{AllByRecursion}
use Rattle.dependencies.specs.Model.{Dep}
use Rattle.dependencies.specs.Tables.{Table, row_at, Agree, KeepsAll}
use Rattle.reductions.specs.Meant.{meant, text_at}

-- the names at those positions
abbrev pub names_at : List (List ℕ) → List ℕ → List (List ℕ)
names_at names ps = map (text_at names) ps

-- in every table that keeps the dependencies, rows that agree on the columns of the kept names agree on those of all names
abbrev pub KeptDecide : List (List ℕ) → List Dep → List (List ℕ) → List ℕ → Type 0
KeptDecide texts ds names ps =
    (t : Table) (i j : ℕ) → KeepsAll ds t → i < length t → j < length t → Agree (meant texts (names_at names ps)) (row_at t i) (row_at t j) → Agree (meant texts names) (row_at t i) (row_at t j)

-- each is a position of the list
abbrev pub PositionsIn : List (List ℕ) → List ℕ → Type 0
PositionsIn names ps = AllByRecursion (λ p. p < length names) ps
