-- What it means for rows that columns may stand beside group-by names.
use Rattle.std.specs.Prelude.{ℕ, ◌<◌, List, length, filter}
use Rattle.dependencies.specs.Model.{Dep}
use Rattle.dependencies.specs.Tables.{Table, row_at, Agree, KeepsAll}
use Rattle.reductions.specs.GroupBy.{all_columns}
use Rattle.aggregates.specs.Targets.{is_among}

-- the columns whose full names are among the names
abbrev pub named_columns : List (List ℕ) → List (List ℕ) → List ℕ
named_columns texts names = filter (is_among texts names) (all_columns texts)

-- in every table that keeps the dependencies, rows that agree on the named columns agree on those
abbrev pub NamesFix : List (List ℕ) → List Dep → List (List ℕ) → List ℕ → Type 0
NamesFix texts ds names cs =
    (t : Table) (i j : ℕ) → KeepsAll ds t → i < length t → j < length t → Agree (named_columns texts names) (row_at t i) (row_at t j) → Agree cs (row_at t i) (row_at t j)
