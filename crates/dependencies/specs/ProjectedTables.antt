-- The tables that a projection can give, and what it means that its dependencies are true.
use Rattle.std.specs.Prelude.{◌≡◌, ℕ, ◌<◌, List, length, slice_index}
use Rattle.dependencies.specs.Model.{Dep}
use Rattle.dependencies.specs.Tables.{Table, cell_at, row_at, KeepsAll, Valid}

-- row by row the cells of the listed columns; a listed number that is no column of the width n stands for any cells
pub record ProjectionOf (n : ℕ) (proj : List ℕ) (t out : Table) : Type 0 where
  pub rows : length out ≡ length t
  pub cells : (i p : ℕ) → i < length t → p < length proj → slice_index proj p < n → cell_at (row_at out i) p ≡ cell_at (row_at t i) (slice_index proj p)

-- every projection of a table keeps es, if the table keeps ds, which list no missing column
abbrev pub TrueOfProjections : List ℕ → List Dep → List Dep → Type 0
TrueOfProjections proj ds es =
    (n : ℕ) (t out : Table) → Valid n ds → KeepsAll ds t → ProjectionOf n proj t out → KeepsAll es out
