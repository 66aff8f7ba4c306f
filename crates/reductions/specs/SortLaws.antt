-- What the reduction of sort entries means for rows.
use Rattle.std.specs.Prelude.{◌≡◌, ℕ, ◌<◌, Bool, List, [], ◌∷◌, length, Some, None}
use Rattle.std.specs.declared.cmp.Ordering.TheVariants.{Equal}
use Rattle.std.specs.declared.cmp.Ordering.{Ordering}
use Rattle.std.specs.List.{range_with_len}
use Rattle.std.specs.Ordering.{ordering_then}
use Rattle.dependencies.specs.Model.{Dep}
use Rattle.dependencies.specs.Tables.{Cell, Row, Table, cell_at, row_at, KeepsAll}
use Rattle.reductions.specs.Meant.{column_named, text_at}
use Rattle.reductions.specs.Sorts.{kept_positions}

-- an order of cells that tells apart exactly those that differ: up or down, nulls first or last
abbrev pub TellsApart : (Cell → Cell → Ordering) → Type 0
TellsApart order = (x y : Cell) → (order x y ≡ Equal → x ≡ y) × (x ≡ y → order x y ≡ Equal)

-- the value of a name in a row: the cell of the column that it means; an unknown name has any one value in a row
abbrev pub value_in : List (List ℕ) → (List ℕ → Cell) → Row → List ℕ → Cell
value_in texts other row n = elim (column_named texts n) [ None ↦ other n | Some c ↦ cell_at row c ]

-- by the first of those entries in which they differ
abbrev pub compare_by : (ℕ → Ordering) → List ℕ → Ordering
compare_by entry [] = Equal
compare_by entry (k ∷ ks) = ordering_then (entry k) (compare_by entry ks)

-- how the entry at k compares two rows, with the values of unknown names in each
abbrev pub entry_order : List (List ℕ) → List (List ℕ) → (ℕ → Cell → Cell → Ordering) → (List ℕ → Cell) → Row → (List ℕ → Cell) → Row → ℕ → Ordering
entry_order texts names orders u r v s k = orders k (value_in texts u r (text_at names k)) (value_in texts v s (text_at names k))

-- in every table that keeps the dependencies, two rows compare by the kept entries as by all
abbrev pub ComparesAlike : List (List ℕ) → List Dep → List (List ℕ) → List Bool → Type 0
ComparesAlike texts ds names marks =
    (t : Table) (i j : ℕ) (orders : ℕ → Cell → Cell → Ordering) (other : ℕ → List ℕ → Cell) → KeepsAll ds t → i < length t → j < length t → ((k : ℕ) → TellsApart (orders k)) → compare_by (entry_order texts names orders (other i) (row_at t i) (other j) (row_at t j)) (kept_positions marks (length names)) ≡ compare_by (entry_order texts names orders (other i) (row_at t i) (other j) (row_at t j)) (range_with_len 0 (length names))
