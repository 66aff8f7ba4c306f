-- Cells, rows and tables, and when a table keeps a dependency.
use Rattle.std.specs.Prelude.{◌≡◌, ℕ, ◌<◌, ◌≤◌, Bool, true, false, List, [], length, ℤ, ◌≢◌, slice_index_or}
use Rattle.std.specs.List.{AllByRecursion}
use Rattle.dependencies.specs.Model.{Dep}
use Rattle.dependencies.specs.declared.functional_dependencies.Dependency.TheVariants.{Single}

-- a cell is null, a number or a code
pub data Cell : Type 0 where
  null : Cell
  number : ℤ → Cell
  code : List ℕ → Cell

pub data Kind : Type 0 where
  numbers : Kind
  codes : Kind

-- what a column takes
pub record ColumnType : Type 0 where
  pub kind : Kind
  pub nullable : Bool

-- a code has 1 to 8 bytes, none of them zero
pub record Code (bytes : List ℕ) : Type 0 where
  pub some : 1 ≤ length bytes
  pub few : length bytes ≤ 8
  pub nonzero : AllByRecursion (λ b. (0 < b) × (b < 256)) bytes

abbrev pub Row : Type 0
Row = List Cell

abbrev pub Table : Type 0
Table = List Row

abbrev pub cell_at : Row → ℕ → Cell
cell_at r c = slice_index_or r c null

abbrev pub row_at : Table → ℕ → Row
row_at t i = slice_index_or t i []

-- a number is in a column of numbers, a code in one of codes, and null in a nullable one
abbrev pub CellFits : ColumnType → Cell → Type 0
CellFits s null = s.nullable ≡ true
CellFits s (number n) = s.kind ≡ numbers
CellFits s (code b) = (s.kind ≡ codes) × Code b

pub record RowFits (types : List ColumnType) (r : Row) : Type 0 where
  pub wide : length r ≡ length types
  pub each : (c : ℕ) (s : ColumnType) → c < length types → CellFits (slice_index_or types c s) (cell_at r c)

abbrev pub Fits : List ColumnType → Table → Type 0
Fits types t = AllByRecursion (RowFits types) t

-- two rows agree on columns when their cells there are equal, null with null
abbrev pub Agree : List ℕ → Row → Row → Type 0
Agree cs r s = AllByRecursion (λ c. cell_at r c ≡ cell_at s c) cs

-- rows that agree on all sources agree on all targets
abbrev pub Fixes : Dep → Table → Type 0
Fixes d t = (i j : ℕ) → i < length t → j < length t → Agree d.sources (row_at t i) (row_at t j) → Agree d.targets (row_at t i) (row_at t j)

-- rows at two positions never agree on all those columns
abbrev pub Once : List ℕ → Table → Type 0
Once cs t = (i j : ℕ) → i < length t → j < length t → Agree cs (row_at t i) (row_at t j) → i ≡ j

-- no cell of those columns is null
abbrev pub NeverNull : List ℕ → Table → Type 0
NeverNull cs t = (i : ℕ) → i < length t → AllByRecursion (λ c. cell_at (row_at t i) c ≢ null) cs

pub record Keeps (d : Dep) (t : Table) : Type 0 where
  pub fixes : Fixes d t
  pub once : d.mode ≡ Single → Once d.sources t
  pub never_null : d.nullable ≡ false → NeverNull d.sources t

abbrev pub KeepsAll : List Dep → Table → Type 0
KeepsAll ds t = AllByRecursion (λ d. Keeps d t) ds

-- each listed number is below the width
pub record Within (n : ℕ) (d : Dep) : Type 0 where
  pub sources : AllByRecursion (λ c. c < n) d.sources
  pub targets : AllByRecursion (λ c. c < n) d.targets

abbrev pub Valid : ℕ → List Dep → Type 0
Valid n ds = AllByRecursion (Within n) ds

-- each row has that many cells
abbrev pub Wide : ℕ → Table → Type 0
Wide n t = AllByRecursion (λ r. length r ≡ n) t
