-- The reduction of sort entries.
use Rattle.std.specs.Prelude.{◌≡◌, ℕ, ◌<◌, Bool, false, not, List, map, length, Some, None, filter, slice_index_or}
use Rattle.std.specs.List.{range_with_len}
use Rattle.names.specs.Names.{FullName, text_of}
use Rattle.columns.specs.Columns.{is_listed}
use Rattle.dependencies.specs.Model.{Dep}
use Rattle.reductions.specs.declared.sort.SortExpr.{SortExpr}
use Rattle.reductions.specs.Determined.{is_determined}
use Rattle.reductions.specs.Meant.{column_named, meant, text_at}
use Rattle.reductions.specs.GroupByLaws.{names_at}

-- what an entry sorts by
abbrev pub sorted_by : SortExpr → FullName
sorted_by e = e.name

abbrev pub sort_name : SortExpr → List ℕ
sort_name e = text_of e.name

abbrev pub sort_mark : SortExpr → Bool
sort_mark e = e.kept

-- the names of the entries, and their marks
abbrev pub sort_names : List SortExpr → List (List ℕ)
sort_names es = map sort_name es

abbrev pub sort_marks : List SortExpr → List Bool
sort_marks es = map sort_mark es

-- an unknown name is never dropped
abbrev pub is_dropped : List (List ℕ) → List Dep → List ℕ → List ℕ → Bool
is_dropped texts ds known n = elim (column_named texts n) [ None ↦ false | Some c ↦ is_determined (is_listed known) ds c ]

abbrev pub mark_at : List Bool → ℕ → Bool
mark_at marks k = slice_index_or marks k false

-- the positions before n that are marked as kept
abbrev pub kept_positions : List Bool → ℕ → List ℕ
kept_positions marks n = filter (mark_at marks) (range_with_len 0 n)

-- the columns of the kept entries before n
abbrev pub kept_before : List (List ℕ) → List (List ℕ) → List Bool → ℕ → List ℕ
kept_before texts names marks n = meant texts (names_at names (kept_positions marks n))

-- an entry is dropped exactly when it is a target of one dependency whose sources are all among earlier kept columns
pub record Reduces (texts : List (List ℕ)) (ds : List Dep) (names : List (List ℕ)) (marks : List Bool) : Type 0 where
  pub long : length marks ≡ length names
  pub each : (k : ℕ) → k < length names → mark_at marks k ≡ not (is_dropped texts ds (kept_before texts names marks k) (text_at names k))
