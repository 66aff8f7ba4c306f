-- Columns that a dependency determines.
use Rattle.std.specs.Prelude.{ℕ, Bool, ◌&&◌, List}
use Rattle.std.specs.List.{list_all, list_any}
use Rattle.columns.specs.Columns.{is_listed}
use Rattle.dependencies.specs.Model.{Dep}

-- the column is a target of the dependency, whose sources are all known
abbrev pub determined_by : (ℕ → Bool) → ℕ → Dep → Bool
determined_by known c d = is_listed d.targets c && list_all known d.sources

-- of one of the dependencies
abbrev pub is_determined : (ℕ → Bool) → List Dep → ℕ → Bool
is_determined known ds c = list_any (determined_by known c) ds
