-- When a table has a key, and what it means that dependencies stand for keys.
use Rattle.std.specs.Prelude.{List}
use Rattle.std.specs.List.{AllByRecursion}
use Rattle.constraints.specs.Keys.{Key, primary_key, unique_key}
use Rattle.dependencies.specs.Model.{Dep}
use Rattle.dependencies.specs.Tables.{Table, Once, NeverNull, KeepsAll}

-- no two rows agree on the key's columns, and of a primary key no cell is null
abbrev pub HasKey : Table → Key → Type 0
HasKey t (primary_key cs) = Once cs t × NeverNull cs t
HasKey t (unique_key cs) = Once cs t

-- a table keeps the dependencies exactly when it has the keys
abbrev pub StandForKeys : List Key → List Dep → Type 0
StandForKeys keys ds = (t : Table) → (KeepsAll ds t → AllByRecursion (HasKey t) keys) × (AllByRecursion (HasKey t) keys → KeepsAll ds t)
