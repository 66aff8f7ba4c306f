-- What the records of keys stand for.
use Rattle.std.specs.Prelude.{List, [], map, Some, None, Option}
use Rattle.bounded.specs.View.{list_of}
use Rattle.columns.specs.Columns.{columns_of}
use Rattle.constraints.specs.Keys.{Key, primary_key, unique_key}
use Rattle.constraints.specs.declared.constraints.Constraint.{Constraint}
use Rattle.constraints.specs.declared.constraints.Constraint.TheVariants.{PrimaryKey, Unique}
use Rattle.constraints.specs.declared.constraints.Constraints.{Constraints}

abbrev pub key_of : Constraint → Key
key_of (PrimaryKey cs) = primary_key (columns_of cs)
key_of (Unique cs) = unique_key (columns_of cs)

abbrev pub keys_of : Constraints → List Key
keys_of k = map key_of (list_of k.inner)

-- no keys where none are given
abbrev pub keys_or : Option Constraints → List Key
keys_or None = []
keys_or (Some k) = keys_of k
