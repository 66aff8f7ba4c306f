-- Keys of a table, and what a projection leaves of them.
use Rattle.std.specs.Prelude.{ℕ, Bool, List, map, filter}
use Rattle.std.specs.List.{list_all}
use Rattle.columns.specs.Columns.{places, is_listed}

-- a key over its columns
pub data Key : Type 0 where
  primary_key : List ℕ → Key
  unique_key : List ℕ → Key

abbrev pub key_columns : Key → List ℕ
key_columns (primary_key cs) = cs
key_columns (unique_key cs) = cs

abbrev pub projected_key : List ℕ → Key → Key
projected_key proj (primary_key cs) = primary_key (places proj cs)
projected_key proj (unique_key cs) = unique_key (places proj cs)

-- a key stays when all its columns do
abbrev pub key_listed : List ℕ → Key → Bool
key_listed proj k = list_all (is_listed proj) (key_columns k)

abbrev pub projected_keys : List ℕ → List Key → List Key
projected_keys proj ks = map (projected_key proj) (filter (key_listed proj) ks)
