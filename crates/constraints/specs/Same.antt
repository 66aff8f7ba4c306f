-- The test behind `==` of keys: true exactly where they are of one kind over the same columns.
use Rattle.std.specs.Prelude.{Bool, true, false, ◌&&◌, List, nat_eq}
use Rattle.std.specs.Bool.{beq}
use Rattle.std.specs.Cmp.Lexicographic.{pointwise}
use Rattle.constraints.specs.Keys.{Key, primary_key, unique_key, key_columns}

abbrev pub is_primary : Key → Bool
is_primary (primary_key cs) = true
is_primary (unique_key cs) = false

abbrev pub same_key : Key → Key → Bool
same_key a b = beq (is_primary a) (is_primary b) && pointwise nat_eq (key_columns a) (key_columns b)

abbrev pub same_keys : List Key → List Key → Bool
same_keys = pointwise same_key
