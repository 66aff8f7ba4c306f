-- What the merge of two schemas adds.
use Rattle.std.specs.Prelude.{not, List, ◌++◌, filter}
use Rattle.schemas.specs.declared.dfschema.Field.{Field}
use Rattle.schemas.specs.Lookups.{has_column}

-- the other fields come after, but for those whose columns are there already
abbrev pub merged : List Field → List Field → List Field
merged fs gs = fs ++ filter (λ f. not (has_column fs f.column)) gs
