-- The columns that full names mean.
use Rattle.std.specs.Prelude.{ℕ, Bool, List, [], map, is_some, Option, slice_index_or}
use Rattle.std.specs.List.{list_all}
use Rattle.std.specs.Str.{bytes_eq}
use Rattle.names.specs.Names.{FullName, text_of}
use Rattle.names.specs.FirstPlaces.{first_where, first_places}
use Rattle.schemas.specs.declared.dfschema.DFSchema.{DFSchema}
use Rattle.schemas.specs.Schemas.{fields_of, full_name_in}

-- the full names of a schema's columns
abbrev pub texts_of : DFSchema → List (List ℕ)
texts_of s = map full_name_in (fields_of s)

-- the texts of the names that a caller gives
abbrev pub names_of : List FullName → List (List ℕ)
names_of ns = map text_of ns

-- a name means the first column that has it
abbrev pub column_named : List (List ℕ) → List ℕ → Option ℕ
column_named texts n = first_where (λ t. bytes_eq t n) texts

-- the columns that the names mean; a name that no column has means none
abbrev pub meant : List (List ℕ) → List (List ℕ) → List ℕ
meant texts names = first_places bytes_eq texts names

abbrev pub all_meant : List (List ℕ) → List (List ℕ) → Bool
all_meant texts names = list_all (λ n. is_some (column_named texts n)) names

-- the full name of a column
abbrev pub text_at : List (List ℕ) → ℕ → List ℕ
text_at texts c = slice_index_or texts c []
