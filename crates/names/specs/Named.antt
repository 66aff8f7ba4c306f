-- What a refusal carries, in the texts of its names.
use Rattle.std.specs.Prelude.{ℕ, List, [], Some, None, Option}
use Rattle.std.specs.Option.{option_map}
use Rattle.names.specs.declared.error.MissingField.{MissingField}
use Rattle.names.specs.declared.error.MissingField.TheVariants.{Column, FullName}
use Rattle.names.specs.declared.error.Refusal.{Refusal}
use Rattle.names.specs.declared.error.Refusal.TheVariants.{Standing, Oversize, Overrun, NoColumn, Schema, SameText, EmptyKey, WrongKind, ShortCells, BrokenKey, Crowded, LongWalk, NoRow}
use Rattle.names.specs.declared.error.SchemaError.{SchemaError}
use Rattle.names.specs.declared.error.SchemaError.TheVariants.{DuplicateQualifiedField, DuplicateUnqualifiedField, AmbiguousReference, FieldNotFound}
use Rattle.names.specs.Columns.{column_of}
use Rattle.names.specs.Names.{text_of}
use Rattle.names.specs.References.{parts_of}
use Rattle.names.specs.Refusals.{number_of, schema_number}

-- a column by the parts of its reference and its name, or a full name
pub data Named : Type 0 where
  by_parts : List (List ℕ) × List ℕ → Named
  by_text : List ℕ → Named

abbrev pub missing_of : MissingField → Named
missing_of (Column c) = by_parts (column_of c)
missing_of (FullName n) = by_text (text_of n)

-- the column that a schema error names
abbrev pub named_of : SchemaError → Named
named_of (AmbiguousReference c) = by_parts (column_of c)
named_of (DuplicateQualifiedField q n) = by_parts (parts_of q, text_of n)
named_of (DuplicateUnqualifiedField n) = by_parts ([], text_of n)
named_of (FieldNotFound m) = missing_of m

-- a schema error is known by its number and the column
abbrev pub schema_of : SchemaError → ℕ × Named
schema_of e = (schema_number e, named_of e)

abbrev pub schema_error_of : Refusal → Option SchemaError
schema_error_of Standing = None
schema_error_of Oversize = None
schema_error_of Overrun = None
schema_error_of NoColumn = None
schema_error_of (Schema e) = Some e
schema_error_of SameText = None
schema_error_of EmptyKey = None
schema_error_of WrongKind = None
schema_error_of ShortCells = None
schema_error_of BrokenKey = None
schema_error_of Crowded = None
schema_error_of LongWalk = None
schema_error_of NoRow = None

-- a refusal is known by its number and the column that it names, if any
abbrev pub refusal_of : Refusal → ℕ × Option Named
refusal_of r = (number_of r, option_map named_of (schema_error_of r))
