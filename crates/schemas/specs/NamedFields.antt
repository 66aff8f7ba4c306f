-- The field that a name alone stands for.
use Rattle.std.specs.Prelude.{Bool, not, List, [], ◌∷◌, is_some, Some, None, Ok, Err, filter, Option, Result}
use Rattle.names.specs.declared.column.Column.{Column}
use Rattle.names.specs.declared.error.Refusal.{Refusal}
use Rattle.names.specs.declared.error.Refusal.TheVariants.{Schema}
use Rattle.names.specs.declared.error.SchemaError.TheVariants.{AmbiguousReference}
use Rattle.names.specs.Names.{Name}
use Rattle.schemas.specs.declared.dfschema.Field.{Field}
use Rattle.schemas.specs.Lookups.{has_name, unknown_column}

abbrev pub is_unqualified : Field → Bool
is_unqualified f = not (is_some f.column.relation)

abbrev pub unqualified : Name → Column
unqualified n = record { relation = None; name = n }

-- the field, where there is just one
abbrev pub only_of : List Field → Option Field
only_of [] = None
only_of (f ∷ []) = Some f
only_of (f ∷ g ∷ fs) = None

abbrev pub or_ambiguous : Name → Option Field → Result Field Refusal
or_ambiguous n None = Err (Schema (AmbiguousReference (unqualified n)))
or_ambiguous n (Some f) = Ok f

-- of the fields of one name: unknown where there is none; the only one; of several the only one without a reference, else ambiguous
abbrev pub one_of : Name → List Field → Result Field Refusal
one_of n [] = Err (unknown_column (unqualified n))
one_of n (f ∷ []) = Ok f
one_of n (f ∷ g ∷ fs) = or_ambiguous n (only_of (filter is_unqualified (f ∷ g ∷ fs)))

abbrev pub field_named : Name → List Field → Result Field Refusal
field_named n fs = one_of n (filter (has_name n) fs)
