-- Which fields a name means.
use Rattle.std.specs.Prelude.{◌≡◌, ℕ, ◌<◌, Bool, ◌&&◌, List, length, Some, None, Option, MatchOption}
use Rattle.std.specs.List.{HoldsAt, AllWithin, list_any}
use Rattle.std.specs.Str.{bytes_eq}
use Rattle.names.specs.declared.column.Column.{Column}
use Rattle.names.specs.declared.error.MissingField.TheVariants as missing
use Rattle.names.specs.declared.error.Refusal.{Refusal}
use Rattle.names.specs.declared.error.Refusal.TheVariants.{Schema}
use Rattle.names.specs.declared.error.SchemaError.TheVariants.{FieldNotFound}
use Rattle.names.specs.declared.table_reference.TableReference.{TableReference}
use Rattle.names.specs.Columns.{relation_parts}
use Rattle.names.specs.Names.{Name, text_of}
use Rattle.names.specs.References.{Resolved, parts_of}
use Rattle.names.specs.Same.{same_texts}
use Rattle.schemas.specs.declared.dfschema.Field.{Field}

-- where a reference is given, the field must have one, and each part that both have is the same
abbrev pub RelationFits : Option TableReference → Option TableReference → Type 0
RelationFits None r = Unit {0}
RelationFits (Some q) None = ⊥
RelationFits (Some q) (Some r) = Resolved q r

abbrev pub Means : Option TableReference → Name → Field → Type 0
Means q n f = (text_of f.column.name ≡ text_of n) × RelationFits q f.column.relation

abbrev pub SomeMeant : Option TableReference → Name → List Field → Type 0
SomeMeant q n fs = (k : ℕ) × (k < length fs) × HoldsAt (Means q n) fs k

-- the position of the first field that is meant, or none where none is
abbrev pub FirstMeant : Option TableReference → Name → List Field → Option ℕ → Type 0
FirstMeant q n fs r =
    MatchOption r (AllWithin (λ f. Means q n f → ⊥) fs 0 (length fs)) (λ i. (i < length fs) × HoldsAt (Means q n) fs i × AllWithin (λ f. Means q n f → ⊥) fs 0 i)

-- unknown, naming the column
abbrev pub unknown_column : Column → Refusal
unknown_column c = Schema (FieldNotFound (missing.Column c))

abbrev pub has_name : Name → Field → Bool
has_name n f = bytes_eq (text_of f.column.name) (text_of n)

-- exactly that reference, and that name
abbrev pub has_qualified_name : TableReference → Name → Field → Bool
has_qualified_name q n f = same_texts (relation_parts f.column.relation) (parts_of q) && has_name n f

-- a qualified column is there when its reference and name are, an unqualified one when its name is
abbrev pub has_column : List Field → Column → Bool
has_column fs c = elim c.relation [ None ↦ list_any (has_name c.name) fs | Some q ↦ list_any (has_qualified_name q c.name) fs ]
