-- What schemas stand for.
use Rattle.std.specs.Prelude.{◌≡◌, ℕ, ◌⊎◌, List, [], map, Some, None, Result, MatchResult}
use Rattle.bounded.specs.View.{list_of}
use Rattle.names.specs.declared.column.Column.{Column}
use Rattle.names.specs.declared.error.Refusal.{Refusal}
use Rattle.names.specs.Columns.{full_text}
use Rattle.names.specs.Refusals.{oversize_over}
use Rattle.dependencies.specs.Model.{Dep}
use Rattle.dependencies.specs.View.{deps_of}
use Rattle.schemas.specs.CheckNames.{NamesAnswer}
use Rattle.schemas.specs.declared.dfschema.Field.{Field}
use Rattle.schemas.specs.declared.dfschema.DFSchema.{DFSchema}

abbrev pub fields_of : DFSchema → List Field
fields_of s = list_of s.fields

abbrev pub dependencies_of : DFSchema → List Dep
dependencies_of s = deps_of s.functional_dependencies

abbrev pub column_in : Field → Column
column_in f = f.column

abbrev pub full_name_in : Field → List ℕ
full_name_in f = full_text f.column.relation f.column.name

-- those fields and no dependencies
abbrev pub SchemaOf : List Field → DFSchema → Type 0
SchemaOf fs s = (fields_of s ≡ fs) × (dependencies_of s ≡ [])

-- oversize, then as the names are refused, else the schema of those fields
abbrev pub FieldsAnswer : List Field → Result DFSchema Refusal → Type 0
FieldsAnswer fs r =
    MatchResult r (λ s. (oversize_over 64 fs ≡ None) × NamesAnswer (map column_in fs) None × SchemaOf fs s) (λ e. (oversize_over 64 fs ≡ Some e) ⊎ ((oversize_over 64 fs ≡ None) × NamesAnswer (map column_in fs) (Some e)))
