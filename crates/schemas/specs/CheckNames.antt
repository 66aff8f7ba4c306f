-- When the names of a list of columns are refused.
use Rattle.std.specs.Prelude.{◌≡◌, ℕ, ◌<◌, false, ◌⊎◌, List, [], length, Some, None, Option, Result, MatchResult, ◌≢◌, slice_index_or}
use Rattle.std.specs.Ordering.{is_gt}
use Rattle.names.specs.declared.column.Column.{Column}
use Rattle.names.specs.declared.error.Refusal.{Refusal}
use Rattle.names.specs.declared.error.Refusal.TheVariants.{Schema}
use Rattle.names.specs.declared.error.SchemaError.{SchemaError}
use Rattle.names.specs.declared.error.SchemaError.TheVariants.{DuplicateQualifiedField, DuplicateUnqualifiedField, AmbiguousReference}
use Rattle.names.specs.Columns.{column_of, relation_parts}
use Rattle.names.specs.Names.{text_of}
use Rattle.schemas.specs.ColumnOrder.{compare_columns}

-- the same reference and name at two places
abbrev pub SameAt : List Column → ℕ → ℕ → Type 0
SameAt cs j i = (d : Column) → column_of (slice_index_or cs j d) ≡ column_of (slice_index_or cs i d)

-- none of the first n columns repeats an earlier one
abbrev pub DistinctTo : List Column → ℕ → Type 0
DistinctTo cs n = (i j : ℕ) → j < i → i < n → SameAt cs j i → ⊥

-- the column at i is the first that repeats an earlier one
pub record RepeatAt (cs : List Column) (i : ℕ) : Type 0 where
  pub within : i < length cs
  pub before : DistinctTo cs i
  pub repeats : (j : ℕ) × (j < i) × SameAt cs j i

-- the column is qualified, and its name also stands unqualified
abbrev pub Ambiguous : List Column → Column → Type 0
Ambiguous cs c = (relation_parts c.relation ≢ []) × ((k : ℕ) × (k < length cs) × ((d : Column) → column_of (slice_index_or cs k d) ≡ ([], text_of c.name)))

abbrev pub NoneAmbiguous : List Column → Type 0
NoneAmbiguous cs = (k : ℕ) (d : Column) → k < length cs → Ambiguous cs (slice_index_or cs k d) → ⊥

-- the column is ambiguous and no ambiguous one comes before it in the order of columns
pub record LeastAmbiguous (cs : List Column) (c : Column) : Type 0 where
  pub listed : (k : ℕ) × (k < length cs) × ((d : Column) → slice_index_or cs k d ≡ c)
  pub ambiguous : Ambiguous cs c
  pub least : (k : ℕ) (d : Column) → k < length cs → Ambiguous cs (slice_index_or cs k d) → is_gt (compare_columns c (slice_index_or cs k d)) ≡ false

-- the error that names a repeated column
abbrev pub duplicate_of : Column → SchemaError
duplicate_of c = elim c.relation [ None ↦ DuplicateUnqualifiedField c.name | Some q ↦ DuplicateQualifiedField q c.name ]

-- twice qualified or twice unqualified, whichever second column comes first; then ambiguous, naming the least such column
abbrev pub NamesAnswer : List Column → Option Refusal → Type 0
NamesAnswer cs None = DistinctTo cs (length cs) × NoneAmbiguous cs
NamesAnswer cs (Some e) =
    ((i : ℕ) × RepeatAt cs i × ((d : Column) → e ≡ Schema (duplicate_of (slice_index_or cs i d)))) ⊎ (DistinctTo cs (length cs) × ((c : Column) × LeastAmbiguous cs c × (e ≡ Schema (AmbiguousReference c))))

-- the refusal that the call gives, or none
abbrev pub Answered : {A : Type 0} → Result A Refusal → (Option Refusal → Type 0) → Type 0
Answered r P = MatchResult r (λ _. P None) (λ e. P (Some e))
