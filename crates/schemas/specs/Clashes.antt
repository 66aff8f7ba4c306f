-- When two schemas cannot be joined.
use Rattle.std.specs.Prelude.{◌≡◌, ◌+◌, ◌<◌, ◌≤◌, ◌⊎◌, List, [], map, length, None, Result, MatchResult, ◌≢◌}
use Rattle.std.specs.List.{ContainsAt}
use Rattle.names.specs.declared.column.Column.{Column}
use Rattle.names.specs.declared.error.Refusal.{Refusal}
use Rattle.names.specs.Columns.{column_of, relation_parts}
use Rattle.names.specs.Names.{text_of}
use Rattle.schemas.specs.CheckNames.{NamesAnswer}
use Rattle.schemas.specs.Schemas.{column_in}
use Rattle.schemas.specs.declared.dfschema.DFSchema.{DFSchema}
use Rattle.schemas.specs.declared.dfschema.Field.{Field}

-- one name: the first has a reference, the second has none
abbrev pub WithAndWithout : Column → Column → Type 0
WithAndWithout a b = (relation_parts a.relation ≢ []) × (column_of b ≡ ([], text_of a.name))

-- the same reference and name, or one name with and without a reference
abbrev pub ClashOf : Column → Column → Type 0
ClashOf a b = (column_of a ≡ column_of b) ⊎ (WithAndWithout a b ⊎ WithAndWithout b a)

-- some column of the one list clashes with some column of the other
abbrev pub Clash : List Column → List Column → Type 0
Clash ls rs = (a b : Column) × ContainsAt ls a × ContainsAt rs b × ClashOf a b

-- two schemas whose names pass are joined where they have at most 64 columns together and do not clash, and else refused
abbrev pub JoinedUnlessClash : List Field → List Field → Result DFSchema Refusal → Type 0
JoinedUnlessClash ls rs r =
    NamesAnswer (map column_in ls) None → NamesAnswer (map column_in rs) None → MatchResult r (λ _. (length ls + length rs ≤ 64) × (Clash (map column_in ls) (map column_in rs) → ⊥)) (λ _. (64 < length ls + length rs) ⊎ Clash (map column_in ls) (map column_in rs))
