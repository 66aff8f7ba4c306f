-- The tables that a join of two tables can give, and what it means that the dependencies of a join are true.
use Rattle.std.specs.Prelude.{◌≡◌, ℕ, ◌<◌, ◌⊎◌, List, [], ◌∷◌, ◌++◌, length}
use Rattle.std.specs.List.{AllByRecursion}
use Rattle.join_type.specs.declared.JoinType.{JoinType}
use Rattle.join_type.specs.declared.JoinType.TheVariants.{Inner, Left, Right, Full, LeftSemi, RightSemi, LeftAnti, RightAnti, LeftMark, RightMark}
use Rattle.dependencies.specs.Model.{Dep}
use Rattle.dependencies.specs.Tables.{Cell, null, Row, Table, row_at, KeepsAll, Valid, Wide}

-- a left row beside a right row
abbrev pub Beside : Table → Table → Row → Type 0
Beside lt rt row = (i : ℕ) × (i < length lt) × ((j : ℕ) × (j < length rt) × (row ≡ row_at lt i ++ row_at rt j))

abbrev pub Nulls : Row → Type 0
Nulls r = AllByRecursion (λ c. c ≡ null) r

-- a left row beside nulls
abbrev pub LeftAlone : Table → Row → Type 0
LeftAlone lt row = (i : ℕ) × (i < length lt) × ((nulls : Row) × Nulls nulls × (row ≡ row_at lt i ++ nulls))

-- as many nulls as the left side has columns, beside a right row
abbrev pub RightAlone : ℕ → Table → Row → Type 0
RightAlone w rt row = (j : ℕ) × (j < length rt) × ((nulls : Row) × Nulls nulls × (length nulls ≡ w) × (row ≡ nulls ++ row_at rt j))

-- rows of one side, each at most once, perhaps with more cells behind
pub record PartOf (more : Row → Type 0) (side t : Table) : Type 0 where
  pub from : ℕ → ℕ
  pub within : (k : ℕ) → k < length t → from k < length side
  pub distinct : (k m : ℕ) → k < length t → m < length t → from k ≡ from m → k ≡ m
  pub rows : (k : ℕ) → k < length t → (behind : Row) × more behind × (row_at t k ≡ row_at side (from k) ++ behind)

abbrev pub NoMore : Row → Type 0
NoMore behind = behind ≡ []

abbrev pub OneMark : Row → Type 0
OneMark behind = (mark : Cell) × (behind ≡ mark ∷ [])

-- t is made of rows that a join of that type gives, in any order and number; of Semi, Anti and Mark each row of the side comes at most once
abbrev pub JoinOf : JoinType → ℕ → Table → Table → Table → Type 0
JoinOf Inner w lt rt t = AllByRecursion (Beside lt rt) t
JoinOf Left w lt rt t = AllByRecursion (λ r. Beside lt rt r ⊎ LeftAlone lt r) t
JoinOf Right w lt rt t = AllByRecursion (λ r. Beside lt rt r ⊎ RightAlone w rt r) t
JoinOf Full w lt rt t = AllByRecursion (λ r. Beside lt rt r ⊎ (LeftAlone lt r ⊎ RightAlone w rt r)) t
JoinOf LeftSemi w lt rt t = PartOf NoMore lt t
JoinOf RightSemi w lt rt t = PartOf NoMore rt t
JoinOf LeftAnti w lt rt t = PartOf NoMore lt t
JoinOf RightAnti w lt rt t = PartOf NoMore rt t
JoinOf LeftMark w lt rt t = PartOf OneMark lt t
JoinOf RightMark w lt rt t = PartOf OneMark rt t

-- every table of joined rows keeps ds, if the two tables keep their sets, which list no missing column
abbrev pub TrueOfJoins : JoinType → ℕ → List Dep → List Dep → List Dep → Type 0
TrueOfJoins type w ls rs ds =
    (n : ℕ) (lt rt t : Table) → Wide w lt → Wide n rt → Valid w ls → Valid n rs → KeepsAll ls lt → KeepsAll rs rt → JoinOf type w lt rt t → KeepsAll ds t
