-- The columns that may stand beside group-by names.
use Rattle.std.specs.Prelude.{ℕ, Bool, ◌&&◌, List, [], ◌∷◌, length, is_some, Some, None, filter, Option, nat_lt}
use Rattle.std.specs.Str.{bytes_eq}
use Rattle.names.specs.FirstPlaces.{first_where}
use Rattle.dependencies.specs.Model.{Dep}
use Rattle.reductions.specs.Determined.{is_determined}
use Rattle.reductions.specs.GroupBy.{all_columns}
use Rattle.reductions.specs.Meant.{text_at}

-- the text at that place of the first list is in the second
abbrev pub is_among : List (List ℕ) → List (List ℕ) → ℕ → Bool
is_among texts others k = nat_lt k (length texts) && is_some (first_where (λ t. bytes_eq t (text_at texts k)) others)

-- the targets of the dependencies whose source names are all among the names, ascending and without repeats
abbrev pub target_columns : List (List ℕ) → List Dep → List (List ℕ) → List ℕ
target_columns texts ds names = filter (is_determined (is_among texts names) ds) (all_columns texts)

-- none where the list is empty
abbrev pub unless_empty : List ℕ → Option (List ℕ)
unless_empty [] = None
unless_empty (c ∷ cs) = Some (c ∷ cs)
