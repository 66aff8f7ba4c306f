-- Lists of column numbers, and when one is too long or lifted too far.
use Rattle.std.specs.Prelude.{ℕ, ◌+◌, Bool, not, List, map, length, is_some, None, Option, ◌==◌, nat_lt}
use Rattle.std.specs.List.{list_all}
use Rattle.bounded.specs.View.{list_of}
use Rattle.names.specs.declared.error.Refusal.{Refusal}
use Rattle.names.specs.declared.error.Refusal.TheVariants.{Oversize, Overrun}
use Rattle.names.specs.FirstPlaces.{first_where, first_places}
use Rattle.names.specs.Refusals.{refused_if}
use Rattle.columns.specs.declared.column_list.ColumnList.{ColumnList}

-- the column numbers of a list
abbrev pub columns_of : ColumnList → List ℕ
columns_of l = list_of l.columns

-- a width of more than 64 columns
abbrev pub oversize_width : ℕ → Option Refusal
oversize_width n = refused_if (nat_lt 64 n) Oversize None

-- a list with no room for one entry more
abbrev pub full_at : {X : Type 0} → ℕ → List X → Option Refusal
full_at n xs = refused_if (not (nat_lt (length xs) n)) Oversize None

-- two lists with more than n entries between them
abbrev pub oversize_together : {X : Type 0} → ℕ → List X → List X → Option Refusal
oversize_together n xs ys = refused_if (nat_lt n (length xs + length ys)) Oversize None

-- a column number that is still one when k is added
abbrev pub fits : ℕ → ℕ → Bool
fits k c = nat_lt (c + k) 65536

abbrev pub shifted : ℕ → List ℕ → List ℕ
shifted k cs = map (λ c. c + k) cs

abbrev pub overrun_at : ℕ → List ℕ → Option Refusal
overrun_at k cs = refused_if (not (list_all (fits k) cs)) Overrun None

-- the least position at which a column is listed
abbrev pub first_place : List ℕ → ℕ → Option ℕ
first_place xs c = first_where (λ x. x == c) xs

-- the first positions of those columns that are listed
abbrev pub places : List ℕ → List ℕ → List ℕ
places xs cs = first_places (λ x c. x == c) xs cs

abbrev pub is_listed : List ℕ → ℕ → Bool
is_listed xs c = is_some (first_place xs c)
