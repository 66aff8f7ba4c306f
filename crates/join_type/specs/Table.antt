-- The table of the ten join types, and the rules that it keeps.
use Rattle.std.specs.Prelude.{◌≡◌, ℕ, suc, Bool, true, false, not, ◌&&◌, ◌||◌, List, [], ◌∷◌, length, codes, ◌==◌, slice_index_or}
use Rattle.std.specs.List.{list_all}
use Rattle.join_type.specs.declared.JoinType.{JoinType}
use Rattle.join_type.specs.declared.JoinType.TheVariants.{Inner, Left, Right, Full, LeftSemi, RightSemi, LeftAnti, RightAnti, LeftMark, RightMark}
use Rattle.join_type.specs.declared.JoinRecord.{JoinRecord}

abbrev pub number_of : JoinType → ℕ
number_of Inner = 0
number_of Left = 1
number_of Right = 2
number_of Full = 3
number_of LeftSemi = 4
number_of RightSemi = 5
number_of LeftAnti = 6
number_of RightAnti = 7
number_of LeftMark = 8
number_of RightMark = 9

abbrev pub name_of : JoinType → List ℕ
name_of Inner = codes "Inner"
name_of Left = codes "Left"
name_of Right = codes "Right"
name_of Full = codes "Full"
name_of LeftSemi = codes "LeftSemi"
name_of RightSemi = codes "RightSemi"
name_of LeftAnti = codes "LeftAnti"
name_of RightAnti = codes "RightAnti"
name_of LeftMark = codes "LeftMark"
name_of RightMark = codes "RightMark"

abbrev row : JoinType → JoinType → Bool → Bool → Bool → Bool → Bool → JoinRecord
row t s o l r b m = record { join_type = t; swap = s; outer = o; left_preserved = l; right_preserved = r; empty_build_side = b; empty_map = m }

-- swap, outer, which side is preserved for filters of the condition, and whether an empty build side or one without a match leaves nothing
abbrev pub record_of : JoinType → JoinRecord
record_of Inner = row Inner Inner false true true true true
record_of Left = row Left Right true false true true false
record_of Right = row Right Left true true false false false
record_of Full = row Full Full true false false false false
record_of LeftSemi = row LeftSemi RightSemi false true true true true
record_of RightSemi = row RightSemi LeftSemi false true true true true
record_of LeftAnti = row LeftAnti RightAnti false false true true false
record_of RightAnti = row RightAnti LeftAnti false true false false false
record_of LeftMark = row LeftMark RightMark false false true true false
record_of RightMark = row RightMark LeftMark false true false false false

-- s is t with its sides exchanged: swapping s gives t back, the preserved sides change places, and s is outer where t is
pub record Ruled (t s : JoinType) : Type 0 where
  pub back : (record_of s).swap ≡ t
  pub left_is_right : (record_of s).left_preserved ≡ (record_of t).right_preserved
  pub right_is_left : (record_of s).right_preserved ≡ (record_of t).left_preserved
  pub outer_stays : (record_of s).outer ≡ (record_of t).outer

abbrev same : Bool → Bool → Bool
same true b = b
same false b = not b

-- the same rules as a test of one record against the whole table
abbrev ruled_in : List JoinRecord → JoinRecord → Bool
ruled_in table r =
    let s : JoinRecord = slice_index_or table (number_of r.swap) r in
    (number_of s.swap == number_of r.join_type) && same s.left_preserved r.right_preserved && same s.right_preserved r.left_preserved && same s.outer r.outer && (not r.empty_map || r.empty_build_side)

-- each record stands at the number of its type
abbrev at_numbers : ℕ → List JoinRecord → Bool
at_numbers n [] = true
at_numbers n (r ∷ rs) = number_of r.join_type == n && at_numbers (suc n) rs

abbrev pub ruled : List JoinRecord → Bool
ruled table = length table == 10 && at_numbers 0 table && list_all (ruled_in table) table
