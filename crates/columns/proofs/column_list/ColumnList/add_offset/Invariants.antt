use Rattle.std.proofs.Common.{◌≡◌, ◌+◌, true, map, take}
use Rattle.std.specs.List.{list_all}
use Rattle.bounded.specs.View.{list_of}
use Rattle.columns.specs.Columns.{fits}
use Rattle.columns.proofs.column_list.ColumnList.add_offset.Given as goal

abbrev pub invariant-loop-column : goal.invariant-loop-column
invariant-loop-column l =
    (map (λ c. c) (list_of l.shifted) ≡ map (λ c. c + l.offset) (take l.column-index (map (λ c. c) l.column-items)))
    × (list_all (fits l.offset) (take l.column-index (map (λ c. c) l.column-items)) ≡ true)
