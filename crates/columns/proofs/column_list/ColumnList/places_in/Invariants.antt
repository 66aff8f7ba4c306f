use Rattle.std.proofs.Common.{◌≡◌, take}
use Rattle.bounded.specs.View.{list_of}
use Rattle.columns.specs.Columns.{columns_of, places}
use Rattle.columns.proofs.column_list.ColumnList.places_in.Given as goal

abbrev pub invariant-loop-column : goal.invariant-loop-column
invariant-loop-column l = list_of l.columns ≡ places (columns_of l.list) (take l.column-index l.column-items)
