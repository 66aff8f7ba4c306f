use Rattle.std.proofs.Common.{◌≡◌}
use Rattle.std.specs.List.{range_with_len}
use Rattle.bounded.specs.View.{list_of}
use Rattle.columns.proofs.column_list.ColumnList.all.Given as goal

abbrev pub invariant-loop-column : goal.invariant-loop-column
invariant-loop-column l = list_of l.columns ≡ range_with_len 0 l.column
