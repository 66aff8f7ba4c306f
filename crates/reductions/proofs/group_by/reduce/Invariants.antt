use Rattle.std.proofs.Common.{◌≡◌, map, drop}
use Rattle.columns.specs.Columns.{columns_of}
use Rattle.dependencies.specs.View.{dep_of}
use Rattle.reductions.specs.GroupBy.{reduced}
use Rattle.reductions.proofs.group_by.reduce.Given as goal

abbrev pub invariant-loop-dependency : goal.invariant-loop-dependency
invariant-loop-dependency l = reduced (columns_of l.all) (columns_of l.required) (drop l.dependency-index (map dep_of l.dependencies)) ≡ reduced (columns_of l.all) (columns_of l.initial.required) (map dep_of l.dependencies)
