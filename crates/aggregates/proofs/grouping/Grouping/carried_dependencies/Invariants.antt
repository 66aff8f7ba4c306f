use Rattle.std.proofs.Common.{◌≡◌, map, take, filter}
use Rattle.columns.specs.Columns.{columns_of}
use Rattle.dependencies.specs.View.{deps_of}
use Rattle.aggregates.specs.Aggregates.{is_carried, carried_dep}
use Rattle.aggregates.specs.Grouped.{texts_in, deps_in, names_in}
use Rattle.aggregates.proofs.grouping.Grouping.carried_dependencies.Given as goal

abbrev pub invariant-loop-dependency : goal.invariant-loop-dependency
invariant-loop-dependency l = deps_of l.output ≡ map (carried_dep (texts_in l.self) (deps_in l.self) (names_in l.self) (columns_of l.all)) (filter (is_carried (texts_in l.self) (names_in l.self)) (take l.dependency-index (deps_in l.self)))
