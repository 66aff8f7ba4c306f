use Rattle.std.proofs.Common.{◌≡◌, map, take, filter}
use Rattle.bounded.specs.View.{list_of}
use Rattle.columns.specs.Columns.{columns_of}
use Rattle.dependencies.specs.Projections.{projected_dep, sources_listed}
use Rattle.dependencies.specs.View.{dep_of}
use Rattle.dependencies.proofs.functional_dependencies.FunctionalDependencies.project_functional_dependencies.Given as goal

abbrev pub invariant-loop-dependence : goal.invariant-loop-dependence
invariant-loop-dependence l = map dep_of (list_of l.deps) ≡ map (projected_dep (columns_of l.proj_indices) (columns_of l.all)) (filter (sources_listed (columns_of l.proj_indices)) (take l.dependence-index (map dep_of l.dependence-items)))
