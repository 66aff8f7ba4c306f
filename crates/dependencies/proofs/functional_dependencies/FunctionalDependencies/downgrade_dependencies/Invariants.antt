use Rattle.std.proofs.Common.{◌≡◌, map, take, filter}
use Rattle.bounded.specs.View.{list_of}
use Rattle.dependencies.specs.Model.{survives_nulls, nullable_dep}
use Rattle.dependencies.specs.View.{dep_of}
use Rattle.dependencies.proofs.functional_dependencies.FunctionalDependencies.downgrade_dependencies.Given as goal

abbrev pub invariant-loop-dependence : goal.invariant-loop-dependence
invariant-loop-dependence l = map dep_of (list_of l.self.deps) ≡ map (nullable_dep) (filter (survives_nulls) (take l.dependence-index (map dep_of l.dependence-items)))
