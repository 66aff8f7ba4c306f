use Rattle.std.proofs.Common.{◌≡◌, map, take}
use Rattle.bounded.specs.View.{list_of}
use Rattle.columns.specs.Columns.{columns_of}
use Rattle.dependencies.specs.Model.{over_targets}
use Rattle.dependencies.specs.View.{dep_of}
use Rattle.dependencies.proofs.functional_dependencies.FunctionalDependencies.extend_target_indices.Given as goal

abbrev pub invariant-loop-dependence : goal.invariant-loop-dependence
invariant-loop-dependence l = map dep_of (list_of l.self.deps) ≡ map (over_targets (columns_of l.all)) (take l.dependence-index (map dep_of l.dependence-items))
