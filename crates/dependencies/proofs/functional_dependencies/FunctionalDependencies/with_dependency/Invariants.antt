use Rattle.std.proofs.Common.{◌≡◌, map, take}
use Rattle.bounded.specs.View.{list_of}
use Rattle.dependencies.specs.Model.{with_mode}
use Rattle.dependencies.specs.View.{dep_of}
use Rattle.dependencies.proofs.functional_dependencies.FunctionalDependencies.with_dependency.Given as goal

abbrev pub invariant-loop-dependence : goal.invariant-loop-dependence
invariant-loop-dependence l = map dep_of (list_of l.self.deps) ≡ map (with_mode l.mode) (take l.dependence-index (map dep_of l.dependence-items))
