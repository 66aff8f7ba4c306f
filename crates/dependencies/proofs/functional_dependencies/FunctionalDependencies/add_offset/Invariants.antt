use Rattle.std.proofs.Common.{◌≡◌, true, map, take}
use Rattle.std.specs.List.{list_all}
use Rattle.bounded.specs.View.{list_of}
use Rattle.dependencies.specs.Model.{fits_dep, offset_by}
use Rattle.dependencies.specs.View.{dep_of}
use Rattle.dependencies.proofs.functional_dependencies.FunctionalDependencies.add_offset.Given as goal

abbrev pub invariant-loop-dependence : goal.invariant-loop-dependence
invariant-loop-dependence l =
    (map dep_of (list_of l.moved) ≡ map (offset_by l.offset) (take l.dependence-index (map dep_of l.dependence-items)))
    × (list_all (fits_dep l.offset) (take l.dependence-index (map dep_of l.dependence-items)) ≡ true)
