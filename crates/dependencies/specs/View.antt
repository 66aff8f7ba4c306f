-- What the records of the code stand for.
use Rattle.std.specs.Prelude.{List, map}
use Rattle.bounded.specs.View.{list_of}
use Rattle.dependencies.specs.Model.{Dep, dependence}
use Rattle.columns.specs.Columns.{columns_of}
use Rattle.dependencies.specs.declared.functional_dependencies.FunctionalDependence.{FunctionalDependence}
use Rattle.dependencies.specs.declared.functional_dependencies.FunctionalDependencies.{FunctionalDependencies}

abbrev pub dep_of : FunctionalDependence → Dep
dep_of d = dependence (columns_of d.source_indices) (columns_of d.target_indices) d.nullable d.mode

abbrev pub deps_of : FunctionalDependencies → List Dep
deps_of f = map dep_of (list_of f.deps)
