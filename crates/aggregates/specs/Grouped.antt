-- What a grouping groups.
use Rattle.std.specs.Prelude.{ℕ, List, map}
use Rattle.names.specs.Names.{text_of}
use Rattle.dependencies.specs.Model.{Dep}
use Rattle.dependencies.specs.View.{dep_of}
use Rattle.aggregates.specs.declared.grouping.Grouping.{Grouping}

-- the full names of the columns
abbrev pub texts_in : Grouping → List (List ℕ)
texts_in g = map text_of g.field_names.now

abbrev pub deps_in : Grouping → List Dep
deps_in g = map dep_of g.dependencies.now

-- the names that the rows are grouped by
abbrev pub names_in : Grouping → List (List ℕ)
names_in g = map text_of g.names.now
