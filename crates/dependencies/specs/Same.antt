-- The test behind `==` of dependencies: true exactly where each part is the same.
use Rattle.std.specs.Prelude.{Bool, true, false, ◌&&◌, List, nat_eq}
use Rattle.std.specs.Bool.{beq}
use Rattle.std.specs.Cmp.Lexicographic.{pointwise}
use Rattle.dependencies.specs.Model.{Dep}
use Rattle.dependencies.specs.declared.functional_dependencies.Dependency.{Dependency}
use Rattle.dependencies.specs.declared.functional_dependencies.Dependency.TheVariants.{Single, Multi}

abbrev pub occurs_once : Dependency → Bool
occurs_once Single = true
occurs_once Multi = false

abbrev pub same_dep : Dep → Dep → Bool
same_dep a b = pointwise nat_eq a.sources b.sources && pointwise nat_eq a.targets b.targets && beq a.nullable b.nullable && beq (occurs_once a.mode) (occurs_once b.mode)

abbrev pub same_deps : List Dep → List Dep → Bool
same_deps = pointwise same_dep
