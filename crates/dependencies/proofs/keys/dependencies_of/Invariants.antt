use Rattle.std.proofs.Common.{◌≡◌, map, take}
use Rattle.columns.specs.Columns.{columns_of}
use Rattle.dependencies.specs.Keys.{key_dependency}
use Rattle.constraints.specs.View.{key_of}
use Rattle.dependencies.specs.View.{deps_of}
use Rattle.dependencies.proofs.keys.dependencies_of.Given as goal

abbrev pub invariant-loop-key : goal.invariant-loop-key
invariant-loop-key l = deps_of l.dependencies ≡ map (key_dependency (columns_of l.all)) (map key_of (take l.key-index l.key-items))
