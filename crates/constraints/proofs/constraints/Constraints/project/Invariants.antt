use Rattle.std.proofs.Common.{◌≡◌, map, take, filter}
use Rattle.bounded.specs.View.{list_of}
use Rattle.columns.specs.Columns.{columns_of}
use Rattle.constraints.specs.Keys.{key_listed, projected_key}
use Rattle.constraints.specs.View.{key_of}
use Rattle.constraints.proofs.constraints.Constraints.project.Given as goal

abbrev pub invariant-loop-key : goal.invariant-loop-key
invariant-loop-key l =
    map key_of (list_of l.inner) ≡ map (projected_key (columns_of l.proj_indices)) (filter (key_listed (columns_of l.proj_indices)) (take l.key-index (map key_of l.key-items)))
