-- The dependencies of a join.
use Rattle.std.specs.Prelude.{ℕ, ◌+◌, List, [], ◌++◌, map, length, None, Option, nat_lt}
use Rattle.names.specs.declared.error.Refusal.{Refusal}
use Rattle.names.specs.declared.error.Refusal.TheVariants.{Oversize}
use Rattle.names.specs.Refusals.{refused_if}
use Rattle.join_type.specs.declared.JoinType.{JoinType}
use Rattle.join_type.specs.declared.JoinType.TheVariants.{Inner, Left, Right, Full, LeftSemi, RightSemi, LeftAnti, RightAnti, LeftMark, RightMark}
use Rattle.dependencies.specs.Model.{Dep, with_mode, offset_by, overrun_any, padded}
use Rattle.dependencies.specs.declared.functional_dependencies.Dependency.TheVariants.{Multi}

-- a key of one side may occur in several joined rows
abbrev pub turned_multi : List Dep → List Dep
turned_multi ds = map (with_mode Multi) ds

-- the left ones first, then the right ones, moved up by the left width
abbrev pub joined_sides : ℕ → List Dep → List Dep → List Dep
joined_sides w ls rs = turned_multi ls ++ turned_multi (map (offset_by w) rs)

-- the padded side keeps only what nulls do not break
abbrev pub joined : JoinType → ℕ → List Dep → List Dep → List Dep
joined Inner w ls rs = joined_sides w ls rs
joined Left w ls rs = joined_sides w ls (padded rs)
joined Right w ls rs = joined_sides w (padded ls) rs
joined Full w ls rs = []
joined LeftSemi w ls rs = ls
joined RightSemi w ls rs = rs
joined LeftAnti w ls rs = ls
joined RightAnti w ls rs = rs
joined LeftMark w ls rs = ls
joined RightMark w ls rs = rs

-- more dependencies than fit, then a column number that the width lifts past the last
abbrev pub sides_refusal : ℕ → List Dep → List Dep → Option Refusal
sides_refusal w ls rs = refused_if (nat_lt 32 (length ls + length rs)) Oversize (overrun_any w rs)

-- of what stays on the two sides
abbrev pub staying : JoinType → ℕ → List Dep → List Dep → Option Refusal
staying Inner w ls rs = sides_refusal w ls rs
staying Left w ls rs = sides_refusal w ls (padded rs)
staying Right w ls rs = sides_refusal w (padded ls) rs
staying Full w ls rs = None
staying LeftSemi w ls rs = None
staying RightSemi w ls rs = None
staying LeftAnti w ls rs = None
staying RightAnti w ls rs = None
staying LeftMark w ls rs = None
staying RightMark w ls rs = None

abbrev pub join_refusal : JoinType → ℕ → List Dep → List Dep → Option Refusal
join_refusal t w ls rs = refused_if (nat_lt 64 w) Oversize (staying t w ls rs)
