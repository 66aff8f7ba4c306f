-- When the dependencies of a relation say that a column is unique.
use Rattle.std.specs.Prelude.{ℕ, Bool, true, false, ◌&&◌, length, ◌==◌, slice_index}
use Rattle.dependencies.specs.Model.{Dep}
use Rattle.dependencies.specs.declared.functional_dependencies.Dependency.{Dependency}
use Rattle.dependencies.specs.declared.functional_dependencies.Dependency.TheVariants.{Single, Multi}

abbrev pub is_single : Dependency → Bool
is_single Single = true
is_single Multi = false

-- the column is the only source, and occurs once
abbrev pub is_key_on : ℕ → Dep → Bool
is_key_on c d = is_single d.mode && length d.sources == 1 && slice_index d.sources 0 == c
