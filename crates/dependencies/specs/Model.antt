-- Keys and functional dependencies as plain lists, and what each call makes of them.
use Rattle.std.specs.Prelude.{ℕ, Bool, true, not, ◌&&◌, List, map, length, None, codes, filter, Option, ◌==◌}
use Rattle.std.specs.List.{range_with_len, list_all}
use Rattle.names.specs.declared.error.Refusal.{Refusal}
use Rattle.names.specs.declared.error.Refusal.TheVariants.{Overrun}
use Rattle.names.specs.Refusals.{refused_if}
use Rattle.columns.specs.Columns.{fits, shifted}
use Rattle.dependencies.specs.declared.functional_dependencies.Dependency.{Dependency}
use Rattle.dependencies.specs.declared.functional_dependencies.Dependency.TheVariants.{Single, Multi}

abbrev pub mode_name : Dependency → List ℕ
mode_name Single = codes "Single"
mode_name Multi = codes "Multi"

-- the source columns fix the target columns
pub record Dep : Type 0 where
  pub sources : List ℕ
  pub targets : List ℕ
  pub nullable : Bool
  pub mode : Dependency

abbrev pub dependence : List ℕ → List ℕ → Bool → Dependency → Dep
dependence s t n m = record { sources = s; targets = t; nullable = n; mode = m }

abbrev pub with_mode : Dependency → Dep → Dep
with_mode m d = dependence d.sources d.targets d.nullable m

abbrev pub fits_dep : ℕ → Dep → Bool
fits_dep k d = list_all (fits k) d.sources && list_all (fits k) d.targets

abbrev pub offset_by : ℕ → Dep → Dep
offset_by k d = dependence (shifted k d.sources) (shifted k d.targets) d.nullable d.mode

abbrev pub overrun : ℕ → Dep → Option Refusal
overrun k d = refused_if (not (fits_dep k d)) Overrun None

abbrev pub overrun_any : ℕ → List Dep → Option Refusal
overrun_any k ds = refused_if (not (list_all (fits_dep k) ds)) Overrun None

-- a dependency that rows of nulls do not break: it is not nullable and has a source
abbrev pub survives_nulls : Dep → Bool
survives_nulls d = not d.nullable && not (length d.sources == 0)

abbrev pub nullable_dep : Dep → Dep
nullable_dep d = dependence d.sources d.targets true d.mode

-- what is left of a side that a join pads with nulls
abbrev pub padded : List Dep → List Dep
padded ds = map nullable_dep (filter survives_nulls ds)

-- a key that occurs once determines those columns
abbrev pub targets_for : Dependency → List ℕ → List ℕ → List ℕ
targets_for Single all ts = all
targets_for Multi all ts = ts

abbrev pub over_targets : List ℕ → Dep → Dep
over_targets all d = dependence d.sources (targets_for d.mode all d.targets) d.nullable d.mode

-- all columns of the width
abbrev pub targets_over : ℕ → Dep → Dep
targets_over n d = over_targets (range_with_len 0 n) d
