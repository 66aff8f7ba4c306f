-- The dependencies that keys stand for.
use Rattle.std.specs.Prelude.{ℕ, true, false, List, length, None, Option, nat_lt}
use Rattle.names.specs.declared.error.Refusal.{Refusal}
use Rattle.names.specs.declared.error.Refusal.TheVariants.{Oversize}
use Rattle.names.specs.Refusals.{refused_if}
use Rattle.constraints.specs.Keys.{Key, primary_key, unique_key}
use Rattle.dependencies.specs.Model.{Dep, dependence}
use Rattle.dependencies.specs.declared.functional_dependencies.Dependency.TheVariants.{Single}

-- all columns depend on those of the key, which occurs once; only a unique key may hold nulls
abbrev pub key_dependency : List ℕ → Key → Dep
key_dependency all (primary_key cs) = dependence cs all false Single
key_dependency all (unique_key cs) = dependence cs all true Single

-- more than 64 columns, or more than 32 keys
abbrev pub oversize_keys : ℕ → List Key → Option Refusal
oversize_keys n ks = refused_if (nat_lt 64 n) Oversize (refused_if (nat_lt 32 (length ks)) Oversize None)
