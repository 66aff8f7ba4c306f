-- Dependencies in the columns of a projection, which lists the columns that it takes.
use Rattle.std.specs.Prelude.{ℕ, Bool, List, map, filter}
use Rattle.std.specs.List.{range_with_len, list_all}
use Rattle.columns.specs.Columns.{places, is_listed}
use Rattle.dependencies.specs.Model.{Dep, dependence, targets_for}

-- each column becomes its first place; targets that are not listed are left out, and a key that occurs once determines all
abbrev pub projected_dep : List ℕ → List ℕ → Dep → Dep
projected_dep proj all d = dependence (places proj d.sources) (targets_for d.mode all (places proj d.targets)) d.nullable d.mode

-- a dependency stays when every source is listed
abbrev pub sources_listed : List ℕ → Dep → Bool
sources_listed proj d = list_all (is_listed proj) d.sources

abbrev pub projected : List ℕ → ℕ → List Dep → List Dep
projected proj n ds = map (projected_dep proj (range_with_len 0 n)) (filter (sources_listed proj) ds)
