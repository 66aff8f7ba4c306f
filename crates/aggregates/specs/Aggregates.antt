-- The dependencies of a grouping, as the original answers them.
use Rattle.std.specs.Prelude.{ℕ, Bool, cond, not, ◌&&◌, List, [], ◌∷◌, map, length, take, None, filter, Option, ◌==◌, nat_lt}
use Rattle.std.specs.List.{range_with_len, list_all, list_any}
use Rattle.std.specs.Str.{bytes_eq}
use Rattle.names.specs.declared.error.Refusal.{Refusal}
use Rattle.names.specs.declared.error.Refusal.TheVariants.{Oversize, NoColumn}
use Rattle.names.specs.Refusals.{refused_if}
use Rattle.dependencies.specs.declared.functional_dependencies.Dependency.TheVariants.{Single}
use Rattle.dependencies.specs.Model.{Dep, dependence}
use Rattle.schemas.specs.declared.dfschema.Field.{Field}
use Rattle.reductions.specs.GroupByLaws.{names_at}
use Rattle.reductions.specs.Meant.{text_at}
use Rattle.aggregates.specs.Targets.{is_among, target_columns}

-- more than 64 names, then more names than output columns
abbrev pub aggregate_refusal : {X Y : Type 0} → List X → List Y → Option Refusal
aggregate_refusal names outs = refused_if (nat_lt 64 (length names)) Oversize (refused_if (nat_lt (length outs) (length names)) NoColumn None)

-- the positions of the names that are full names of those columns
abbrev pub matched_places : List (List ℕ) → List (List ℕ) → List ℕ → List ℕ
matched_places texts names cs = filter (is_among names (map (text_at texts) cs)) (range_with_len 0 (length names))

-- as many names match as there are sources, and each source's name is among the names
abbrev pub is_carried : List (List ℕ) → List (List ℕ) → Dep → Bool
is_carried texts names d = length (matched_places texts names d.sources) == length d.sources && list_all (is_among texts names) d.sources

-- the names at those positions have targets, the same as all names have
abbrev pub covers : List (List ℕ) → List Dep → List (List ℕ) → List ℕ → Bool
covers texts ds names ps = not (length (target_columns texts ds (names_at names ps)) == 0) && bytes_eq (target_columns texts ds names) (target_columns texts ds (names_at names ps))

-- from the matching names to all output columns; `Single` where they cover all names
abbrev pub carried_dep : List (List ℕ) → List Dep → List (List ℕ) → List ℕ → Dep → Dep
carried_dep texts ds names all d = dependence (matched_places texts names d.sources) all d.nullable (cond (covers texts ds names (matched_places texts names d.sources)) Single d.mode)

abbrev pub carried_deps : List (List ℕ) → List Dep → List (List ℕ) → List ℕ → List Dep
carried_deps texts ds names all = map (carried_dep texts ds names all) (filter (is_carried texts names) ds)

abbrev pub nullable_in : Field → Bool
nullable_in f = f.nullable

abbrev pub any_nullable : List Field → Bool
any_nullable fs = list_any (λ b. b) (map nullable_in fs)

-- all names together determine all output columns, and occur once
abbrev pub group_key : ℕ → List Field → Dep
group_key count outs = dependence (range_with_len 0 count) (range_with_len 0 (length outs)) (any_nullable (take count outs)) Single

-- that key where there are names and no dependency is carried
abbrev pub or_key : ℕ → Dep → List Dep → List Dep
or_key count key [] = cond (count == 0) [] (key ∷ [])
or_key count key (d ∷ ds) = d ∷ ds

abbrev pub aggregated : List (List ℕ) → List Dep → List (List ℕ) → List Field → List Dep
aggregated texts ds names outs = or_key (length names) (group_key (length names) outs) (carried_deps texts ds names (range_with_len 0 (length outs)))
