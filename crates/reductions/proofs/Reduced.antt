-- One dependency more.
use Rattle.std.proofs.Common.{◌≡◌, ℕ, ◌+◌, ◌<◌, true, false, List, ◌∷◌, map, length, get_or, drop, sym, ap, ◌∙◌, arith}
use Rattle.std.specs.List.{list_all}
use Rattle.std.proofs.lemmas.List.{drop_more, get_or-map, length-map}
use Rattle.std.proofs.lemmas.Bool.{cond-true, cond-false}
use Rattle.columns.specs.Columns.{is_listed}
use Rattle.dependencies.specs.Model.{Dep}
use Rattle.dependencies.specs.View.{dep_of}
use Rattle.dependencies.specs.declared.functional_dependencies.FunctionalDependence.{FunctionalDependence}
use Rattle.reductions.specs.GroupBy.{union, difference, reduced_by, reduced}

module _ (all cs : List ℕ) (ds : List FunctionalDependence) (i : ℕ) (d : FunctionalDependence) (inside : i < length ds) (here : d ≡ get_or ds i d) where
  ahead : drop i (map dep_of ds) ≡ dep_of d ∷ drop (i + 1) (map dep_of ds)
  ahead =
      drop_more (map dep_of ds) i (dep_of d) (omega (arith, length-map ds dep_of)) ∙ ap (λ e. e ∷ drop (i + 1) (map dep_of ds)) (get_or-map dep_of ds i d (dep_of d) inside ∙ ap dep_of (sym here))

  pub reduced_more : (next : List ℕ) → next ≡ reduced_by all cs (dep_of d) → reduced all next (drop (i + 1) (map dep_of ds)) ≡ reduced all cs (drop i (map dep_of ds))
  reduced_more next e = ap (λ l. reduced all l (drop (i + 1) (map dep_of ds))) e ∙ sym (ap (reduced all cs) ahead)

module _ (all cs : List ℕ) (d : Dep) where
  pub reduces : list_all (is_listed cs) d.sources ≡ true → reduced_by all cs d ≡ union all (difference cs d.targets) d.sources
  reduces e = cond-true _ _ _ e

  pub leaves : list_all (is_listed cs) d.sources ≡ false → reduced_by all cs d ≡ cs
  leaves e = cond-false _ _ _ e
