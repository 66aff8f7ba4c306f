-- What `==` says of dependencies is the test of the views; these tests are equivalences, and decide whether the views are equal.
use Rattle.std.specs.Prelude.{◌≡◌, Bool, true, false, ◌&&◌, List, Decides, nat_eq, refl}
use Rattle.std.proofs.Common.{◌∙◌, sym, ap, subst}
use Rattle.std.specs.Bool.{beq}
use Rattle.std.specs.Cmp.{IsEquivalence, and_equiv, on_equiv, bool_eq_equiv, booleans_Decides}
use Rattle.std.specs.Cmp.Lexicographic.{pointwise, lists_equiv, nat_list_eq_equiv, pointwise_decides, bytes_decides}
use Rattle.std.proofs.lemmas.Bool.{false≢true}
use Rattle.std.proofs.lemmas.Bool.Decides.{Decides-and, Decides-like}
use Rattle.bounded.specs.View.{list_of}
use Rattle.bounded.specs.Pointwise.{pointwise_map}
use Rattle.columns.specs.Columns.{columns_of}
use Rattle.dependencies.specs.contracts.functional_dependencies.DependencyPartialEq.TheImpl as modes
use Rattle.dependencies.specs.contracts.functional_dependencies.FunctionalDependencePartialEq.TheImpl as one
use Rattle.dependencies.specs.contracts.functional_dependencies.FunctionalDependenciesPartialEq.TheImpl as set
use Rattle.dependencies.specs.declared.functional_dependencies.Dependency.{Dependency}
use Rattle.dependencies.specs.declared.functional_dependencies.Dependency.TheVariants.{Single, Multi}
use Rattle.dependencies.specs.declared.functional_dependencies.FunctionalDependence.{FunctionalDependence}
use Rattle.dependencies.specs.declared.functional_dependencies.FunctionalDependencies.{FunctionalDependencies}
use Rattle.dependencies.specs.Model.{Dep}
use Rattle.dependencies.specs.Same.{occurs_once, same_dep, same_deps}
use Rattle.dependencies.specs.View.{dep_of, deps_of}

pub same_dep_equiv : IsEquivalence same_dep
same_dep_equiv =
    and_equiv (and_equiv (and_equiv (on_equiv (λ (d : Dep). d.sources) nat_list_eq_equiv) (on_equiv (λ (d : Dep). d.targets) nat_list_eq_equiv)) (on_equiv (λ (d : Dep). d.nullable) bool_eq_equiv)) (on_equiv (λ (d : Dep). occurs_once d.mode) bool_eq_equiv)

pub same_deps_equiv : IsEquivalence same_deps
same_deps_equiv = lists_equiv same_dep_equiv

pub modes_decide : (a b : Dependency) → Decides (beq (occurs_once a) (occurs_once b)) (a ≡ b)
modes_decide Single Single = ((λ _. refl), λ _. refl)
modes_decide Single Multi = ((λ e. absurd (false≢true e)), λ e. cc)
modes_decide Multi Single = ((λ e. absurd (false≢true e)), λ e. cc)
modes_decide Multi Multi = ((λ _. refl), λ _. refl)

pub same_dep_decides : (a b : Dep) → Decides (same_dep a b) (a ≡ b)
same_dep_decides a b =
    let lists = Decides-and (pointwise nat_eq a.sources b.sources) (pointwise nat_eq a.targets b.targets) (bytes_decides a.sources b.sources) (bytes_decides a.targets b.targets) in
    let marked = Decides-and (pointwise nat_eq a.sources b.sources && pointwise nat_eq a.targets b.targets) (beq a.nullable b.nullable) lists (booleans_Decides a.nullable b.nullable) in
    Decides-like (same_dep a b) (λ e i. record { sources = e.0.0.0 i; targets = e.0.0.1 i; nullable = e.0.1 i; mode = e.1 i })
    (λ e. ((((λ i. (e i).sources), λ i. (e i).targets), λ i. (e i).nullable), λ i. (e i).mode)) (Decides-and (pointwise nat_eq a.sources b.sources && pointwise nat_eq a.targets b.targets && beq a.nullable b.nullable) (beq (occurs_once a.mode) (occurs_once b.mode)) marked (modes_decide a.mode b.mode))

pub same_deps_decides : (ds es : List Dep) → Decides (same_deps ds es) (ds ≡ es)
same_deps_decides = pointwise_decides same_dep_decides

mode_eq : (a b : Dependency) → modes.ghosts.eq a b ≡ beq (occurs_once a) (occurs_once b)
mode_eq Single Single = refl
mode_eq Single Multi = refl
mode_eq Multi Single = refl
mode_eq Multi Multi = refl

grouped : (s t n m : Bool) → (s && (t && (n && m))) ≡ (((s && t) && n) && m)
grouped true t n m = go t n m
  where
    go : (t n m : Bool) → (t && (n && m)) ≡ ((t && n) && m)
    go true n m = refl
    go false n m = refl
grouped false t n m = refl

pub dep_eq : (a b : FunctionalDependence) → one.ghosts.eq a b ≡ same_dep (dep_of a) (dep_of b)
dep_eq a b =
    let s = pointwise nat_eq (columns_of a.source_indices) (columns_of b.source_indices) in
    let t = pointwise nat_eq (columns_of a.target_indices) (columns_of b.target_indices) in
    let n = beq a.nullable b.nullable in
    ap (λ m. s && (t && (n && m))) (mode_eq a.mode b.mode) ∙ grouped s t n (beq (occurs_once a.mode) (occurs_once b.mode))

pub dep_decides : (a b : FunctionalDependence) → Decides (one.ghosts.eq a b) (dep_of a ≡ dep_of b)
dep_decides a b = subst (λ r. Decides r (dep_of a ≡ dep_of b)) (sym (dep_eq a b)) (same_dep_decides (dep_of a) (dep_of b))

pub deps_eq : (a b : FunctionalDependencies) → set.ghosts.eq a b ≡ same_deps (deps_of a) (deps_of b)
deps_eq a b = pointwise_map one.ghosts.eq same_dep dep_of dep_eq (list_of a.deps) (list_of b.deps)

pub deps_decide : (a b : FunctionalDependencies) → Decides (set.ghosts.eq a b) (deps_of a ≡ deps_of b)
deps_decide a b = subst (λ r. Decides r (deps_of a ≡ deps_of b)) (sym (deps_eq a b)) (same_deps_decides (deps_of a) (deps_of b))
