use Rattle.std.proofs.Common.{rules, Decides, subst, List}
use Rattle.std.specs.List.{AllByRecursion}
use Rattle.std.proofs.lemmas.Iterator.{cases_from_all, YieldsList-from_slice}
use Rattle.std.proofs.lemmas.Iterator.Search.{true_from_All}
use Rattle.std.proofs.lemmas.List.Elements.{All-from_all_within, All-from_recursion, recursion_from_All}
use Rattle.bounded.proofs.Decided.{decided_views}
use Rattle.dependencies.specs.Model.{Dep}
use Rattle.dependencies.specs.Tables.{Within, Valid}
use Rattle.dependencies.specs.View.{dep_of}
use Rattle.dependencies.specs.declared.functional_dependencies.FunctionalDependence.{FunctionalDependence}
use Rattle.dependencies.proofs.functional_dependencies.FunctionalDependencies.is_valid.Goals as goal

pub returns : goal.returns
returns c =
    let n = c.args.n_field in
    let r = c.all.result in
    let xs = c.as_slice.result.now in
    let P : FunctionalDependence → Type 0 = λ d. Within n (dep_of d) in
    let cases = cases_from_all _ _ r P (λ d. P d → ⊥) c.all.ensures.ran (YieldsList-from_slice xs cc) (λ x q k. search rules) (λ x q k. search rules) in
    let each : Decides r (AllByRecursion P xs) = ((λ e. recursion_from_All P xs (All-from_all_within P xs (rw e at cases))), λ all. true_from_All P (λ d. P d → ⊥) r xs (λ x p q. q p) cases (All-from_recursion P xs all)) in
    (search rules, subst (λ (l : List Dep). Decides r (Valid n l)) c.as_slice.ensures.value (decided_views (Within n) dep_of xs r each))
