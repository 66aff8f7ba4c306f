use Rattle.std.proofs.Common.{◌<◌, ◌≡◌, length, map, filter, ap, sym, subst, ◌∙◌, arith, rules}
use Rattle.std.specs.List.{range_with_len}
use Rattle.bounded.specs.View.{list_of}
use Rattle.bounded.proofs.Viewed.{sifted_more, sifted_skip, sifted_room, sifted_all}
use Rattle.columns.specs.Columns.{columns_of}
use Rattle.dependencies.specs.Projections.{projected, projected_dep, sources_listed}
use Rattle.dependencies.specs.ProjectedTables.{TrueOfProjections}
use Rattle.dependencies.specs.View.{dep_of, deps_of}
use Rattle.dependencies.proofs.ProjectLaws.{projected_true}
use Rattle.dependencies.proofs.functional_dependencies.FunctionalDependencies.project_functional_dependencies.Goals as goal
use Rattle.dependencies.proofs.functional_dependencies.FunctionalDependencies.project_functional_dependencies.Goals.{then-all_listed_in, else-all_listed_in}

pub loop-dependence-preserved : goal.loop-dependence-preserved
loop-dependence-preserved c =
    let proj = columns_of c.args.proj_indices.now in
    let g = projected_dep proj (columns_of c.in_ok-all.all) in
    let xs = c.as_slice-dependence-items.result.now in
    let i = c.loop-dependence.dependence-index in
    let x = c.dependence-item.result in
    let ys = list_of c.loop-dependence.deps in
    let inside : i < length xs = omega arith in
    let room : length ys < 32 = omega (arith, c.as_slice-dependence-items.ensures.few, sifted_room dep_of dep_of g xs i (sources_listed proj) ys c.loop-dependence.invariant (omega arith)) in
    elim c.if-all_listed_in.branch [
      | then-all_listed_in w ↦ sifted_more dep_of dep_of g xs i (sources_listed proj) x ys w.projected.result c.loop-dependence.invariant inside c.dependence-item.is (sym c.all_listed_in.ensures ∙ w.if-all_listed_in.true) w.projected.ensures (ap list_of w.deps-is ∙ w.push.ensures.pushed room)
      | else-all_listed_in w ↦ sifted_skip dep_of dep_of g xs i (sources_listed proj) x ys c.loop-dependence.invariant inside c.dependence-item.is (sym c.all_listed_in.ensures ∙ w.if-all_listed_in.false) (ap list_of w.deps-is)
    ]

pub returns-clause-true_of_projections : goal.returns-clause-true_of_projections
returns-clause-true_of_projections c =
    let proj = columns_of c.args.proj_indices.now in
    let ds = deps_of c.args.self.now in
    let all : columns_of c.in_ok-all.all ≡ range_with_len 0 c.args.n_out = search rules in
    let made : map dep_of (list_of c.loop-dependence.deps) ≡ projected proj c.args.n_out ds =
    sifted_all dep_of dep_of (projected_dep proj (columns_of c.in_ok-all.all)) c.as_slice-dependence-items.result.now _ (sources_listed proj) _ c.loop-dependence.invariant (omega arith)
    ∙ ap (λ l. map (projected_dep proj (columns_of c.in_ok-all.all)) (filter (sources_listed proj) l)) c.as_slice-dependence-items.ensures.value
    ∙ ap (λ cs. map (projected_dep proj cs) (filter (sources_listed proj) ds)) all in
    subst (TrueOfProjections proj ds) (sym made) (projected_true proj c.args.n_out ds)
