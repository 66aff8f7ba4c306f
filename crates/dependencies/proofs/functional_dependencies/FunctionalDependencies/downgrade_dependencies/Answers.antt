use Rattle.std.proofs.Common.{◌<◌, true, length, ap, sym, refl, ◌∙◌, arith}
use Rattle.bounded.specs.View.{list_of}
use Rattle.bounded.proofs.Viewed.{sifted_more, sifted_skip, sifted_room}
use Rattle.dependencies.specs.Model.{survives_nulls, nullable_dep}
use Rattle.dependencies.specs.View.{dep_of}
use Rattle.dependencies.proofs.functional_dependencies.FunctionalDependencies.downgrade_dependencies.Goals as goal
use Rattle.dependencies.proofs.functional_dependencies.FunctionalDependencies.downgrade_dependencies.Goals.{then-survives_nulls, else-survives_nulls}

pub loop-dependence-preserved : goal.loop-dependence-preserved
loop-dependence-preserved c =
    let xs = c.as_slice-dependence-items.result.now in
    let i = c.loop-dependence.dependence-index in
    let x = c.dependence-item.result in
    let ys = list_of c.loop-dependence.self.deps in
    let inside : i < length xs = omega arith in
    let room : length ys < 32 = omega (arith, c.as_slice-dependence-items.ensures.few, sifted_room dep_of dep_of nullable_dep xs i survives_nulls ys c.loop-dependence.invariant (omega arith)) in
    elim c.if-survives_nulls.branch [
      | then-survives_nulls w ↦ sifted_more dep_of dep_of nullable_dep xs i survives_nulls x ys (record x { nullable = true }) c.loop-dependence.invariant inside c.dependence-item.is (sym c.survives_nulls.ensures ∙ w.if-survives_nulls.true) refl (ap (λ s. list_of s.deps) w.self-is ∙ w.push.ensures.pushed room)
      | else-survives_nulls w ↦ sifted_skip dep_of dep_of nullable_dep xs i survives_nulls x ys c.loop-dependence.invariant inside c.dependence-item.is (sym c.survives_nulls.ensures ∙ w.if-survives_nulls.false) (ap (λ s. list_of s.deps) w.self-is)
    ]
