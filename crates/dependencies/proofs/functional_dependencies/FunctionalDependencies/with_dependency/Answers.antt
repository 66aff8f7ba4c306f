use Rattle.std.proofs.Common.{◌<◌, length, arith}
use Rattle.bounded.specs.View.{list_of}
use Rattle.bounded.proofs.Viewed.{made_more, made_room}
use Rattle.dependencies.specs.Model.{with_mode}
use Rattle.dependencies.specs.View.{dep_of}
use Rattle.dependencies.proofs.functional_dependencies.FunctionalDependencies.with_dependency.Goals as goal

pub loop-dependence-preserved : goal.loop-dependence-preserved
loop-dependence-preserved c =
    let xs = c.as_slice-dependence-items.result.now in
    let i = c.loop-dependence.dependence-index in
    let ys = list_of c.loop-dependence.self.deps in
    let inside : i < length xs = omega arith in
    let room : length ys < 32 = omega (arith, c.as_slice-dependence-items.ensures.few, made_room dep_of dep_of (with_mode c.args.mode) xs i ys c.loop-dependence.invariant (omega arith)) in
    made_more dep_of dep_of (with_mode c.args.mode) xs i c.dependence-item.result ys c.with_mode.result c.loop-dependence.invariant inside c.dependence-item.is c.with_mode.ensures (c.push.ensures.pushed room)
