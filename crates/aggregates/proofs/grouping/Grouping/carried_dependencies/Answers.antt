use Rattle.std.proofs.Common.{◌<◌, Bool, map, length, sym, arith}
use Rattle.bounded.proofs.Viewed.{seen_more, seen_skip, seen_room}
use Rattle.columns.specs.Columns.{columns_of}
use Rattle.columns.proofs.Sizes.{room_pushes}
use Rattle.dependencies.specs.Model.{Dep}
use Rattle.dependencies.specs.View.{dep_of, deps_of}
use Rattle.aggregates.specs.Aggregates.{is_carried, carried_dep}
use Rattle.aggregates.specs.Grouped.{texts_in, names_in}
use Rattle.aggregates.proofs.grouping.Grouping.carried_dependencies.Goals as goal
use Rattle.aggregates.proofs.grouping.Grouping.carried_dependencies.Goals.{then-is_carried, else-is_carried}

pub loop-dependency-preserved : goal.loop-dependency-preserved
loop-dependency-preserved c =
    let texts = texts_in c.args.self.now in
    let names = names_in c.args.self.now in
    let deps = c.args.self.now.dependencies.now in
    let p : Dep → Bool = is_carried texts names in
    let g : Dep → Dep = carried_dep texts (map dep_of deps) names (columns_of c.args.all.now) in
    let i = c.loop-dependency.dependency-index in
    let d = c.dependency-item.result in
    let inside : i < length deps = c.loop-dependency-test.true in
    let so_far = c.loop-dependency.invariant in
    let out = deps_of c.loop-dependency.output in
    let room : length out < 32 = omega (arith, seen_room dep_of dep_of g deps i p out so_far (omega arith), c.args.self.now.few_dependencies) in
    elim c.if-is_carried.branch [
      | then-is_carried w ↦
          rw w.output-is (seen_more dep_of dep_of g deps i p d out (dep_of w.carried.result) so_far inside c.dependency-item.is (sym w.if-is_carried.ensures) w.carried.ensures (room_pushes w.push.result 32 out _ _ w.push.ensures room))
      | else-is_carried w ↦ rw w.output-is (seen_skip dep_of dep_of g deps i p d out so_far inside c.dependency-item.is (sym w.if-is_carried.ensures))
    ]
