use Rattle.std.proofs.Common.{◌≡◌, ◌<◌, false, length, sym, ap, ◌∙◌, arith, rules}
use Rattle.std.specs.List.{list_all}
use Rattle.bounded.specs.View.{list_of}
use Rattle.bounded.proofs.Viewed.{made_more, made_room, passed_more, one_fails}
use Rattle.dependencies.specs.Model.{fits_dep, offset_by}
use Rattle.dependencies.specs.View.{dep_of, deps_of}
use Rattle.dependencies.proofs.functional_dependencies.FunctionalDependencies.add_offset.Goals as goal

pub returns-in_err-moved : goal.returns-in_err-moved
returns-in_err-moved c =
    let k = c.args.offset in
    let fails : list_all (fits_dep k) (deps_of c.args.self.now) ≡ false =
    ap (list_all (fits_dep k)) (sym c.as_slice-dependence-items.ensures.value) ∙ one_fails dep_of (fits_dep k) c.as_slice-dependence-items.result.now c.loop-dependence.dependence-index c.dependence-item.result (omega arith) c.dependence-item.is (search rules) in
    search rules

pub loop-dependence-preserved : goal.loop-dependence-preserved
loop-dependence-preserved c =
    let k = c.args.offset in
    let xs = c.as_slice-dependence-items.result.now in
    let i = c.loop-dependence.dependence-index in
    let x = c.dependence-item.result in
    let ys = list_of c.loop-dependence.moved in
    let inside : i < length xs = omega arith in
    let room : length ys < 32 = omega (arith, c.as_slice-dependence-items.ensures.few, made_room dep_of dep_of (offset_by k) xs i ys c.loop-dependence.invariant.0 (omega arith)) in (
      made_more dep_of dep_of (offset_by k) xs i x ys c.in_ok-moved.field-0 c.loop-dependence.invariant.0 inside c.dependence-item.is c.in_ok-moved.ensures.0 (c.push.ensures.pushed room),
      passed_more dep_of (fits_dep k) xs i x c.loop-dependence.invariant.1 inside c.dependence-item.is c.in_ok-moved.ensures.1,
    )
