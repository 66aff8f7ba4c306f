use Rattle.std.proofs.Common.{length, ◌<◌, ◌∙◌, ap, arith}
use Rattle.std.proofs.lemmas.Fn.{says_at}
use Rattle.std.proofs.lemmas.List.{length-take-le}
use Rattle.bounded.specs.View.{list_of}
use Rattle.bounded.proofs.Called.{kept_with, kept_without, kept_short, kept_whole, kept_filter}
use Rattle.bounded.proofs.list.Bounded.retain.Goals as goal
use Rattle.bounded.proofs.list.Bounded.retain.Goals.{then-f, else-f}

pub loop-x-preserved : goal.loop-x-preserved
loop-x-preserved g c =
    let xs = c.as_slice-x-items.result.now in
    let i = c.loop-x.x-index in
    let ys = list_of c.loop-x.self in
    let inside : i < length xs = omega arith in
    let room : length ys < g.row.N = omega (arith, c.as_slice-x-items.ensures.few, kept_short _ _ _ c.loop-x.invariant, length-take-le i xs (omega arith)) in
    elim c.if-f.branch [
      | then-f w ↦ kept_with _ xs i c.x-item.result inside c.x-item.is c.loop-x.invariant (says_at g.F.Fn c.f.ensures w.if-f.true) (ap list_of w.self-is ∙ w.push.ensures.pushed room)
      | else-f w ↦ kept_without _ xs i c.x-item.result inside c.x-item.is c.loop-x.invariant (says_at g.F.Fn c.f.ensures w.if-f.false) (ap list_of w.self-is)
    ]

pub returns : goal.returns
returns g c =
    let told = kept_whole _ c.as_slice-x-items.result.now _ _ c.loop-x.x-index (omega arith) c.as_slice-x-items.ensures.value c.loop-x.invariant in record { told = told; by_test = λ p says. kept_filter _ p says _ _ told }
