use Rattle.std.proofs.Common.{length, ◌<◌, arith}
use Rattle.bounded.specs.View.{list_of}
use Rattle.bounded.proofs.Called.{zip_more, zip_room}
use Rattle.bounded.proofs.list.Bounded.try_map.Goals as goal

pub loop-x-preserved : goal.loop-x-preserved
loop-x-preserved g c =
    let xs = c.as_slice-x-items.result.now in
    let i = c.loop-x.x-index in
    let ys = list_of c.loop-x.mapped in
    let inside : i < length xs = omega arith in
    let room : length ys < g.row.N = omega (arith, c.as_slice-x-items.ensures.few, zip_room _ xs i ys (omega arith) c.loop-x.invariant) in
    zip_more _ xs i c.x-item.result ys c.in_ok-f.field-0 inside c.x-item.is c.loop-x.invariant c.in_ok-f.ensures (c.push.ensures.pushed room)
