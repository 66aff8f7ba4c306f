use Rattle.std.proofs.Common.{◌<◌, length, ap, sym, ◌∙◌, arith}
use Rattle.std.specs.List.{list_all}
use Rattle.bounded.specs.View.{list_of}
use Rattle.bounded.proofs.Viewed.{sifted_more, sifted_skip, sifted_room}
use Rattle.columns.specs.Columns.{columns_of, is_listed}
use Rattle.constraints.specs.Keys.{key_listed, projected_key}
use Rattle.constraints.specs.View.{key_of}
use Rattle.constraints.proofs.constraints.Constraints.project.Goals as goal
use Rattle.constraints.proofs.constraints.Constraints.project.Goals.{then-all_listed_in, else-all_listed_in}

pub loop-key-preserved : goal.loop-key-preserved
loop-key-preserved c =
    let proj = columns_of c.args.proj_indices.now in
    let xs = c.as_slice-key-items.result.now in
    let i = c.loop-key.key-index in
    let x = c.key-item.result in
    let ys = list_of c.loop-key.inner in
    let inside : i < length xs = omega arith in
    let room : length ys < 64 = omega (arith, c.as_slice-key-items.ensures.few, sifted_room key_of key_of (projected_key proj) xs i (key_listed proj) ys c.loop-key.invariant (omega arith)) in
    let listed = c.all_listed_in.ensures ∙ ap (list_all (is_listed proj)) c.columns.ensures in
    elim c.if-all_listed_in.branch [
      | then-all_listed_in w ↦ sifted_more key_of key_of (projected_key proj) xs i (key_listed proj) x ys w.projected.result c.loop-key.invariant inside c.key-item.is (sym listed ∙ w.if-all_listed_in.true) w.projected.ensures (ap list_of w.inner-is ∙ w.push.ensures.pushed room)
      | else-all_listed_in w ↦ sifted_skip key_of key_of (projected_key proj) xs i (key_listed proj) x ys c.loop-key.invariant inside c.key-item.is (sym listed ∙ w.if-all_listed_in.false) (ap list_of w.inner-is)
    ]
