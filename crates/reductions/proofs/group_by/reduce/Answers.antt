use Rattle.std.proofs.Common.{◌≡◌, rules, true, false, sym, ◌∙◌}
use Rattle.std.specs.List.{list_all}
use Rattle.columns.specs.Columns.{columns_of, is_listed}
use Rattle.dependencies.specs.View.{dep_of}
use Rattle.reductions.specs.GroupBy.{reduced_by}
use Rattle.reductions.proofs.Reduced.{reduced_more, reduces, leaves}
use Rattle.reductions.proofs.group_by.reduce.Goals as goal
use Rattle.reductions.proofs.group_by.reduce.Goals.{then-all_listed_in, else-all_listed_in}

pub loop-dependency-preserved : goal.loop-dependency-preserved
loop-dependency-preserved c =
    let all = columns_of c.args.all.now in
    let cs = columns_of c.loop-dependency.required in
    let ds = c.args.dependencies.now in
    let d = c.dependency-item.result in
    let step = reduced_more all cs ds c.loop-dependency.dependency-index d c.loop-dependency-test.true c.dependency-item.is in
    elim c.if-all_listed_in.branch [
      | then-all_listed_in w ↦
          let fires : list_all (is_listed cs) (dep_of d).sources ≡ true = search rules in
          let next : columns_of w.merge_and_order_indices-required.result ≡ reduced_by all cs (dep_of d) = search (rules, reduces) in
          rw w.required-is (step _ next ∙ c.loop-dependency.invariant)
      | else-all_listed_in w ↦
          let rests : list_all (is_listed cs) (dep_of d).sources ≡ false = search rules in
          rw w.required-is (step _ (sym (leaves all cs (dep_of d) rests)) ∙ c.loop-dependency.invariant)
    ]
