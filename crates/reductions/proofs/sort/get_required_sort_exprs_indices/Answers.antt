use Rattle.std.proofs.Common.{◌≡◌, ◌<◌, cond, not, [], ◌∷◌, ◌++◌, map, length, get_or, Some, None, rules, sym, ap, ◌∙◌, arith}
use Rattle.std.specs.Option.{option_to_list as optional}
use Rattle.std.proofs.lemmas.List.{append-nil}
use Rattle.names.specs.Names.{text_of}
use Rattle.columns.specs.Columns.{columns_of, is_listed}
use Rattle.columns.proofs.Sizes.{room_pushes}
use Rattle.dependencies.specs.View.{dep_of}
use Rattle.reductions.specs.Determined.{is_determined}
use Rattle.reductions.specs.Meant.{column_named}
use Rattle.reductions.specs.Sorts.{sort_name}
use Rattle.reductions.proofs.Dropped.{dropped_known, dropped_unknown}
use Rattle.reductions.proofs.Marked.{marked_more, marked_all}
use Rattle.reductions.proofs.SortTrue.{compares_alike}
use Rattle.reductions.proofs.sort.get_required_sort_exprs_indices.Goals as goal
use Rattle.reductions.proofs.sort.get_required_sort_exprs_indices.Goals.{then-sort_expr, else-sort_expr}

pub loop-sort_expr-preserved-in_default : goal.loop-sort_expr-preserved-in_default
loop-sort_expr-preserved-in_default c =
    let texts = map text_of c.as_slice-field_names.result.now in
    let ds = map dep_of c.as_slice-dependencies.result.now in
    let known = columns_of c.loop-sort_expr.known in
    let e = c.sort_expr-item.result in
    let name = sort_name (get_or c.loop-sort_expr.sort_exprs c.loop-sort_expr.sort_expr-index e) in
    let inside : c.loop-sort_expr.sort_expr-index < length c.loop-sort_expr.sort_exprs = omega (arith, c.loop-sort_expr-test.true, c.loop-sort_expr.auto.sort_exprs) in
    let unknown : column_named texts name ≡ None = sym c.in_default.ensures.found in
    marked_more e _ c.loop-sort_expr.invariant inside (ap not (sym (dropped_unknown texts ds known name unknown))) (sym (ap (λ r. known ++ optional r) unknown ∙ append-nil known))

pub loop-sort_expr-preserved : goal.loop-sort_expr-preserved
loop-sort_expr-preserved c =
    let texts = map text_of c.as_slice-field_names.result.now in
    let ds = map dep_of c.as_slice-dependencies.result.now in
    let known = columns_of c.loop-sort_expr.known in
    let e = c.sort_expr-item.result in
    let name = sort_name (get_or c.loop-sort_expr.sort_exprs c.loop-sort_expr.sort_expr-index e) in
    let inside : c.loop-sort_expr.sort_expr-index < length c.loop-sort_expr.sort_exprs = omega (arith, c.loop-sort_expr-test.true, c.loop-sort_expr.auto.sort_exprs) in
    let column = c.in-Some.place in
    let means : column_named texts name ≡ Some column = sym c.in-Some.ensures.found in
    let determined : c.is_determined_by.result ≡ is_determined (is_listed known) ds column = c.is_determined_by.ensures (is_listed known) (λ x b k. search rules) in
    let kept = not c.is_determined_by.result in
    let room : length known < 64 = omega (arith, c.loop-sort_expr.invariant.few, c.loop-sort_expr-test.true, c.if-sort_exprs-gt-MAX_COLUMNS.false) in
    let grown : columns_of c.if-sort_expr.known ≡ known ++ cond kept (column ∷ []) [] = elim c.if-sort_expr.branch [
      | then-sort_expr w ↦ rw w.known-is (room_pushes w.push.result 64 known _ _ w.push.ensures room ∙ ap (λ b. known ++ cond b (column ∷ []) []) (sym w.if-sort_expr.true))
      | else-sort_expr w ↦ rw w.known-is (sym (append-nil known) ∙ ap (λ b. known ++ cond b (column ∷ []) []) (sym w.if-sort_expr.false))
    ] in
    marked_more e _ c.loop-sort_expr.invariant inside (ap not (determined ∙ sym (dropped_known texts ds known name column means))) (grown ∙ ap (λ r. known ++ cond kept (optional r) []) (sym means))

pub returns-clause-compares_alike : goal.returns-clause-compares_alike
returns-clause-compares_alike c =
    let texts = ap (map text_of) c.as_slice-field_names.ensures.value ∙ c.field_names-field_names.ensures in
    let deps = c.as_slice-dependencies.ensures.value ∙ c.functional_dependencies.ensures in
    compares_alike _ _ _ _ (marked_all c.loop-sort_expr.invariant (omega (arith, c.loop-sort_expr-test.false, c.loop-sort_expr.auto.sort_exprs)) texts deps)
