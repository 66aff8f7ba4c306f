use Rattle.std.proofs.Common.{◌≡◌, ◌++◌, [], ◌∷◌, length, rules, sym, ap, ◌∙◌, arith}
use Rattle.std.specs.List.{range_with_len}
use Rattle.std.proofs.lemmas.Bool.{eqb-true}
use Rattle.std.proofs.lemmas.List.{length-map}
use Rattle.names.specs.Names.{text_of}
use Rattle.columns.proofs.Sizes.{room_pushes}
use Rattle.dependencies.specs.View.{dep_of, deps_of}
use Rattle.aggregates.specs.Aggregates.{carried_deps, group_key}
use Rattle.aggregates.specs.Grouped.{texts_in, deps_in, names_in}
use Rattle.aggregates.proofs.Keyed.{key_added}
use Rattle.aggregates.proofs.grouping.Grouping.aggregated.Goals as goal

pub returns-then-is_empty : goal.returns-then-is_empty
returns-then-is_empty c =
    let g = c.args.self.now in
    let names = names_in g in
    let outs = c.args.fields.now in
    let many = length-map g.names.now text_of in
    let all = carried_deps (texts_in g) (deps_in g) names (range_with_len 0 (length outs)) in
    let carried : deps_of c.carried_dependencies-output.result ≡ all = search rules in
    let none : length (deps_of c.carried_dependencies-output.result) ≡ 0 = sym (ap length c.as_slice.ensures.value) ∙ length-map c.as_slice.result.now dep_of ∙ eqb-true _ _ (sym c.if-is_empty.ensures) in
    let key : dep_of c.group_key.result ≡ group_key (length names) outs = c.group_key.ensures ∙ ap (λ n. group_key n outs) (sym many) in
    let pushed = room_pushes c.push.result 32 (deps_of c.carried_dependencies-output.result) _ _ c.push.ensures (omega (arith, none)) in
    key_added (length names) (group_key (length names) outs) all (omega (arith, many, c.if-count-gt0.true)) (sym (ap length carried) ∙ none) (pushed ∙ ap (λ l. l ++ dep_of c.group_key.result ∷ []) carried ∙ ap (λ k. all ++ k ∷ []) key)
