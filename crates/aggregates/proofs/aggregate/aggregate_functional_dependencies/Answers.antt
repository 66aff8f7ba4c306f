use Rattle.std.proofs.Common.{◌≡◌, ◌≤◌, map, length, rules, sym, ap, ◌∙◌, subst, arith}
use Rattle.std.proofs.lemmas.List.{length-map}
use Rattle.names.specs.Names.{text_of}
use Rattle.dependencies.specs.Tables.{Valid}
use Rattle.dependencies.specs.View.{dep_of, deps_of}
use Rattle.schemas.specs.Schemas.{fields_of, dependencies_of}
use Rattle.reductions.specs.Meant.{texts_of, names_of}
use Rattle.aggregates.specs.Aggregates.{aggregated}
use Rattle.aggregates.proofs.Keyed.{aggregated_valid}
use Rattle.aggregates.proofs.aggregate.aggregate_functional_dependencies.Goals as goal

pub returns : goal.returns
returns c =
    let given = c.args.group_by_expr_names.now in
    let names = names_of given in
    let texts = texts_of c.args.aggr_input_schema.now in
    let ds = dependencies_of c.args.aggr_input_schema.now in
    let outs = fields_of c.args.aggr_schema.now in
    let same_outs = c.fields-fields.ensures.value in
    let few : length names ≤ length outs = omega (arith, length-map given text_of, ap length same_outs, c.if-count-fields.false) in
    let same_texts : map text_of c.as_slice.result.now ≡ texts = ap (map text_of) c.as_slice.ensures.value ∙ c.field_names-field_names.ensures in
    let same_ds : map dep_of c.as_slice-2.result.now ≡ ds = c.as_slice-2.ensures.value ∙ c.functional_dependencies.ensures in
    let same : deps_of c.aggregated.result ≡ aggregated texts ds names outs = c.aggregated.ensures ∙ (λ i. aggregated (same_texts i) (same_ds i) names (same_outs i)) in
    record { answer = (search rules, same); valid_for_output = subst (Valid (length outs)) (sym same) (aggregated_valid texts ds names outs few) }
