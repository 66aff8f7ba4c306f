use Rattle.std.proofs.Common.{◌≡◌, ◌<◌, true, false, map, length, Some, rules, sym, ap, ◌∙◌, subst, arith}
use Rattle.std.specs.Str.{bytes_eq}
use Rattle.std.proofs.lemmas.List.{length-map}
use Rattle.std.proofs.lemmas.Bool.{cond-true, cond-false, ne_eqb, eq-eqb}
use Rattle.bounded.specs.View.{list_of}
use Rattle.names.specs.FirstPlaces.{first_places}
use Rattle.names.specs.Names.{text_of}
use Rattle.names.proofs.FirstPlaces.{places_few, all_listed_is}
use Rattle.columns.specs.Columns.{columns_of}
use Rattle.schemas.specs.Schemas.{dependencies_of}
use Rattle.reductions.specs.GroupBy.{required_columns}
use Rattle.reductions.specs.Meant.{texts_of, names_of, meant, all_meant, text_at}
use Rattle.reductions.specs.GroupByLaws.{KeptDecide, PositionsIn}
use Rattle.reductions.proofs.KeptNames.{kept_decide, positions_in}
use Rattle.reductions.proofs.group_by.get_required_group_by_exprs_indices.Goals as goal

-- what holds on both ways after the first test
pub returns-then-len-group_by_expr_names-clause-answer : goal.returns-then-len-group_by_expr_names-clause-answer
returns-then-len-group_by_expr_names-clause-answer c =
    let names = names_of c.args.group_by_expr_names.now in
    let texts = texts_of c.args.schema.now in
    let columns : columns_of c.places-columns.result ≡ meant texts names = search rules in
    let fewer : length (meant texts names) < length names = omega (arith, ap length columns, c.len.ensures.count, length-map c.args.group_by_expr_names.now text_of) in
    let lost : all_meant texts names ≡ false = sym (all_listed_is bytes_eq texts names) ∙ ne_eqb (length (meant texts names)) (length names) (λ e. omega arith) in
    (search rules, sym (cond-false _ _ _ lost))

pub returns : goal.returns
returns c =
    let names = names_of c.args.group_by_expr_names.now in
    let texts = texts_of c.args.schema.now in
    let ds = dependencies_of c.args.schema.now in
    let fields = list_of c.field_names-field_names.result in
    let columns : columns_of c.places-columns.result ≡ meant texts names = search rules in
    let as_many : length (meant texts names) ≡ length names = omega (arith, ap length columns, c.len.ensures.count, length-map c.args.group_by_expr_names.now text_of, places_few bytes_eq texts names) in
    let known : all_meant texts names ≡ true = sym (all_listed_is bytes_eq texts names) ∙ eq-eqb (length (meant texts names)) (length names) as_many in
    let wide : length fields ≡ length texts = sym (length-map fields text_of) ∙ ap length c.field_names-field_names.ensures in
    let left : columns_of c.reduce.result ≡ required_columns texts ds names = search rules in
    let texted : map text_of c.as_slice-3.result.now ≡ map (text_at texts) (required_columns texts ds names) = search rules in
    let told : columns_of c.places.result ≡ first_places bytes_eq names (map (text_at texts) (required_columns texts ds names)) = c.places.ensures ∙ ap (first_places bytes_eq names) texted in
    record {
      answer = (search rules, ap Some told ∙ sym (cond-true _ _ _ known));
      kept_decide = subst (KeptDecide texts ds names) (sym told) (kept_decide texts names ds);
      positions_asked = subst (PositionsIn names) (sym told) (positions_in texts names ds);
    }
