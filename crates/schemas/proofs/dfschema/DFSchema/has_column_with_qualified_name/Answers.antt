use Rattle.std.proofs.Common.{◌≡◌, is_some, sym, ap, ◌∙◌}
use Rattle.std.specs.List.{list_any}
use Rattle.names.specs.Columns.{column_of}
use Rattle.names.specs.Names.{text_of}
use Rattle.names.specs.References.{parts_of}
use Rattle.names.proofs.FirstPlaces.{first_where_is, found_any}
use Rattle.names.proofs.Same.{parts_and_text_decide}
use Rattle.schemas.specs.Lookups.{has_qualified_name}
use Rattle.schemas.specs.declared.dfschema.Field.{Field}
use Rattle.schemas.proofs.dfschema.DFSchema.has_column_with_qualified_name.Goals as goal

pub returns : goal.returns
returns c =
    let q = c.args.qualifier.now in
    let n = c.args.name.now in
    let fs = c.fields.result.now in
    let test = has_qualified_name q n in
    let P : Field → Type 0 = λ f. column_of f.column ≡ (parts_of q, text_of n) in
    c.is_some.ensures ∙ ap is_some (sym (first_where_is test P (λ f. parts_and_text_decide (column_of f.column) (parts_of q, text_of n)) fs c.first_position.result c.first_position.ensures)) ∙ found_any test fs ∙ ap (list_any test) c.fields.ensures.value
