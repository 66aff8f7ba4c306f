use Rattle.std.proofs.Common.{List, map, Some, subst, inr}
use Rattle.std.proofs.lemmas.Result.{err_from_is_err_and}
use Rattle.schemas.specs.CheckNames.{NamesAnswer}
use Rattle.schemas.specs.Schemas.{column_in}
use Rattle.schemas.specs.declared.dfschema.Field.{Field}
use Rattle.schemas.proofs.dfschema.DFSchema.new.Goals as goal

pub returns-in_err-check_names : goal.returns-in_err-check_names
returns-in_err-check_names c =
    let p = err_from_is_err_and c.from_residual-in_err-check_names.result c.from_residual-in_err-check_names.ensures.1 in
    let said = c.in_ok-schema.ensures in
    let e = c.in_err-check_names.field-0.0 in
    rw (p.1, p.2) (inr (said.0, subst (λ (fs : List Field). NamesAnswer (map column_in fs) (Some e)) said.1.0 c.in_err-check_names.ensures))
