use Rattle.std.proofs.Common.{List, ◌∙◌, subst}
use Rattle.names.specs.declared.column.Column.{Column}
use Rattle.schemas.specs.CheckNames.{Answered, NamesAnswer}
use Rattle.schemas.proofs.dfschema.DFSchema.check_names.Goals as goal

pub returns : goal.returns
returns c =
    subst (λ (l : List Column). Answered c.check_names.result (NamesAnswer l)) (c.as_slice.ensures.value ∙ c.columns.ensures) c.check_names.ensures
