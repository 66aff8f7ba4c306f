use Rattle.std.proofs.Common.{◌≡◌, rules, sym, subst}
use Rattle.columns.specs.Columns.{columns_of}
use Rattle.schemas.specs.Schemas.{dependencies_of}
use Rattle.reductions.specs.Meant.{texts_of, names_of}
use Rattle.aggregates.specs.Targets.{target_columns}
use Rattle.aggregates.specs.TargetLaws.{NamesFix}
use Rattle.aggregates.proofs.NamesFixed.{names_fix}
use Rattle.aggregates.proofs.target.get_target_functional_dependencies.Goals as goal

pub returns-else-is_empty-clause-names_fix : goal.returns-else-is_empty-clause-names_fix
returns-else-is_empty-clause-names_fix c =
    let texts = texts_of c.args.schema.now in
    let ds = dependencies_of c.args.schema.now in
    let names = names_of c.args.group_by_expr_names.now in
    let columns : columns_of c.target_columns-columns.result ≡ target_columns texts ds names = search rules in
    subst (NamesFix texts ds names) (sym columns) (names_fix texts ds names)
