use Rattle.std.proofs.Common.{rules, ap, ◌∙◌}
use Rattle.std.specs.List.{list_all}
use Rattle.std.proofs.lemmas.Iterator.{YieldsList-from_slice}
use Rattle.std.proofs.lemmas.Iterator.Search.{all_from_yields_List}
use Rattle.columns.proofs.column_list.ColumnList.all_pass_by.Goals as goal

pub returns : goal.returns
returns g c = λ p says.
    all_from_yields_List p _ _ c.all.result c.all.ensures.ran (YieldsList-from_slice c.as_slice.result.now cc) (λ x b q k. search (rules, says)) ∙ ap (list_all p) c.as_slice.ensures.value
