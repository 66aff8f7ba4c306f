use Rattle.std.proofs.Common.{is_some, sym, ap, ◌∙◌}
use Rattle.columns.specs.Columns.{columns_of}
use Rattle.columns.proofs.Places.{first_place_is}
use Rattle.columns.proofs.column_list.ColumnList.contains.Goals as goal

pub returns : goal.returns
returns c =
    c.is_some.ensures ∙ ap is_some (sym (first_place_is (columns_of c.args.self.now) c.args.column c.position.result c.position.ensures))
