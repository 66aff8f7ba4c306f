use Rattle.std.proofs.Common.{map}
use Rattle.names.specs.Names.{text_of}
use Rattle.columns.specs.Columns.{columns_of}
use Rattle.dependencies.specs.View.{dep_of}
use Rattle.reductions.proofs.Marked.{Marked}
use Rattle.reductions.proofs.sort.get_required_sort_exprs_indices.Given as goal

abbrev pub invariant-loop-sort_expr : goal.invariant-loop-sort_expr
invariant-loop-sort_expr l = Marked (map text_of l.field_names) (map dep_of l.dependencies) l.initial.sort_exprs l.sort_exprs (columns_of l.known) l.sort_expr-index
