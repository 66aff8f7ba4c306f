use Rattle.std.proofs.Common.{rules, ◌&&◌, ap, ◌∙◌}
use Rattle.std.specs.List.{list_all}
use Rattle.dependencies.specs.View.{dep_of}
use Rattle.columns.specs.Columns.{is_listed}
use Rattle.reductions.proofs.determined.determines.Goals as goal

pub returns-then-contains : goal.returns-then-contains
returns-then-contains g c = λ p says.
    let target = c.if-contains.ensures ∙ ap (λ l. is_listed l c.args.column) c.target_indices.ensures in
    c.all_pass_by.ensures p (λ x b q. search (rules, says)) ∙ ap (list_all p) c.source_indices.ensures ∙ ap (λ b. b && list_all p (dep_of c.args.dependency.now).sources) target
