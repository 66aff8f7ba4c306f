use Rattle.std.proofs.Common.{◌≡◌, ◌&&◌, length, rules, sym, ap, ◌∙◌}
use Rattle.std.specs.List.{list_all}
use Rattle.std.proofs.lemmas.Bool.{eq-eqb}
use Rattle.dependencies.specs.View.{dep_of}
use Rattle.aggregates.specs.Aggregates.{matched_places}
use Rattle.aggregates.specs.Grouped.{texts_in, names_in}
use Rattle.aggregates.specs.Targets.{is_among}
use Rattle.aggregates.proofs.grouping.Grouping.is_carried.Goals as goal

pub returns-then-len : goal.returns-then-len
returns-then-len c =
    let texts = texts_in c.args.self.now in
    let names = names_in c.args.self.now in
    let d = dep_of c.args.dependency.now in
    let p = is_among texts names in
    let named = c.all_pass_by.ensures p (λ x b q. search rules) in
    let as_many : length (matched_places texts names d.sources) ≡ length d.sources = search rules in
    named ∙ ap (list_all p) c.source_indices-sources.ensures ∙ ap (λ b. b && list_all p d.sources) (sym (eq-eqb (length (matched_places texts names d.sources)) (length d.sources) as_many))
