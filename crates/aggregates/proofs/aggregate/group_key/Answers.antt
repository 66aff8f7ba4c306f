use Rattle.std.proofs.Common.{◌≡◌, take, rules, sym, ◌∙◌}
use Rattle.std.proofs.lemmas.Iterator.{YieldsList-from_slice}
use Rattle.std.proofs.lemmas.Iterator.Search.{any_from_yields_List}
use Rattle.bounded.proofs.Viewed.{list_any_map}
use Rattle.aggregates.specs.Aggregates.{nullable_in, any_nullable}
use Rattle.aggregates.proofs.aggregate.group_key.Goals as goal

pub returns : goal.returns
returns c =
    let named = take c.args.count c.args.fields.now in
    let nullable : c.any-nullable.result ≡ any_nullable named =
    any_from_yields_List nullable_in _ _ c.any-nullable.result c.any-nullable.ensures.ran (YieldsList-from_slice named cc) (λ x b q k. search rules) ∙ sym (list_any_map nullable_in (λ b. b) named) in
    search rules
