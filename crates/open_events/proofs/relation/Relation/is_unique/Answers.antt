use Rattle.std.proofs.Common.{rules, ap, sym, ◌∙◌}
use Rattle.std.specs.List.{list_any}
use Rattle.std.proofs.lemmas.Iterator.{YieldsList-from_slice}
use Rattle.std.proofs.lemmas.Iterator.Search.{any_from_yields_List}
use Rattle.bounded.proofs.Viewed.{list_any_map}
use Rattle.dependencies.specs.View.{dep_of}
use Rattle.open_events.specs.Unique.{is_key_on}
use Rattle.open_events.proofs.relation.Relation.is_unique.Goals as goal

pub returns : goal.returns
returns c =
    any_from_yields_List (λ d. is_key_on c.args.column (dep_of d)) _ _ c.any.result c.any.ensures.ran (YieldsList-from_slice c.as_slice.result.now cc) (λ x b q k. search rules)
    ∙ sym (list_any_map dep_of (is_key_on c.args.column) c.as_slice.result.now) ∙ ap (list_any (is_key_on c.args.column)) c.as_slice.ensures.value
