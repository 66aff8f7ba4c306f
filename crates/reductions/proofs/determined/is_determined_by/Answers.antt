use Rattle.std.proofs.Common.{rules, sym, ◌∙◌}
use Rattle.std.proofs.lemmas.Iterator.{YieldsList-from_slice}
use Rattle.std.proofs.lemmas.Iterator.Search.{any_from_yields_List}
use Rattle.dependencies.specs.View.{dep_of}
use Rattle.reductions.specs.Determined.{determined_by}
use Rattle.bounded.proofs.Viewed.{list_any_map}
use Rattle.reductions.proofs.determined.is_determined_by.Goals as goal

pub returns : goal.returns
returns g c = λ p says.
    any_from_yields_List (λ d. determined_by p c.args.column (dep_of d)) _ _ c.any.result c.any.ensures.ran (YieldsList-from_slice c.args.dependencies.now cc) (λ x b q k. search (rules, says))
    ∙ sym (list_any_map dep_of (determined_by p c.args.column) c.args.dependencies.now)
