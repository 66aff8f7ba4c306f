use Rattle.std.proofs.Common.{rules}
use Rattle.std.proofs.lemmas.Iterator.{YieldsList-from_slice}
use Rattle.std.proofs.lemmas.Iterator.Consumers.{YieldsList-from_copied}
use Rattle.schemas.proofs.Least.{least_found}
use Rattle.schemas.proofs.check_names.least_ambiguous.Goals as goal

pub returns : goal.returns
returns c =
    let cs = c.args.columns.now in
    least_found cs c.filter.result _ c.min_by.result (YieldsList-from_copied (YieldsList-from_slice cs (cc))) c.filter.ensures.closure c.min_by.ensures.ran (λ x b q k. search rules) (λ x y o q k. search rules)
