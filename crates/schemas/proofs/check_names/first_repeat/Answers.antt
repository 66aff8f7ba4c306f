use Rattle.std.proofs.Common.{true, false, rules}
use Rattle.std.proofs.lemmas.Iterator.{IsFirst-from_position, YieldsList-from_slice}
use Rattle.std.proofs.lemmas.Iterator.Consumers.{YieldsList-from_enumerate}
use Rattle.schemas.proofs.Repeats.{Said, first_repeat_is}
use Rattle.schemas.proofs.check_names.first_repeat.Goals as goal

pub returns : goal.returns
returns c =
    let cs = c.args.columns.now in
    first_repeat_is cs c.position.result (IsFirst-from_position _ _ c.position.result (Said cs true) (Said cs false) c.position.ensures.ran (YieldsList-from_enumerate (YieldsList-from_slice cs (cc)) (cc)) (λ x q k. search rules) (λ x q k. search rules))
