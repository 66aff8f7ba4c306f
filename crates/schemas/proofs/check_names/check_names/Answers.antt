use Rattle.std.proofs.Common.{inr}
use Rattle.schemas.proofs.check_names.check_names.Goals as goal

pub returns-in-Some-least_ambiguous : goal.returns-in-Some-least_ambiguous
returns-in-Some-least_ambiguous c = inr (c.in_default.ensures, (c.in-Some-least_ambiguous.field, c.in-Some-least_ambiguous.ensures, c.into-in-Some-least_ambiguous.ensures))
