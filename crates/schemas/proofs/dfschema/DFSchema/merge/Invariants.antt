use Rattle.std.proofs.Common.{◌≡◌, take}
use Rattle.bounded.specs.View.{list_of}
use Rattle.schemas.specs.Merges.{merged}
use Rattle.schemas.specs.Schemas.{fields_of}
use Rattle.schemas.proofs.dfschema.DFSchema.merge.Given as goal

abbrev pub invariant-loop-field : goal.invariant-loop-field
invariant-loop-field l = list_of l.fields ≡ merged (fields_of l.self) (take l.field-index l.field-items)
