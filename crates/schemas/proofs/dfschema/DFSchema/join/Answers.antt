use Rattle.std.proofs.Common.{rules}
use Rattle.schemas.specs.Schemas.{fields_of}
use Rattle.schemas.proofs.Clashing.{join_clashes}
use Rattle.schemas.proofs.dfschema.DFSchema.join.Goals as goal

pub returns-clause-joined_unless_clash : goal.returns-clause-joined_unless_clash
returns-clause-joined_unless_clash c = join_clashes (fields_of c.args.self.now) (fields_of c.args.schema.now) c.new.result (search rules)
