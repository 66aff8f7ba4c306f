use Rattle.std.proofs.Common.{◌≡◌, vec_len}
use Rattle.open_events.proofs.relation.Relation.table.Given as goal

abbrev pub invariant-loop-name : goal.invariant-loop-name
invariant-loop-name l = vec_len l.columns ≡ l.name-index
