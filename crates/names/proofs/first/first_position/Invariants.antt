use Rattle.std.specs.List.{AllWithin}
use Rattle.names.proofs.first.first_position.Given as goal

abbrev pub invariant-loop-i : goal.invariant-loop-i
invariant-loop-i g l = AllWithin (λ y. ¬ g.T.SameAs.is_same y l.x) l.list 0 l.i
