use Rattle.std.proofs.Common.{take}
use Rattle.std.specs.Fn.{FnReturnsAt}
use Rattle.bounded.specs.Calls.{IsKeptBy}
use Rattle.bounded.specs.View.{list_of}
use Rattle.bounded.proofs.list.Bounded.retain.Given as goal

abbrev pub invariant-loop-x : goal.invariant-loop-x
invariant-loop-x g l = IsKeptBy (FnReturnsAt g.F.Fn l.f) (take l.x-index l.x-items) (list_of l.self)
