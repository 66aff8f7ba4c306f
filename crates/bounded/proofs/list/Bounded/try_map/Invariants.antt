use Rattle.std.proofs.Common.{take, Ok}
use Rattle.std.specs.List.{AllZip}
use Rattle.bounded.specs.View.{list_of}
use Rattle.bounded.proofs.list.Bounded.try_map.Given as goal

abbrev pub invariant-loop-x : goal.invariant-loop-x
invariant-loop-x g l = AllZip (λ x y. g.F.Fn.post l.f (x, tt) (Ok y)) (take l.x-index l.x-items) (list_of l.mapped)
