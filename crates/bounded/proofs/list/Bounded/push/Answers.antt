use Rattle.std.proofs.Common.{arith}
use Rattle.std.proofs.lemmas.List.{take_more_set}
use Rattle.bounded.proofs.Lists.{length_list_of}
use Rattle.bounded.proofs.list.Bounded.push.Goals as goal

pub returns : goal.returns
returns g c =
    let self = c.args.self.now in
    let grown = take_more_set self.items self.len c.args.x (omega arith) in
    record { cases = (omega (arith, length_list_of self), grown); pushed = λ _. grown }
