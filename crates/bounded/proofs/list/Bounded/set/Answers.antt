use Rattle.std.proofs.Common.{◌≡◌, ℕ, length, sym, refl, arith}
use Rattle.std.proofs.lemmas.List.{set_past}
use Rattle.std.proofs.lemmas.Bool.Decides.{nat_tests}
use Rattle.bounded.specs.View.{list_of}
use Rattle.bounded.proofs.Lists.{length_list_of, take_set_in}
use Rattle.bounded.proofs.list.Bounded.set.Goals as goal

pub returns-then-i-self : goal.returns-then-i-self
returns-then-i-self g c =
    let self = c.args.self.now in
    let long : length (list_of self) ≡ self.len = length_list_of self in
    record {
      told = grind (arith, nat_tests);
      stored = take_set_in self.len self.items c.args.i c.args.x;
      unchanged = λ e. absurd (let z : ◌≡◌ {A = ℕ} 0 1 = cc in omega arith);
    }

pub returns-else-i-self : goal.returns-else-i-self
returns-else-i-self g c =
    let self = c.args.self.now in
    let long : length (list_of self) ≡ self.len = length_list_of self in
    record {
      told = grind (arith, nat_tests);
      stored = sym (set_past (list_of self) c.args.i c.args.x (omega arith));
      unchanged = λ _. refl {a = self};
    }
