-- When an entry is dropped, by what its name means.
use Rattle.std.proofs.Common.{◌≡◌, ℕ, false, List, Some, None, Option, ap}
use Rattle.columns.specs.Columns.{is_listed}
use Rattle.dependencies.specs.Model.{Dep}
use Rattle.reductions.specs.Meant.{column_named}
use Rattle.reductions.specs.Determined.{is_determined}
use Rattle.reductions.specs.Sorts.{is_dropped}

module _ (texts : List (List ℕ)) (ds : List Dep) (known n : List ℕ) where
  pub dropped_known : (c : ℕ) → column_named texts n ≡ Some c → is_dropped texts ds known n ≡ is_determined (is_listed known) ds c
  dropped_known c e = ap (λ (r : Option ℕ). elim r [ None ↦ false | Some c ↦ is_determined (is_listed known) ds c ]) e

  pub dropped_unknown : column_named texts n ≡ None → is_dropped texts ds known n ≡ false
  dropped_unknown e = ap (λ (r : Option ℕ). elim r [ None ↦ false | Some c ↦ is_determined (is_listed known) ds c ]) e
