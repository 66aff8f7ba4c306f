-- Rows that agree on the named columns agree on the targets.
use Rattle.std.proofs.Common.{◌≡◌, ℕ, true, ltb, List, length, arith}
use Rattle.std.proofs.lemmas.Bool.{and_parts, ltb-true}
use Rattle.dependencies.specs.Model.{Dep}
use Rattle.dependencies.specs.Tables.{cell_at, row_at}
use Rattle.reductions.specs.Determined.{is_determined}
use Rattle.reductions.specs.GroupBy.{all_columns}
use Rattle.reductions.proofs.Fixed.{determined_agree}
use Rattle.reductions.proofs.Listed.{all_at, all_by, counting_lists, kept_in, kept_passes}
use Rattle.aggregates.specs.Targets.{is_among, target_columns}
use Rattle.aggregates.specs.TargetLaws.{named_columns, NamesFix}

pub names_fix : (texts : List (List ℕ)) (ds : List Dep) (names : List (List ℕ)) → NamesFix texts ds names (target_columns texts ds names)
names_fix texts ds names t i j keeps hi hj agree =
    let Same : ℕ → Type 0 = λ c. cell_at (row_at t i) c ≡ cell_at (row_at t j) c in
    let named : (c : ℕ) → is_among texts names c ≡ true → Same c = λ c h.
    let inside = ltb-true c (length texts) (and_parts (ltb c (length texts)) _ h).0 in
    all_at Same (named_columns texts names) c agree (kept_in (is_among texts names) (all_columns texts) c (counting_lists 0 (length texts) c (omega arith) (omega arith)) h) in
    all_by Same (target_columns texts ds names) (λ c h. determined_agree (is_among texts names) ds t i j keeps hi hj named c (kept_passes (is_determined (is_among texts names) ds) (all_columns texts) c h))
