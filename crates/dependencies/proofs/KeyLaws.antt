-- The dependencies of keys are kept exactly by the tables that have the keys.
use Rattle.std.proofs.Common.{◌≡◌, ℕ, List, [], ◌∷◌, map, refl, subst, arith}
use Rattle.std.specs.List.{AllByRecursion}
use Rattle.constraints.specs.Keys.{Key, primary_key, unique_key}
use Rattle.dependencies.specs.Keys.{key_dependency}
use Rattle.dependencies.specs.KeyTables.{HasKey, StandForKeys}
use Rattle.dependencies.specs.Tables.{Table, row_at, Agree, Fixes, Once, Keeps, KeepsAll}
use Rattle.dependencies.proofs.Shown.{agree_itself}

module _ (all : List ℕ) (t : Table) where
  -- a row that agrees with itself alone fixes every column
  once_fixes : (k : Key) → Once (key_dependency all k).sources t → Fixes (key_dependency all k) t
  once_fixes (primary_key cs) once i j hi hj a = subst (λ (x : ℕ). Agree all (row_at t i) (row_at t x)) (once i j hi hj a) (agree_itself all (row_at t i))
  once_fixes (unique_key cs) once i j hi hj a = subst (λ (x : ℕ). Agree all (row_at t i) (row_at t x)) (once i j hi hj a) (agree_itself all (row_at t i))

  has : (k : Key) → Keeps (key_dependency all k) t → HasKey t k
  has (primary_key cs) kept = (kept.once refl, kept.never_null refl)
  has (unique_key cs) kept = kept.once refl

  keeps : (k : Key) → HasKey t k → Keeps (key_dependency all k) t
  keeps (primary_key cs) h = record { fixes = once_fixes (primary_key cs) h.0; once = λ _. h.0; never_null = λ _. h.1 }
  keeps (unique_key cs) h = record { fixes = once_fixes (unique_key cs) h; once = λ _. h; never_null = λ e. absurd (let z : ◌≡◌ {A = ℕ} 0 1 = cc in omega arith) }

  have : (keys : List Key) → KeepsAll (map (key_dependency all) keys) t → AllByRecursion (HasKey t) keys
  have [] kept = tt
  have (k ∷ keys) kept = (has k kept.0, have keys kept.1)

  keep : (keys : List Key) → AllByRecursion (HasKey t) keys → KeepsAll (map (key_dependency all) keys) t
  keep [] h = tt
  keep (k ∷ keys) h = (keeps k h.0, keep keys h.1)

pub keys_stand : (all : List ℕ) (keys : List Key) → StandForKeys keys (map (key_dependency all) keys)
keys_stand all keys t = (have all t keys, keep all t keys)
