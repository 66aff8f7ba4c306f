-- The key of all names, and that the dependencies of a grouping list no missing column.
use Rattle.std.proofs.Common.{◌≡◌, ℕ, zero, suc, ◌+◌, ◌<◌, ◌≤◌, Bool, true, false, cond, eqb, List, [], ◌∷◌, ◌++◌, map, length, filter, sym, ◌∙◌, arith}
use Rattle.std.specs.List.{range_with_len, AllByRecursion}
use Rattle.std.proofs.ByRecursion.{all_kept_by}
use Rattle.std.proofs.lemmas.Bool.{ne_eqb, cond-false}
use Rattle.dependencies.specs.Model.{Dep}
use Rattle.dependencies.specs.Tables.{Within, Valid}
use Rattle.schemas.specs.declared.dfschema.Field.{Field}
use Rattle.aggregates.specs.Aggregates.{is_carried, carried_dep, carried_deps, group_key, or_key, aggregated}
use Rattle.aggregates.specs.Targets.{is_among}

module _ (count : ℕ) (key : Dep) where
  pub key_added : (ds : List Dep) {grown : List Dep} → 0 < count → length ds ≡ 0 → grown ≡ ds ++ key ∷ [] → grown ≡ or_key count key ds
  key_added [] some none pushed = pushed ∙ sym (cond-false _ _ _ (ne_eqb count 0 (λ e. omega arith)))
  key_added (d ∷ ds) some none pushed = absurd (omega arith)

counting_below : (w a n : ℕ) → a + n ≤ w → AllByRecursion (λ c. c < w) (range_with_len a n)
counting_below w a zero h = tt
counting_below w a (suc n) h = (omega arith, counting_below w (a + 1) n (omega arith))

each_given : {X Y : Type 0} (P : Y → Type 0) (g : X → Y) (xs : List X) → ((x : X) → P (g x)) → AllByRecursion P (map g xs)
each_given P g [] h = tt
each_given P g (x ∷ xs) h = (h x, each_given P g xs h)

or_key_all : (P : Dep → Type 0) (count : ℕ) (key : Dep) (ds : List Dep) → P key → AllByRecursion P ds → AllByRecursion P (or_key count key ds)
or_key_all P count key [] k all = go (eqb count 0)
  where
    go : (b : Bool) → AllByRecursion P (cond b [] (key ∷ []))
    go true = tt
    go false = (k, tt)
or_key_all P count key (d ∷ ds) k all = all

module _ (texts : List (List ℕ)) (ds : List Dep) (names : List (List ℕ)) (outs : List Field) (few : length names ≤ length outs) where
  abbrev w : ℕ
  w = length outs

  all : AllByRecursion (λ c. c < w) (range_with_len 0 w)
  all = counting_below w 0 w (omega arith)

  some : AllByRecursion (λ c. c < w) (range_with_len 0 (length names))
  some = counting_below w 0 (length names) (omega arith)

  carried_valid : Valid w (carried_deps texts ds names (range_with_len 0 w))
  carried_valid =
      each_given (Within w) (carried_dep texts ds names (range_with_len 0 w)) (filter (is_carried texts names) ds)
      (λ d. record { sources = all_kept_by (is_among names (map _ d.sources)) (λ c. c < w) (range_with_len 0 (length names)) some; targets = all })

  pub aggregated_valid : Valid w (aggregated texts ds names outs)
  aggregated_valid = or_key_all (Within w) (length names) (group_key (length names) outs) (carried_deps texts ds names (range_with_len 0 w)) (record { sources = some; targets = all }) carried_valid
