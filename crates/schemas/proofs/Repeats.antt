-- The first column that repeats an earlier one.
use Rattle.std.proofs.Common.{◌≡◌, ℕ, ◌+◌, ◌<◌, Bool, true, false, List, [], ◌∷◌, length, get_or, take, Some, None, Option, sym, ap, ◌∙◌, subst, zero-add, arith, MatchOption}
use Rattle.std.specs.List.{list_any, enumerate_from, HoldsAt, AllWithin}
use Rattle.std.proofs.lemmas.Bool.{false≢true}
use Rattle.std.proofs.lemmas.List.{get_or-take, get_or_default, length-take-le}
use Rattle.std.proofs.lemmas.List.Folds.{Any-from_list_any, list_any_at}
use Rattle.std.proofs.lemmas.List.FromFn.{length-enumerate_from, get_or-enumerate_from}
use Rattle.names.specs.contracts.column.ColumnPartialEq.TheImpl as columns
use Rattle.names.specs.declared.column.Column.{Column}
use Rattle.names.specs.Columns.{column_of}
use Rattle.names.proofs.Same.{column_decides}
use Rattle.schemas.specs.CheckNames.{SameAt, DistinctTo, RepeatAt}

-- whether a column like that at a place comes before it
abbrev pub Said : List Column → Bool → ℕ × Column → Type 0
Said cs b p = list_any (λ y. columns.ghosts.eq y p.1) (take p.0 cs) ≡ b

module _ (cs : List Column) (c : Column) where
  said_at : (b : Bool) (k : ℕ) → k < length cs → Said cs b (get_or (enumerate_from 0 cs) k (0, c)) → Said cs b (k, get_or cs k c)
  said_at b k h said = subst (Said cs b) (get_or-enumerate_from 0 cs k (0, c) h ∙ ap (λ n. (n, get_or cs k c)) (zero-add k)) said

  repeats : (k : ℕ) → k < length cs → Said cs true (k, get_or cs k c) → (j : ℕ) × (j < k) × SameAt cs j k
  repeats k h said =
      let x = get_or cs k c in
      let any = Any-from_list_any (λ y. columns.ghosts.eq y x) (take k cs) said in
      let j = any.0 in
      let before : j < k = omega (arith, any.2, length-take-le k cs (omega arith)) in (
        j,
        before,
        λ d. ap column_of (get_or_default cs j d any.1 (omega arith) ∙ sym (get_or-take k cs j any.1 before) ∙ any.3) ∙ (column_decides any.1 x).0 any.4
            ∙ ap column_of (get_or_default cs k c d h),
      )

  distinct : (n : ℕ) → n < length cs + 1 → AllWithin (Said cs false) (enumerate_from 0 cs) 0 n → DistinctTo cs n
  distinct n few none i j hj hi same =
      let x = get_or cs i c in
      let said = said_at false i (omega arith) (none i (0, c) (omega arith) hi) in
      let here : j < length (take i cs) = omega (arith, length-take-le i cs (omega arith)) in
      false≢true (sym said ∙ list_any_at (λ y. columns.ghosts.eq y x) (take i cs) j c here ((column_decides (get_or (take i cs) j c) x).1 (ap column_of (get_or-take i cs j c hj) ∙ same c)))

  told : (r : Option ℕ) → MatchOption r (AllWithin (Said cs false) (enumerate_from 0 cs) 0 (length (enumerate_from 0 cs))) (λ i. (i < length (enumerate_from 0 cs)) × HoldsAt (Said cs true) (enumerate_from 0 cs) i × AllWithin (Said cs false) (enumerate_from 0 cs) 0 i) → MatchOption r (DistinctTo cs (length cs)) (RepeatAt cs)
  told None h = distinct (length cs) (omega arith) (subst (AllWithin (Said cs false) (enumerate_from 0 cs) 0) (length-enumerate_from 0 cs) h)
  told (Some i) h =
      let within : i < length cs = omega (arith, h.0, length-enumerate_from 0 cs) in
      record { within = within; before = distinct i (omega arith) h.2; repeats = repeats i within (said_at true i within (h.1 (0, c))) }

pub first_repeat_is : (cs : List Column) (r : Option ℕ) → MatchOption r (AllWithin (Said cs false) (enumerate_from 0 cs) 0 (length (enumerate_from 0 cs))) (λ i. (i < length (enumerate_from 0 cs)) × HoldsAt (Said cs true) (enumerate_from 0 cs) i × AllWithin (Said cs false) (enumerate_from 0 cs) 0 i) → MatchOption r (DistinctTo cs (length cs)) (RepeatAt cs)
first_repeat_is [] None h = λ i j hj hi same. omega arith
first_repeat_is [] (Some i) h = absurd (omega (arith, h.0))
first_repeat_is (c ∷ cs) r h = told (c ∷ cs) c r h
