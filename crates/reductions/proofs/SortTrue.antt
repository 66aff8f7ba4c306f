-- Two rows compare by the kept entries as by all.
use Rattle.std.proofs.Common.{◌≡◌, ℕ, zero, suc, ◌+◌, ◌<◌, Bool, true, false, cond, List, [], ◌∷◌, ◌++◌, length, Some, None, filter, Option, Ordering, Less, Equal, Greater, sym, refl, ap, ◌∙◌, subst, arith}
use Rattle.std.specs.List.{range_with_len, AllByRecursion}
use Rattle.std.specs.Ordering.{ordering_then}
use Rattle.std.specs.Option.{option_to_list as optional}
use Rattle.std.proofs.ByRecursion.{All-append}
use Rattle.std.proofs.lemmas.List.{append-nil}
use Rattle.std.proofs.lemmas.Bool.{false≢true, not-false}
use Rattle.columns.specs.Columns.{is_listed}
use Rattle.dependencies.specs.Model.{Dep}
use Rattle.dependencies.specs.Tables.{Cell, Table, cell_at, row_at, KeepsAll}
use Rattle.reductions.specs.Meant.{column_named, text_at}
use Rattle.reductions.specs.Determined.{is_determined}
use Rattle.reductions.specs.Sorts.{is_dropped, mark_at, kept_before, Reduces}
use Rattle.reductions.specs.SortLaws.{TellsApart, value_in, compare_by, entry_order, ComparesAlike}
use Rattle.reductions.proofs.Listed.{all_at}
use Rattle.reductions.proofs.Fixed.{determined_agree}
use Rattle.reductions.proofs.KeptEntries.{kept_before_more}

module _ (texts names : List (List ℕ)) (ds : List Dep) (marks : List Bool) (reduces : Reduces texts ds names marks) (t : Table) (i j : ℕ) (orders : ℕ → Cell → Cell → Ordering) (other : ℕ → List ℕ → Cell) (keeps : KeepsAll ds t) (hi : i < length t) (hj : j < length t) (tells : (k : ℕ) → TellsApart (orders k)) where
  abbrev Same : ℕ → Type 0
  Same c = cell_at (row_at t i) c ≡ cell_at (row_at t j) c

  abbrev entry : ℕ → Ordering
  entry = entry_order texts names orders (other i) (row_at t i) (other j) (row_at t j)

  -- a column that known columns determine
  determined : (known : List ℕ) (c : ℕ) → AllByRecursion Same known → is_determined (is_listed known) ds c ≡ true → Same c
  determined known c agree e = determined_agree (is_listed known) ds t i j keeps hi hj (λ k h. all_at Same known k agree h) c e

  -- entries whose values are equal, and whose values are cells of one column
  values_equal : (n : List ℕ) (r : Option ℕ) → column_named texts n ≡ r → value_in texts (other i) (row_at t i) n ≡ value_in texts (other j) (row_at t j) n → AllByRecursion Same (optional r)
  values_equal n None e h = tt
  values_equal n (Some c) e h =
      let left : value_in texts (other i) (row_at t i) n ≡ cell_at (row_at t i) c = ap (λ (r : Option ℕ). elim r [ None ↦ other i n | Some c ↦ cell_at (row_at t i) c ]) e in
      let right : value_in texts (other j) (row_at t j) n ≡ cell_at (row_at t j) c = ap (λ (r : Option ℕ). elim r [ None ↦ other j n | Some c ↦ cell_at (row_at t j) c ]) e in
      (sym left ∙ h ∙ right, tt)

  dropped_equal : (known n : List ℕ) (r : Option ℕ) → column_named texts n ≡ r → AllByRecursion Same known → is_dropped texts ds known n ≡ true → value_in texts (other i) (row_at t i) n ≡ value_in texts (other j) (row_at t j) n
  dropped_equal known n None e agree h =
      absurd (false≢true (sym (ap (λ (r : Option ℕ). elim r [ None ↦ false | Some c ↦ is_determined (is_listed known) ds c ]) e) ∙ h))
  dropped_equal known n (Some c) e agree h =
      let left : value_in texts (other i) (row_at t i) n ≡ cell_at (row_at t i) c = ap (λ (r : Option ℕ). elim r [ None ↦ other i n | Some c ↦ cell_at (row_at t i) c ]) e in
      let right : value_in texts (other j) (row_at t j) n ≡ cell_at (row_at t j) c = ap (λ (r : Option ℕ). elim r [ None ↦ other j n | Some c ↦ cell_at (row_at t j) c ]) e in
      left ∙ determined known c agree (sym (ap (λ (r : Option ℕ). elim r [ None ↦ false | Some c ↦ is_determined (is_listed known) ds c ]) e) ∙ h) ∙ sym right

  abbrev before : ℕ → List ℕ
  before = kept_before texts names marks

  abbrev column : ℕ → Option ℕ
  column k = column_named texts (text_at names k)

  -- a kept entry that does not tell the rows apart
  kept_next : (a : ℕ) → mark_at marks a ≡ true → entry a ≡ Equal → AllByRecursion Same (before a) → AllByRecursion Same (before (a + 1))
  kept_next a mark e agree =
      let more : before (a + 1) ≡ before a ++ optional (column a) = kept_before_more texts names marks a ∙ ap (λ b. before a ++ cond b (optional (column a)) []) mark in
      subst (λ (l : List ℕ). AllByRecursion Same l) (sym more) (All-append Same (before a) (optional (column a)) agree (values_equal (text_at names a) (column a) refl ((tells a _ _).0 e)))

  dropped_next : (a : ℕ) → mark_at marks a ≡ false → AllByRecursion Same (before a) → AllByRecursion Same (before (a + 1))
  dropped_next a mark agree =
      let more : before (a + 1) ≡ before a = kept_before_more texts names marks a ∙ ap (λ b. before a ++ cond b (optional (column a)) []) mark ∙ append-nil (before a) in
      subst (λ (l : List ℕ). AllByRecursion Same l) (sym more) agree

  same_rest : (o x y : Ordering) → (o ≡ Equal → x ≡ y) → ordering_then o x ≡ ordering_then o y
  same_rest Less x y h = refl
  same_rest Equal x y h = h refl
  same_rest Greater x y h = refl

  alike : (n a : ℕ) → a + n ≡ length names → AllByRecursion Same (before a) → compare_by entry (filter (mark_at marks) (range_with_len a n)) ≡ compare_by entry (range_with_len a n)
  alike zero a e agree = refl
  alike (suc n) a e agree = go (mark_at marks a) refl (λ agrees. alike n (a + 1) (omega arith) agrees)
    where
      go : (b : Bool) → mark_at marks a ≡ b → (AllByRecursion Same (before (a + 1)) → compare_by entry (filter (mark_at marks) (range_with_len (a + 1) n)) ≡ compare_by entry (range_with_len (a + 1) n)) → compare_by entry (cond b (a ∷ filter (mark_at marks) (range_with_len (a + 1) n)) (filter (mark_at marks) (range_with_len (a + 1) n))) ≡ ordering_then (entry a) (compare_by entry (range_with_len (a + 1) n))
      go true mark rest = same_rest (entry a) _ _ (λ equal. rest (kept_next a mark equal agree))
      go false mark rest =
          let told : is_dropped texts ds (before a) (text_at names a) ≡ true = not-false _ (sym (reduces.each a (omega arith)) ∙ mark) in
          let equal : entry a ≡ Equal = (tells a _ _).1 (dropped_equal (before a) (text_at names a) (column a) refl agree told) in
          rest (dropped_next a mark agree) ∙ ap (λ o. ordering_then o (compare_by entry (range_with_len (a + 1) n))) (sym equal)

pub compares_alike : (texts names : List (List ℕ)) (ds : List Dep) (marks : List Bool) → Reduces texts ds names marks → ComparesAlike texts ds names marks
compares_alike texts names ds marks reduces t i j orders other keeps hi hj tells =
    alike texts names ds marks reduces t i j orders other keeps hi hj tells (length names) 0 (omega arith) tt
