-- The least of the columns that are ambiguous.
use Rattle.std.proofs.Common.{◌≡◌, ℕ, zero, suc, ◌<◌, Bool, true, false, cond, ◌&&◌, List, [], ◌∷◌, length, get_or, filter, is_some, Some, None, Decides, Option, Ordering, Less, Equal, Greater, sym, refl, ap, ◌∙◌, subst, arith, MatchOption, ◌≢◌}
use Rattle.std.specs.List.{list_any, All, ContainsAt, FoldsTo, best_of, reduce}
use Rattle.std.specs.Ordering.{is_lt, is_gt, ordering_reverse, min_by_ordering}
use Rattle.std.specs.Fn.{CalledAt, CalledAtTwo}
use Rattle.std.specs.Iterator.{Drains, PickTurn, PicksByCall}
use Rattle.std.specs.Iterator.Adapters.{filter_source, filter_callee, filter_steps}
use Rattle.std.specs.declared.iter.Filter.{Filter}
use Rattle.std.proofs.lemmas.Iterator.{YieldsList}
use Rattle.std.proofs.lemmas.Iterator.Consumers.{YieldsList-from_filter, reduce_from_yields_List}
use Rattle.std.proofs.ByRecursion.{has_get_or}
use Rattle.std.proofs.lemmas.Bool.{false≢true}
use Rattle.std.proofs.lemmas.Bool.Decides.{same_from_decides, Decides-and, Decides-by_or}
use Rattle.std.proofs.lemmas.List.{get_or_default}
use Rattle.std.proofs.lemmas.List.Elements.{All-filter, filter_passes}
use Rattle.std.proofs.lemmas.List.MinMax.{ranks_by, IsFirstBest-from_best_of}
use denote.Param.Members.{Mut}
use denote.Ref.{Bor}
use Rattle.names.specs.declared.column.Column.{Column}
use Rattle.names.specs.declared.table_reference.TableReference.{TableReference}
use Rattle.names.specs.declared.table_reference.TableReference.TheVariants.{Bare, Partial, Full}
use Rattle.names.specs.Columns.{column_of, relation_parts}
use Rattle.names.specs.Names.{text_of}
use Rattle.names.specs.References.{parts_of}
use Rattle.names.specs.Same.{same_parts_and_text}
use Rattle.names.proofs.Same.{parts_and_text_decide}
use Rattle.schemas.specs.CheckNames.{Ambiguous, NoneAmbiguous, LeastAmbiguous}
use Rattle.schemas.specs.ColumnOrder.{column_key, column_order, compare_columns}

-- whether the column is ambiguous
abbrev ambiguous : List Column → Column → Bool
ambiguous cs c = is_some c.relation && list_any (λ y. same_parts_and_text (column_of y) ([], text_of c.name)) cs

-- a reference has a part
some_part : (r : TableReference) → parts_of r ≡ [] → ⊥
some_part (Bare t) e = let z : ◌≡◌ {A = ℕ} 0 1 = cc in omega arith
some_part (Partial s t) e = let z : ◌≡◌ {A = ℕ} 0 1 = cc in omega arith
some_part (Full c s t) e = let z : ◌≡◌ {A = ℕ} 0 1 = cc in omega arith

qualified_decides : (r : Option TableReference) → Decides (is_some r) (relation_parts r ≢ [])
qualified_decides None = ((λ e. absurd (false≢true e)), λ h. absurd (h refl))
qualified_decides (Some q) = ((λ _ e. some_part q e), λ _. refl)

ambiguous_decides : (cs : List Column) (c : Column) → Decides (ambiguous cs c) (Ambiguous cs c)
ambiguous_decides cs c =
    let bare : List (List ℕ) × List ℕ = ([], text_of c.name) in
    let test : Column → Bool = λ y. same_parts_and_text (column_of y) bare in
    Decides-and (is_some c.relation) (list_any test cs) (qualified_decides c.relation) (Decides-by_or test (λ y. column_of y ≡ bare) (list_any test) (λ y. parts_and_text_decide (column_of y) bare) refl (λ x xs. refl) cs)

ambiguous_is : (cs : List Column) (c : Column) (b : Bool) → Decides b (Ambiguous cs c) → b ≡ ambiguous cs c
ambiguous_is cs c b h = same_from_decides b (ambiguous cs c) h (ambiguous_decides cs c)

-- the first column comes before the second
abbrev is_before : Column → Column → Bool
is_before x y = is_lt (compare_columns x y)

turned : (o : Ordering) → is_lt (ordering_reverse o) ≡ is_gt o
turned Less = refl
turned Equal = refl
turned Greater = refl

picked : (o : Ordering) (x y : Column) → min_by_ordering o x y ≡ cond (is_gt o) y x
picked Less x y = refl
picked Equal x y = refl
picked Greater x y = refl

before_is : (x y : Column) → is_before x y ≡ is_gt (compare_columns y x)
before_is x y = ap is_lt (column_order.antisymm (column_key x) (column_key y)) ∙ turned (compare_columns y x)

-- a closure that compares columns picks the least
module _ {F : Type 0} (g : Mut F (Bor Column × (Bor Column × Unit {0})) Ordering) (f : F) (says : (x y : Column) (o : Ordering) (q : F) → CalledAtTwo g f x y o q → (q ≡ f) × (o ≡ compare_columns x y)) where
  abbrev Turns : Column → List Column → Column → Type 0
  Turns = FoldsTo (λ a x b. b ≡ cond (is_before x a) x a)

  turns : (xs : List Column) (x : Column) (p q : F) (y : Column) → p ≡ f → FoldsTo {P = F × Column} (PickTurn min_by_ordering g) (p, x) xs (q, y) → Turns x xs y
  turns [] x p q y e h = ap (λ (w : F × Column). w.1) h
  turns (z ∷ zs) x p q y e h =
      let next = h.0 in
      let turn = h.1 in
      let said = says x z turn.0 next.0 (subst (λ (w : F). CalledAtTwo g w x z turn.0 next.0) e turn.1) in
      (next.1, turn.2 ∙ picked turn.0 x z ∙ ap (λ b. cond b z x) (ap is_gt said.1 ∙ sym (before_is z x)), turns zs next.1 next.0 q y said.0 h.2)

picks_least : {S F : Type 0} {g : Mut F (Bor Column × (Bor Column × Unit {0})) Ordering} (steps : S → Option Column → S → Type 0) (s : S) (f : F) (r : Option Column) → PicksByCall steps min_by_ordering g s f r → ((x y : Column) (o : Ordering) (q : F) → CalledAtTwo g f x y o q → (q ≡ f) × (o ≡ compare_columns x y)) → MatchOption r (Drains steps s []) (λ y. (x : Column) × (xs : List Column) × Drains steps s (x ∷ xs) × FoldsTo (λ a z b. b ≡ cond (is_before z a) z a) x xs y)
picks_least steps s f None h says = h
picks_least {g = g} steps s f (Some y) h says = (h.0, h.1, h.3, turns g f says h.1 h.0 f h.2 y refl h.4)

-- what holds of all that a filter keeps holds of each that passes
kept : {X : Type 0} (p : X → Bool) (P : X → Type 0) (xs : List X) → All P (filter p xs) → (k : ℕ) (d : X) → k < length xs → p (get_or xs k d) ≡ true → P (get_or xs k d)
kept p P [] all k d h pass = absurd (omega arith)
kept p P (x ∷ xs) all zero d h pass = first (subst (λ b. All P (cond b (x ∷ filter p xs) (filter p xs))) pass all) where
  first : All P (x ∷ filter p xs) → P x
  first every = every 0 d (omega arith)
kept p P (x ∷ xs) all (suc k) d h pass = kept p P xs (rest (p x) all) k d (omega arith) pass where
  rest : (b : Bool) → All P (cond b (x ∷ filter p xs) (filter p xs)) → All P (filter p xs)
  rest true every = λ j e l. every (suc j) e (omega arith)
  rest false every = every

-- the least of those that pass, or none where none passes
least_is : (cs : List Column) (r : Option Column) → r ≡ reduce (λ b x. cond (is_before x b) x b) (filter (ambiguous cs) cs) → MatchOption r (NoneAmbiguous cs) (LeastAmbiguous cs)
least_is cs r is = subst (λ (o : Option Column). MatchOption o (NoneAmbiguous cs) (LeastAmbiguous cs)) (sym is) (go (filter (ambiguous cs) cs) refl) where
  go : (found : List Column) → filter (ambiguous cs) cs ≡ found → MatchOption (reduce (λ b x. cond (is_before x b) x b) found) (NoneAmbiguous cs) (LeastAmbiguous cs)
  go [] e =
      λ k d h a. kept (ambiguous cs) (λ _. ⊥) cs (subst (All (λ _. ⊥)) (sym e) (λ j d' h'. absurd (omega arith))) k d h ((ambiguous_decides cs (get_or cs k d)).1 a)
  go (x ∷ xs) e =
      let best = IsFirstBest-from_best_of (ranks_by column_order column_key) x xs in
      let c = best_of is_before x xs in
      let b = best.0 in
      let at_best : (d : Column) → get_or (x ∷ xs) b d ≡ c = λ d. get_or_default (x ∷ xs) b d x best.1.0 ∙ best.2 in
      let listed = subst (All (ContainsAt cs)) e (All-filter (ambiguous cs) (ContainsAt cs) cs (λ k d h. has_get_or cs k d h)) in
      let passes = subst (All (λ y. ambiguous cs y ≡ true)) e (filter_passes (ambiguous cs) cs) in
      let least : All (λ y. is_gt (compare_columns c y) ≡ false) (x ∷ xs) =
      λ k d h. sym (before_is (get_or (x ∷ xs) k d) c) ∙ ap (is_before (get_or (x ∷ xs) k d)) (sym (at_best d)) ∙ best.1.1 k d h in
      record {
        listed = subst (ContainsAt cs) best.2 (listed b x best.1.0);
        ambiguous = (ambiguous_decides cs c).0 (ap (ambiguous cs) (sym best.2) ∙ passes b x best.1.0);
        least = λ k d h a. kept (ambiguous cs) (λ y. is_gt (compare_columns c y) ≡ false) cs (subst (All (λ y. is_gt (compare_columns c y) ≡ false)) (sym e) least) k d h ((ambiguous_decides cs (get_or cs k d)).1 a);
      }

-- what `filter` by a test of ambiguous columns and then `min_by` by their order give
pub least_found : {S F G : Type 0} {steps : S → Option Column → S → Type 0} {test : Mut F (Bor Column × Unit {0}) Bool} {order : Mut G (Bor Column × (Bor Column × Unit {0})) Ordering} (cs : List Column) (s : Filter S F) {p : F} (f : G) (r : Option Column) → YieldsList steps (λ x. x) (filter_source s) cs → filter_callee s ≡ p → PicksByCall (filter_steps steps test) min_by_ordering order s f r
    → ((x : Column) (b : Bool) (q : F) → CalledAt test p x b q → (q ≡ p) × Decides b (Ambiguous cs x)) → ((x y : Column) (o : Ordering) (q : G) → CalledAtTwo order f x y o q → (q ≡ f) × (o ≡ compare_columns x y)) → MatchOption r (NoneAmbiguous cs) (LeastAmbiguous cs)
least_found {steps = steps} {test} cs s f r road callee ran tested compared =
    least_is cs r (reduce_from_yields_List _ s r (picks_least (filter_steps steps test) s f r ran compared) (YieldsList-from_filter test (ambiguous cs) road callee (λ x b q k. let t = tested x b q k in (t.0, ambiguous_is cs x b t.1))))
