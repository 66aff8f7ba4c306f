-- A loop that marks one sort entry after the other.
use Rattle.std.proofs.Common.{◌≡◌, ℕ, ◌+◌, ◌<◌, ◌≤◌, Bool, true, false, cond, not, ◌≢◌, List, [], ◌∷◌, ◌++◌, map, length, get_or, set, Some, None, Option, sym, refl, ap, ◌∙◌, subst, ⊎_elim, arith}
use Rattle.std.specs.Option.{option_to_list as optional}
use Rattle.std.proofs.lemmas.List.{get_or-map, get_or-set_same, get_or-set_other, length-append, length-map, map-set, set-get_or}
use Rattle.std.proofs.lemmas.Bool.{cases_eq}
use Rattle.names.specs.Names.{FullName, text_of}
use Rattle.dependencies.specs.Model.{Dep}
use Rattle.reductions.specs.declared.sort.SortExpr.{SortExpr}
use Rattle.reductions.specs.Meant.{column_named, text_at}
use Rattle.reductions.specs.Sorts.{sorted_by, sort_name, sort_mark, sort_names, sort_marks, is_dropped, mark_at, kept_before, Reduces}
use Rattle.reductions.proofs.KeptEntries.{kept_before_more, kept_before_same}

-- the first i entries are marked, and the columns of the kept ones are known
pub record Marked (texts : List (List ℕ)) (ds : List Dep) (old es : List SortExpr) (known : List ℕ) (i : ℕ) : Type 0 where
  pub names : map sorted_by es ≡ map sorted_by old
  pub each : (k : ℕ) → k < i → mark_at (sort_marks es) k ≡ not (is_dropped texts ds (kept_before texts (sort_names old) (sort_marks es) k) (text_at (sort_names old) k))
  pub so_far : known ≡ kept_before texts (sort_names old) (sort_marks es) i
  pub few : length known ≤ i

one_at_most : (b : Bool) (r : Option ℕ) → length (cond b (optional r) []) ≤ 1
one_at_most true None = omega arith
one_at_most true (Some c) = omega arith
one_at_most false r = omega arith

abbrev marking : FullName → Bool → SortExpr
marking n m = record { name = n; kept = m }

names_by : (es : List SortExpr) → sort_names es ≡ map text_of (map sorted_by es)
names_by [] = refl
names_by (e ∷ es) = ap (λ l. sort_name e ∷ l) (names_by es)

pub same_names : (es old : List SortExpr) → map sorted_by es ≡ map sorted_by old → sort_names es ≡ sort_names old
same_names es old e = names_by es ∙ ap (map text_of) e ∙ sym (names_by old)

module _ {texts : List (List ℕ)} {ds : List Dep} {old : List SortExpr} where
  module _ {es : List SortExpr} {known : List ℕ} {i : ℕ} (e : SortExpr) (m : Bool) (before : Marked texts ds old es known i) (inside : i < length es) where
    abbrev here : SortExpr
    here = get_or es i e

    abbrev next : List SortExpr
    next = set es i (marking here.name m)

    marks_next : sort_marks next ≡ set (sort_marks es) i m
    marks_next = map-set sort_mark es i (marking here.name m)

    other : (k : ℕ) → k ≢ i → mark_at (sort_marks next) k ≡ mark_at (sort_marks es) k
    other k ne = ap (λ l. get_or l k false) marks_next ∙ get_or-set_other (sort_marks es) i k m false ne

    now' : mark_at (sort_marks next) i ≡ m
    now' = ap (λ l. get_or l i false) marks_next ∙ get_or-set_same (sort_marks es) i m false (omega (arith, length-map es sort_mark))

    named : text_at (sort_names old) i ≡ sort_name here
    named = ap (λ l. get_or l i []) (sym (same_names es old before.names)) ∙ get_or-map sort_name es i e [] inside

    back : (k : ℕ) → k ≤ i → kept_before texts (sort_names old) (sort_marks next) k ≡ kept_before texts (sort_names old) (sort_marks es) k
    back k h = kept_before_same texts (sort_names old) (sort_marks next) (sort_marks es) k (λ j lt. other j (omega arith))

    pub marked_more : {known' : List ℕ} → m ≡ not (is_dropped texts ds known (sort_name here)) → known' ≡ known ++ cond m (optional (column_named texts (sort_name here))) [] → Marked texts ds old next known' (i + 1)
    marked_more {known'} told grown = record {
      names = map-set sorted_by es i (marking here.name m) ∙ ap (set (map sorted_by es) i) (sym (get_or-map sorted_by es i e e.name inside)) ∙ set-get_or (map sorted_by es) i e.name ∙ before.names;
      each = λ k h.
          ⊎_elim
          (λ is. subst (λ (j : ℕ). mark_at (sort_marks next) j ≡ not (is_dropped texts ds (kept_before texts (sort_names old) (sort_marks next) j) (text_at (sort_names old) j))) (sym is)
          (now' ∙ told ∙ ap (λ l. not (is_dropped texts ds l (sort_name here))) (before.so_far ∙ sym (back i (omega arith))) ∙ ap (λ n. not (is_dropped texts ds (kept_before texts (sort_names old) (sort_marks next) i) n)) (sym named)))
          (λ ne. other k ne ∙ before.each k (omega arith) ∙ ap (λ l. not (is_dropped texts ds l (text_at (sort_names old) k))) (sym (back k (omega arith))))
          (cases_eq k i);
      few = omega (arith, ap length grown, length-append known (cond m (optional (column_named texts (sort_name here))) []), one_at_most m (column_named texts (sort_name here)), before.few);
      so_far = grown ∙ ap (λ l. l ++ cond m (optional (column_named texts (sort_name here))) []) (before.so_far ∙ sym (back i (omega arith)))
          ∙ ap (λ n. kept_before texts (sort_names old) (sort_marks next) i ++ cond m (optional (column_named texts n)) []) (sym named)
          ∙ ap (λ b. kept_before texts (sort_names old) (sort_marks next) i ++ cond b (optional (column_named texts (text_at (sort_names old) i))) []) (sym now')
          ∙ sym (kept_before_more texts (sort_names old) (sort_marks next) i);
    }

  -- all are marked, by the texts and the dependencies of the schema
  pub marked_all : {es : List SortExpr} {known : List ℕ} {i : ℕ} {texts' : List (List ℕ)} {ds' : List Dep} → Marked texts ds old es known i → length es ≤ i → texts ≡ texts' → ds ≡ ds' → Reduces texts' ds' (sort_names old) (sort_marks es)
  marked_all {es} {known} {i} {texts'} m h same_texts same_ds =
      let as_long : length es ≡ length old = sym (length-map es sorted_by) ∙ ap length m.names ∙ length-map old sorted_by in
      let reduces : Reduces texts ds (sort_names old) (sort_marks es) = record { long = length-map es sort_mark ∙ as_long ∙ sym (length-map old sort_name); each = λ k lt. m.each k (omega (arith, length-map old sort_name, as_long)) } in
      subst (λ (d : List Dep). Reduces texts' d (sort_names old) (sort_marks es)) same_ds (subst (λ (t : List (List ℕ)). Reduces t ds (sort_names old) (sort_marks es)) same_texts reduces)
