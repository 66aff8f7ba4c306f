-- The dependencies of a join are true of every table of joined rows.
use Rattle.std.proofs.Common.{◌≡◌, ℕ, zero, suc, ◌+◌, ◌<◌, Bool, true, false, not, eqb, ◌⊎◌, List, [], ◌∷◌, ◌++◌, map, length, filter, refl, ap, ◌∙◌, subst, inl, inr, ⊎_elim, map-id, Result, IfOk, arith}
use Rattle.std.specs.List.{AllByRecursion}
use Rattle.std.proofs.lemmas.List.{get_or_append_left, get_or-append-add}
use Rattle.std.proofs.ByRecursion.{All-get_or, All-weaker, All-map, All-append, all_kept_by, kept_by_passes}
use Rattle.std.proofs.lemmas.Bool.{and_parts, not-true, eqb-false}
use Rattle.join_type.specs.declared.JoinType.{JoinType}
use Rattle.join_type.specs.declared.JoinType.TheVariants.{Inner, Left, Right, Full, LeftSemi, RightSemi, LeftAnti, RightAnti, LeftMark, RightMark}
use Rattle.names.specs.Refusals.{Answers}
use Rattle.names.specs.declared.error.Refusal.{Refusal}
use Rattle.names.proofs.Refused.{answers_law}
use Rattle.dependencies.specs.Joins.{joined, join_refusal}
use Rattle.dependencies.specs.View.{deps_of}
use Rattle.dependencies.specs.declared.functional_dependencies.FunctionalDependencies.{FunctionalDependencies}
use Rattle.dependencies.specs.JoinedTables.{Beside, Nulls, LeftAlone, RightAlone, PartOf, TrueOfJoins}
use Rattle.dependencies.specs.Model.{Dep, dependence, with_mode, offset_by, nullable_dep, survives_nulls, padded}
use Rattle.dependencies.specs.Tables.{Row, Table, null, cell_at, row_at, Keeps, KeepsAll, Within, Valid, Wide}
use Rattle.dependencies.specs.declared.functional_dependencies.Dependency.{Dependency}
use Rattle.dependencies.specs.declared.functional_dependencies.Dependency.TheVariants.{Multi}
use Rattle.dependencies.proofs.Shown.{all_both, Shows, NullsAt, ShowsAt, NullFor, carried, keeps_shown, keeps_part, keeps_padded}

all_of : {X : Type 0} (P : X → Type 0) → ((x : X) → P x) → (xs : List X) → AllByRecursion P xs
all_of P h [] = tt
all_of P h (x ∷ xs) = (h x, all_of P h xs)

nulls_at : (r : Row) (c : ℕ) → Nulls r → cell_at r c ≡ null
nulls_at [] c h = refl
nulls_at (x ∷ r) zero h = h.0
nulls_at (x ∷ r) (suc c) h = nulls_at r c h.1

-- a cell of the front part, and one of the part behind
front_cell : (l r row : Row) (c : ℕ) → c < length l → row ≡ l ++ r → cell_at row c ≡ cell_at l c
front_cell l r row c h e = ap (λ x. cell_at x c) e ∙ get_or_append_left l r null c h

back_cell : (l r row : Row) (w c : ℕ) → length l ≡ w → row ≡ l ++ r → cell_at row (c + w) ≡ cell_at r c
back_cell l r row w c h e =
    let at : c + w ≡ length l + c = omega arith in
    ap (λ x. cell_at x (c + w)) e ∙ ap (λ k. cell_at (l ++ r) k) at ∙ get_or-append-add l r c null

module _ (w : ℕ) (side : Table) (wide : Wide w side) where
  row_wide : (i : ℕ) → i < length side → length (row_at side i) ≡ w
  row_wide i h = All-get_or (λ r. length r ≡ w) side i [] h wide

  front_shows : (cs : List ℕ) (i : ℕ) (row behind : Row) → i < length side → AllByRecursion (λ c. c < w) cs → row ≡ row_at side i ++ behind → Shows (λ c. c) cs row (row_at side i)
  front_shows cs i row behind h in-w e =
      All-weaker (λ c. c < w) (λ c. cell_at row c ≡ cell_at (row_at side i) c) (λ c hc. front_cell (row_at side i) behind row c (omega (arith, row_wide i h)) e) cs in-w

  front_at : (d : Dep) (i : ℕ) (row behind : Row) → i < length side → Within w d → row ≡ row_at side i ++ behind → ShowsAt (λ c. c) d side row i
  front_at d i row behind h v e = record { within = h; sources = front_shows d.sources i row behind h v.sources e; targets = front_shows d.targets i row behind h v.targets e }

  back_at : (d : Dep) (right : Table) (i j : ℕ) (row : Row) → i < length side → j < length right → row ≡ row_at side i ++ row_at right j → ShowsAt (λ c. c + w) d right row j
  back_at d right i j row hi hj e =
      let shows : (cs : List ℕ) → Shows (λ c. c + w) cs row (row_at right j) = all_of (λ c. cell_at row (c + w) ≡ cell_at (row_at right j) c) (λ c. back_cell (row_at side i) (row_at right j) row w c (row_wide i hi) e) in
      record { within = hj; sources = shows d.sources; targets = shows d.targets }

  back_null : (d : Dep) (i : ℕ) (row nulls : Row) → i < length side → Nulls nulls → row ≡ row_at side i ++ nulls → NullFor (λ c. c + w) d row
  back_null d i row nulls h n e =
      let null_at : (cs : List ℕ) → NullsAt (λ c. c + w) cs row = all_of (λ c. cell_at row (c + w) ≡ null) (λ c. back_cell (row_at side i) nulls row w c (row_wide i h) e ∙ nulls_at nulls c n) in
      record { sources = null_at d.sources; targets = null_at d.targets }

right_alone_at : (w : ℕ) (d : Dep) (right : Table) (j : ℕ) (row nulls : Row) → j < length right → length nulls ≡ w → row ≡ nulls ++ row_at right j → ShowsAt (λ c. c + w) d right row j
right_alone_at w d right j row nulls h long e =
    let shows : (cs : List ℕ) → Shows (λ c. c + w) cs row (row_at right j) = all_of (λ c. cell_at row (c + w) ≡ cell_at (row_at right j) c) (λ c. back_cell nulls (row_at right j) row w c long e) in
    record { within = h; sources = shows d.sources; targets = shows d.targets }

front_null : (w : ℕ) (d : Dep) (row nulls behind : Row) → Within w d → Nulls nulls → length nulls ≡ w → row ≡ nulls ++ behind → NullFor (λ c. c) d row
front_null w d row nulls behind v n long e =
    let null_at : (cs : List ℕ) → AllByRecursion (λ c. c < w) cs → NullsAt (λ c. c) cs row = All-weaker (λ c. c < w) (λ c. cell_at row c ≡ null) (λ c hc. front_cell nulls behind row c (omega (arith, long)) e ∙ nulls_at nulls c n) in
    record { sources = null_at d.sources v.sources; targets = null_at d.targets v.targets }

-- columns that stay where they are
stays : (t : Table) (d : Dep) (n : Bool) (m : Dependency) → Keeps (carried (λ c. c) n m d) t → Keeps (dependence d.sources d.targets n m) t
stays t d n m k =
    let same : carried (λ c. c) n m d ≡ dependence d.sources d.targets n m = ap (λ l. dependence l (map (λ c. c) d.targets) n m) (map-id d.sources) ∙ ap (λ l. dependence d.sources l n m) (map-id d.targets) in
    subst (λ (x : Dep). Keeps x t) same k

survivor : (d : Dep) → survives_nulls d ≡ true → (d.nullable ≡ false) × (d.sources ≡ [] → ⊥)
survivor d h =
    let parts = and_parts (not d.nullable) (not (eqb (length d.sources) 0)) h in
    (not-true _ parts.0, λ e. eqb-false (length d.sources) 0 (not-true _ parts.1) (ap length e))

module _ (w n : ℕ) (ls rs : List Dep) (lt rt t : Table) (wl : Wide w lt) (wr : Wide n rt) (vl : Valid w ls) (vr : Valid n rs) (kl : KeepsAll ls lt) (kr : KeepsAll rs rt) where
  at_row : (P : Row → Type 0) → AllByRecursion P t → (i : ℕ) → i < length t → P (row_at t i)
  at_row P all i h = All-get_or P t i [] h all

  -- each row has a left row in front
  left_kept : ((d : Dep) → Within w d → (i : ℕ) → i < length t → (at : ℕ) × ShowsAt (λ c. c) d lt (row_at t i) at) → KeepsAll (map (with_mode Multi) ls) t
  left_kept shown =
      All-map (λ d. Keeps d t) (with_mode Multi) ls
      (all_both (λ d. Keeps d lt) (Within w) (λ d. Keeps (with_mode Multi d) t) (λ d k v. stays t d d.nullable Multi (keeps_shown (λ c. c) d lt t k (shown d v))) ls kl vl)

  -- each row has a right row behind
  right_kept : ((d : Dep) → (i : ℕ) → i < length t → (at : ℕ) × ShowsAt (λ c. c + w) d rt (row_at t i) at) → KeepsAll (map (with_mode Multi) (map (offset_by w) rs)) t
  right_kept shown =
      All-map (λ d. Keeps d t) (with_mode Multi) (map (offset_by w) rs)
      (All-map (λ d. Keeps (with_mode Multi d) t) (offset_by w) rs (All-weaker (λ d. Keeps d rt) (λ d. Keeps (with_mode Multi (offset_by w d)) t) (λ d k. keeps_shown (λ c. c + w) d rt t k (shown d)) rs kr))

  -- each row has a left row or nulls in front
  left_padded : ((d : Dep) → Within w d → (i : ℕ) → i < length t → ((at : ℕ) × ShowsAt (λ c. c) d lt (row_at t i) at) ⊎ NullFor (λ c. c) d (row_at t i)) → KeepsAll (map (with_mode Multi) (padded ls)) t
  left_padded shown =
      let stay = filter survives_nulls ls in
      let both : AllByRecursion (λ d. Keeps d lt × Within w d) stay = all_kept_by survives_nulls (λ d. Keeps d lt × Within w d) ls (all_both (λ d. Keeps d lt) (Within w) (λ d. Keeps d lt × Within w d) (λ d k v. (k, v)) ls kl vl) in
      All-map (λ d. Keeps d t) (with_mode Multi) (padded ls)
      (All-map (λ d. Keeps (with_mode Multi d) t) nullable_dep stay (all_both (λ d. Keeps d lt × Within w d) (λ d. survives_nulls d ≡ true) (λ d. Keeps (with_mode Multi (nullable_dep d)) t) (λ d k s. stays t d true Multi (keeps_padded (λ c. c) d lt t k.0 (survivor d s).0 (survivor d s).1 (shown d k.1))) stay both (kept_by_passes survives_nulls ls)))

  -- each row has a right row or nulls behind
  right_padded : ((d : Dep) → (i : ℕ) → i < length t → ((at : ℕ) × ShowsAt (λ c. c + w) d rt (row_at t i) at) ⊎ NullFor (λ c. c + w) d (row_at t i)) → KeepsAll (map (with_mode Multi) (map (offset_by w) (padded rs))) t
  right_padded shown =
      let stay = filter survives_nulls rs in
      All-map (λ d. Keeps d t) (with_mode Multi) (map (offset_by w) (padded rs))
      (All-map (λ d. Keeps (with_mode Multi d) t) (offset_by w) (padded rs)
      (All-map (λ d. Keeps (with_mode Multi (offset_by w d)) t) nullable_dep stay
      (all_both (λ d. Keeps d rt) (λ d. survives_nulls d ≡ true) (λ d. Keeps (with_mode Multi (offset_by w (nullable_dep d))) t) (λ d k s. keeps_padded (λ c. c + w) d rt t k (survivor d s).0 (survivor d s).1 (shown d)) stay (all_kept_by survives_nulls (λ d. Keeps d rt) rs kr) (kept_by_passes survives_nulls rs))))

  left_of : (d : Dep) → Within w d → (row : Row) → Beside lt rt row → (at : ℕ) × ShowsAt (λ c. c) d lt row at
  left_of d v row b = (b.0, front_at w lt wl d b.0 row (row_at rt b.2.0) b.1 v b.2.2)

  right_of : (d : Dep) → (row : Row) → Beside lt rt row → (at : ℕ) × ShowsAt (λ c. c + w) d rt row at
  right_of d row b = (b.2.0, back_at w lt wl d rt b.0 b.2.0 row b.1 b.2.1 b.2.2)

  inner_true : AllByRecursion (Beside lt rt) t → KeepsAll (joined Inner w ls rs) t
  inner_true all =
      All-append (λ d. Keeps d t) _ _ (left_kept (λ d v i h. left_of d v (row_at t i) (at_row (Beside lt rt) all i h))) (right_kept (λ d i h. right_of d (row_at t i) (at_row (Beside lt rt) all i h)))

  left_true : AllByRecursion (λ r. Beside lt rt r ⊎ LeftAlone lt r) t → KeepsAll (joined Left w ls rs) t
  left_true all =
      let row : (i : ℕ) → i < length t → Beside lt rt (row_at t i) ⊎ LeftAlone lt (row_at t i) = at_row (λ r. Beside lt rt r ⊎ LeftAlone lt r) all in
      All-append (λ d. Keeps d t) _ _
      (left_kept (λ d v i h. ⊎_elim (left_of d v (row_at t i)) (λ a. (a.0, front_at w lt wl d a.0 (row_at t i) a.2.0 a.1 v a.2.2)) (row i h)))
      (right_padded (λ d i h. ⊎_elim (λ b. inl (right_of d (row_at t i) b)) (λ a. inr (back_null w lt wl d a.0 (row_at t i) a.2.0 a.1 a.2.1 a.2.2)) (row i h)))

  right_true : AllByRecursion (λ r. Beside lt rt r ⊎ RightAlone w rt r) t → KeepsAll (joined Right w ls rs) t
  right_true all =
      let row : (i : ℕ) → i < length t → Beside lt rt (row_at t i) ⊎ RightAlone w rt (row_at t i) = at_row (λ r. Beside lt rt r ⊎ RightAlone w rt r) all in
      All-append (λ d. Keeps d t) _ _
      (left_padded (λ d v i h. ⊎_elim (λ b. inl (left_of d v (row_at t i) b)) (λ a. inr (front_null w d (row_at t i) a.2.0 (row_at rt a.0) v a.2.1 a.2.2 a.2.3)) (row i h)))
      (right_kept (λ d i h. ⊎_elim (right_of d (row_at t i)) (λ a. (a.0, right_alone_at w d rt a.0 (row_at t i) a.2.0 a.1 a.2.2 a.2.3)) (row i h)))

part_true : (n : ℕ) (ds : List Dep) (side t : Table) (more : Row → Type 0) → Wide n side → Valid n ds → KeepsAll ds side → PartOf more side t → KeepsAll ds t
part_true n ds side t more wide v k part =
    all_both (λ d. Keeps d side) (Within n) (λ d. Keeps d t)
    (λ d kept in-n. stays t d d.nullable d.mode (keeps_part (λ c. c) d side t kept part.from part.distinct (λ i h. front_at n side wide d (part.from i) (row_at t i) (part.rows i h).0 (part.within i h) in-n (part.rows i h).2)))
    ds k v

pub joined_true : (type : JoinType) (w : ℕ) (ls rs : List Dep) → TrueOfJoins type w ls rs (joined type w ls rs)
joined_true Inner w ls rs n lt rt t wl wr vl vr kl kr j = inner_true w n ls rs lt rt t wl wr vl vr kl kr j
joined_true Left w ls rs n lt rt t wl wr vl vr kl kr j = left_true w n ls rs lt rt t wl wr vl vr kl kr j
joined_true Right w ls rs n lt rt t wl wr vl vr kl kr j = right_true w n ls rs lt rt t wl wr vl vr kl kr j
joined_true Full w ls rs n lt rt t wl wr vl vr kl kr j = tt
joined_true LeftSemi w ls rs n lt rt t wl wr vl vr kl kr j = part_true w ls lt t _ wl vl kl j
joined_true LeftAnti w ls rs n lt rt t wl wr vl vr kl kr j = part_true w ls lt t _ wl vl kl j
joined_true LeftMark w ls rs n lt rt t wl wr vl vr kl kr j = part_true w ls lt t _ wl vl kl j
joined_true RightSemi w ls rs n lt rt t wl wr vl vr kl kr j = part_true n rs rt t _ wr vr kr j
joined_true RightAnti w ls rs n lt rt t wl wr vl vr kl kr j = part_true n rs rt t _ wr vr kr j
joined_true RightMark w ls rs n lt rt t wl wr vl vr kl kr j = part_true n rs rt t _ wr vr kr j

-- so is the answer of a call
pub joined_law : (type : JoinType) (w : ℕ) (ls rs : List Dep) (r : Result FunctionalDependencies Refusal) → Answers r (join_refusal type w ls rs) (λ d. deps_of d ≡ joined type w ls rs) → IfOk r (λ d. TrueOfJoins type w ls rs (deps_of d))
joined_law type w ls rs r answer = answers_law r _ deps_of _ (TrueOfJoins type w ls rs) answer (joined_true type w ls rs)
