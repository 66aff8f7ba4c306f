-- The dependencies of a projection are true of every projection of a table.
use Rattle.std.proofs.Common.{◌≡◌, ℕ, ◌<◌, Bool, true, List, [], ◌∷◌, ◌++◌, length, get_or, is_some, IfSome, Some, None, filter, Option, sym, refl, ap, ◌∙◌, subst, arith}
use Rattle.std.specs.List.{range_with_len, AllByRecursion, list_all}
use Rattle.std.specs.Option.{option_to_list as optional}
use Rattle.std.proofs.ByRecursion.{All-map, all_kept_by, kept_by_passes}
use Rattle.std.proofs.lemmas.Bool.{and_parts, false≢true}
use Rattle.columns.specs.Columns.{first_place, places, is_listed}
use Rattle.columns.proofs.Places.{place_holds}
use Rattle.dependencies.specs.Model.{Dep, dependence, targets_for}
use Rattle.dependencies.specs.Projections.{projected_dep, projected, sources_listed}
use Rattle.dependencies.specs.ProjectedTables.{ProjectionOf, TrueOfProjections}
use Rattle.dependencies.specs.Tables.{Table, null, cell_at, row_at, Agree, Keeps, Within}
use Rattle.dependencies.specs.declared.functional_dependencies.Dependency.{Dependency}
use Rattle.dependencies.specs.declared.functional_dependencies.Dependency.TheVariants.{Single, Multi}
use Rattle.dependencies.proofs.Shown.{agree_itself, all_both}

-- the place of a column in the projection
abbrev Place : List ℕ → ℕ → Option ℕ → Type 0
Place proj c r = IfSome r (λ p. (p < length proj) × (get_or proj p 0 ≡ c))

module _ (n : ℕ) (proj : List ℕ) (t out : Table) (is : ProjectionOf n proj t out) where
  cell_of : (i p c : ℕ) → i < length t → p < length proj → get_or proj p 0 ≡ c → c < n → cell_at (row_at out i) p ≡ cell_at (row_at t i) c
  cell_of i p c hi hp e hc =
      let below : get_or proj p 0 < n = omega arith in
      is.cells i p hi hp below ∙ ap (cell_at (row_at t i)) e

  module _ (i j : ℕ) (hi : i < length t) (hj : j < length t) where
    one_back : (c : ℕ) (r : Option ℕ) → c < n → Place proj c r → is_some r ≡ true → (rest : List ℕ) → Agree (optional r ++ rest) (row_at out i) (row_at out j) → (cell_at (row_at t i) c ≡ cell_at (row_at t j) c) × Agree rest (row_at out i) (row_at out j)
    one_back c None hc place listed rest a = absurd (false≢true listed)
    one_back c (Some p) hc place listed rest a = (sym (cell_of i p c hi place.0 place.1 hc) ∙ a.0 ∙ cell_of j p c hj place.0 place.1 hc, a.1)

    one_forth : (c : ℕ) (r : Option ℕ) → c < n → Place proj c r → (rest : List ℕ) → cell_at (row_at t i) c ≡ cell_at (row_at t j) c → Agree rest (row_at out i) (row_at out j) → Agree (optional r ++ rest) (row_at out i) (row_at out j)
    one_forth c None hc place rest e a = a
    one_forth c (Some p) hc place rest e a = (cell_of i p c hi place.0 place.1 hc ∙ e ∙ sym (cell_of j p c hj place.0 place.1 hc), a)

    agree_below : (cs : List ℕ) → AllByRecursion (λ c. c < n) cs → list_all (is_listed proj) cs ≡ true → Agree (places proj cs) (row_at out i) (row_at out j) → Agree cs (row_at t i) (row_at t j)
    agree_below [] v listed a = tt
    agree_below (c ∷ cs) v listed a =
        let parts = and_parts (is_listed proj c) (list_all (is_listed proj) cs) listed in
        let one = one_back c (first_place proj c) v.0 (place_holds proj c) parts.0 (places proj cs) a in
        (one.0, agree_below cs v.1 parts.1 one.1)

    agree_above : (cs : List ℕ) → AllByRecursion (λ c. c < n) cs → Agree cs (row_at t i) (row_at t j) → Agree (places proj cs) (row_at out i) (row_at out j)
    agree_above [] v a = tt
    agree_above (c ∷ cs) v a = one_forth c (first_place proj c) v.0 (place_holds proj c) (places proj cs) a.0 (agree_above cs v.1 a.1)

  module _ (i : ℕ) (hi : i < length t) where
    one_not_null : (c : ℕ) (r : Option ℕ) → c < n → Place proj c r → (rest : List ℕ) → (cell_at (row_at t i) c ≡ null → ⊥) → AllByRecursion (λ p. cell_at (row_at out i) p ≡ null → ⊥) rest → AllByRecursion (λ p. cell_at (row_at out i) p ≡ null → ⊥) (optional r ++ rest)
    one_not_null c None hc place rest h all = all
    one_not_null c (Some p) hc place rest h all = ((λ e. h (sym (cell_of i p c hi place.0 place.1 hc) ∙ e)), all)

    not_null_above : (cs : List ℕ) → AllByRecursion (λ c. c < n) cs → AllByRecursion (λ c. cell_at (row_at t i) c ≡ null → ⊥) cs → AllByRecursion (λ p. cell_at (row_at out i) p ≡ null → ⊥) (places proj cs)
    not_null_above [] v h = tt
    not_null_above (c ∷ cs) v h = one_not_null c (first_place proj c) v.0 (place_holds proj c) (places proj cs) h.0 (not_null_above cs v.1 h.1)

  in_t : (i : ℕ) → i < length out → i < length t
  in_t i h = omega (arith, is.rows)

  module _ (all : List ℕ) (s ts : List ℕ) (nul : Bool) (vs : AllByRecursion (λ c. c < n) s) (vt : AllByRecursion (λ c. c < n) ts) (listed : list_all (is_listed proj) s ≡ true) where
    keeps_projected : (m : Dependency) → Keeps (dependence s ts nul m) t → Keeps (dependence (places proj s) (targets_for m all (places proj ts)) nul m) out
    keeps_projected Single k = record {
      fixes = λ i j hi hj a. subst (λ (x : ℕ). Agree all (row_at out i) (row_at out x)) (k.once refl i j (in_t i hi) (in_t j hj) (agree_below i j (in_t i hi) (in_t j hj) s vs listed a)) (agree_itself all (row_at out i));
      once = λ e i j hi hj a. k.once e i j (in_t i hi) (in_t j hj) (agree_below i j (in_t i hi) (in_t j hj) s vs listed a);
      never_null = λ e i hi. not_null_above i (in_t i hi) s vs (k.never_null e i (in_t i hi));
    }
    keeps_projected Multi k = record {
      fixes = λ i j hi hj a. agree_above i j (in_t i hi) (in_t j hj) ts vt (k.fixes i j (in_t i hi) (in_t j hj) (agree_below i j (in_t i hi) (in_t j hj) s vs listed a));
      once = λ e i j hi hj a. k.once e i j (in_t i hi) (in_t j hj) (agree_below i j (in_t i hi) (in_t j hj) s vs listed a);
      never_null = λ e i hi. not_null_above i (in_t i hi) s vs (k.never_null e i (in_t i hi));
    }

pub projected_true : (proj : List ℕ) (w : ℕ) (ds : List Dep) → TrueOfProjections proj ds (projected proj w ds)
projected_true proj w ds n t out valid kept is =
    let stay = filter (sources_listed proj) ds in
    let Good : Dep → Type 0 = λ d. Keeps d t × Within n d in
    let good : AllByRecursion Good stay = all_kept_by (sources_listed proj) Good ds (all_both (λ d. Keeps d t) (Within n) Good (λ d k v. (k, v)) ds kept valid) in
    All-map (λ d. Keeps d out) (projected_dep proj (range_with_len 0 w)) stay
    (all_both Good (λ d. sources_listed proj d ≡ true) (λ d. Keeps (projected_dep proj (range_with_len 0 w) d) out)
    (λ d g listed. keeps_projected n proj t out is (range_with_len 0 w) d.sources d.targets d.nullable g.1.sources g.1.targets listed d.mode g.0) stay good (kept_by_passes (sources_listed proj) ds))
