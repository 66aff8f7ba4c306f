-- The names at the answered positions mean the kept columns, and rows that agree on these agree on all that the names mean.
use Rattle.std.proofs.Common.{◌≡◌, ℕ, suc, ◌<◌, Bool, true, false, cond, List, [], ◌∷◌, ◌++◌, map, length, is_some, IfSome, Some, None, Option, refl, ap, ◌∙◌, subst, arith}
use Rattle.std.specs.Option.{option_map, option_to_list as optional}
use Rattle.std.specs.List.{AllByRecursion}
use Rattle.std.specs.Str.{bytes_eq}
use Rattle.std.proofs.ByRecursion.{All-append, All-weaker}
use Rattle.std.proofs.lemmas.Slice.Eq.{bytes_eq-Decides}
use Rattle.std.proofs.lemmas.Bool.{false≢true}
use Rattle.names.specs.FirstPlaces.{first_where, first_places}
use Rattle.names.proofs.FirstPlaces.{place_passes}
use Rattle.columns.specs.Columns.{is_listed}
use Rattle.dependencies.specs.Model.{Dep}
use Rattle.dependencies.specs.Tables.{cell_at, row_at, Keeps}
use Rattle.reductions.specs.Meant.{column_named, meant, text_at}
use Rattle.reductions.specs.GroupBy.{ordered, all_columns, required_columns}
use Rattle.reductions.specs.GroupByLaws.{names_at, KeptDecide, PositionsIn}
use Rattle.reductions.proofs.Listed.{Among, all_at, all_by, among_trans, counting_lists}
use Rattle.reductions.proofs.KeptColumns.{ordered_among, ordered_all, reduced_among, reduced_all}

-- a name's place holds the name
module _ (names : List (List ℕ)) where
  abbrev place : List ℕ → Option ℕ
  place n = first_where (λ m. bytes_eq m n) names

  pub place_of : (n : List ℕ) → IfSome (place n) (λ p. (p < length names) × (text_at names p ≡ n))
  place_of n = go (place n) (place_passes (λ m. bytes_eq m n) [] names)
    where
      go : (r : Option ℕ) → IfSome r (λ p. (p < length names) × (bytes_eq (text_at names p) n ≡ true)) → IfSome r (λ p. (p < length names) × (text_at names p ≡ n))
      go None h = tt
      go (Some p) h = (h.0, (bytes_eq-Decides (text_at names p) n).0 h.1)

  pub places_within : (ns : List (List ℕ)) → AllByRecursion (λ p. p < length names) (first_places bytes_eq names ns)
  places_within [] = tt
  places_within (n ∷ ns) = All-append (λ p. p < length names) (optional (place n)) (first_places bytes_eq names ns) (one (place n) (place_of n)) (places_within ns)
    where
      one : (r : Option ℕ) → IfSome r (λ p. (p < length names) × (text_at names p ≡ n)) → AllByRecursion (λ p. p < length names) (optional r)
      one None h = tt
      one (Some p) h = (h.0, tt)

-- each entry of a list is found in it
found_too : (b : Bool) (r : Option ℕ) → is_some r ≡ true → is_some (cond b (Some 0) (option_map suc r)) ≡ true
found_too true r h = refl
found_too false None h = h
found_too false (Some p) h = refl

each_found : (ns : List (List ℕ)) → AllByRecursion (λ n. is_some (place ns n) ≡ true) ns
each_found [] = tt
each_found (n ∷ ns) =
    (ap (λ b. is_some (cond b (Some 0) (option_map suc (place ns n)))) ((bytes_eq-Decides n n).1 refl), All-weaker (λ m. is_some (place ns m) ≡ true) (λ m. is_some (place (n ∷ ns) m) ≡ true) (λ m h. found_too (bytes_eq n m) (place ns m) h) ns (each_found ns))

module _ (texts names : List (List ℕ)) where
  -- a column that its own name means, and that is asked for
  abbrev Asked : ℕ → Type 0
  Asked c = (column_named texts (text_at texts c) ≡ Some c) × (is_some (place names (text_at texts c)) ≡ true)

  meant_asked : (ns : List (List ℕ)) → AllByRecursion (λ n. is_some (place names n) ≡ true) ns → AllByRecursion Asked (meant texts ns)
  meant_asked [] found = tt
  meant_asked (n ∷ ns) found = All-append Asked (optional (column_named texts n)) (meant texts ns) (one (column_named texts n) refl (place_of texts n)) (meant_asked ns found.1)
    where
      one : (r : Option ℕ) → column_named texts n ≡ r → IfSome r (λ p. (p < length texts) × (text_at texts p ≡ n)) → AllByRecursion Asked (optional r)
      one None e h = tt
      one (Some p) e h = ((ap (column_named texts) h.1 ∙ e, ap (λ m. is_some (place names m)) h.1 ∙ found.0), tt)

  -- the names at the places of asked columns mean these columns
  names_mean : (cs : List ℕ) → AllByRecursion Asked cs → meant texts (names_at names (first_places bytes_eq names (map (text_at texts) cs))) ≡ cs
  names_mean [] h = refl
  names_mean (c ∷ cs) h = one (place names (text_at texts c)) h.0.1 (place_of names (text_at texts c)) (names_mean cs h.1)
    where
      rest : List ℕ
      rest = first_places bytes_eq names (map (text_at texts) cs)

      one : (r : Option ℕ) → is_some r ≡ true → IfSome r (λ p. (p < length names) × (text_at names p ≡ text_at texts c)) → meant texts (names_at names (first_places bytes_eq names (map (text_at texts) cs))) ≡ cs → meant texts (names_at names (optional r ++ first_places bytes_eq names (map (text_at texts) cs))) ≡ c ∷ cs
      one None e k tail = absurd (false≢true e)
      one (Some p) e k tail =
          ap (λ r. optional r ++ meant texts (names_at names (first_places bytes_eq names (map (text_at texts) cs)))) (ap (column_named texts) k.1 ∙ h.0.0) ∙ ap (λ l. c ∷ l) tail

  meant_within : Among (meant texts names) (all_columns texts)
  meant_within =
      All-weaker (λ p. p < length texts) (λ p. is_listed (all_columns texts) p ≡ true) (λ p h. counting_lists 0 (length texts) p (omega arith) (omega arith)) (meant texts names) (places_within texts names)

  module _ (ds : List Dep) where
    abbrev asked : List ℕ
    asked = ordered (all_columns texts) (meant texts names)

    abbrev kept' : List ℕ
    kept' = required_columns texts ds names

    kept_asked : AllByRecursion Asked kept'
    kept_asked =
        let among = among_trans kept' asked (meant texts names) (reduced_among (all_columns texts) asked ds) (ordered_among (all_columns texts) (meant texts names)) in
        all_by Asked kept' (λ c h. all_at Asked (meant texts names) c (meant_asked names (each_found names)) (all_at (λ z. is_listed (meant texts names) z ≡ true) kept' c among h))

    pub positions_in : PositionsIn names (first_places bytes_eq names (map (text_at texts) kept'))
    positions_in = places_within names (map (text_at texts) kept')

    pub kept_decide : KeptDecide texts ds names (first_places bytes_eq names (map (text_at texts) kept'))
    kept_decide t i j keeps hi hj agree =
        let P : ℕ → Type 0 = λ c. cell_at (row_at t i) c ≡ cell_at (row_at t j) c in
        let kept_agree : AllByRecursion P kept' = subst (λ (cs : List ℕ). AllByRecursion P cs) (names_mean kept' kept_asked) agree in
        let implies : AllByRecursion (λ d. AllByRecursion P d.sources → AllByRecursion P d.targets) ds = All-weaker (λ d. Keeps d t) (λ d. AllByRecursion P d.sources → AllByRecursion P d.targets) (λ d k. k.fixes i j hi hj) ds keeps in
        let within : Among asked (all_columns texts) = among_trans asked (meant texts names) (all_columns texts) (ordered_among (all_columns texts) (meant texts names)) meant_within in
        ordered_all P (all_columns texts) (meant texts names) meant_within (reduced_all P (all_columns texts) asked ds within implies kept_agree)
