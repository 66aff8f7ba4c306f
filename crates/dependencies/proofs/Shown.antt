-- Tables whose rows show the rows of another: what they keep of its dependencies.
use Rattle.std.proofs.Common.{◌≡◌, ℕ, ◌<◌, Bool, true, false, ◌⊎◌, List, [], ◌∷◌, map, length, sym, refl, ◌∙◌, ⊎_elim, arith}
use Rattle.std.specs.List.{AllByRecursion}
use Rattle.dependencies.specs.Model.{Dep, dependence}
use Rattle.dependencies.specs.Tables.{Row, Table, null, cell_at, row_at, Agree, Keeps}
use Rattle.dependencies.specs.declared.functional_dependencies.Dependency.{Dependency}
use Rattle.dependencies.specs.declared.functional_dependencies.Dependency.TheVariants.{Multi}

pub all_both : {X : Type 0} (P Q R : X → Type 0) → ((x : X) → P x → Q x → R x) → (xs : List X) → AllByRecursion P xs → AllByRecursion Q xs → AllByRecursion R xs
all_both P Q R h [] p q = tt
all_both P Q R h (x ∷ xs) p q = (h x p.0 q.0, all_both P Q R h xs p.1 q.1)

pub agree_itself : (cs : List ℕ) (r : Row) → Agree cs r r
agree_itself [] r = tt
agree_itself (c ∷ cs) r = (refl, agree_itself cs r)

-- the row r has at g c what r' has at c
abbrev pub Shows : (ℕ → ℕ) → List ℕ → Row → Row → Type 0
Shows g cs r r' = AllByRecursion (λ c. cell_at r (g c) ≡ cell_at r' c) cs

abbrev pub NullsAt : (ℕ → ℕ) → List ℕ → Row → Type 0
NullsAt g cs r = AllByRecursion (λ c. cell_at r (g c) ≡ null) cs

module _ (g : ℕ → ℕ) where
  pub agree_back : (cs : List ℕ) (r s r' s' : Row) → Shows g cs r r' → Shows g cs s s' → Agree (map g cs) r s → Agree cs r' s'
  agree_back [] r s r' s' p q a = tt
  agree_back (c ∷ cs) r s r' s' p q a = (sym p.0 ∙ a.0 ∙ q.0, agree_back cs r s r' s' p.1 q.1 a.1)

  pub agree_forth : (cs : List ℕ) (r s r' s' : Row) → Shows g cs r r' → Shows g cs s s' → Agree cs r' s' → Agree (map g cs) r s
  agree_forth [] r s r' s' p q a = tt
  agree_forth (c ∷ cs) r s r' s' p q a = (p.0 ∙ a.0 ∙ sym q.0, agree_forth cs r s r' s' p.1 q.1 a.1)

  agree_nulls : (cs : List ℕ) (r s : Row) → NullsAt g cs r → NullsAt g cs s → Agree (map g cs) r s
  agree_nulls [] r s p q = tt
  agree_nulls (c ∷ cs) r s p q = (p.0 ∙ sym q.0, agree_nulls cs r s p.1 q.1)

  shows_never_null : (cs : List ℕ) (r r' : Row) → Shows g cs r r' → AllByRecursion (λ c. cell_at r' c ≡ null → ⊥) cs → AllByRecursion (λ c. cell_at r c ≡ null → ⊥) (map g cs)
  shows_never_null [] r r' p h = tt
  shows_never_null (c ∷ cs) r r' p h = ((λ e. h.0 (sym p.0 ∙ e)), shows_never_null cs r r' p.1 h.1)

  -- a row that shows one without nulls never agrees with one of nulls
  apart : (cs : List ℕ) → (cs ≡ [] → ⊥) → (r s r' : Row) → Shows g cs r r' → NullsAt g cs s → AllByRecursion (λ c. cell_at r' c ≡ null → ⊥) cs → Agree (map g cs) r s → ⊥
  apart [] some r s r' p q h a = some refl
  apart (c ∷ cs) some r s r' p q h a = h.0 (sym p.0 ∙ a.0 ∙ q.0)

  -- the row shows the row at i of the other table, in the columns of the dependency
  pub record ShowsAt (d : Dep) (side : Table) (r : Row) (i : ℕ) : Type 0 where
    pub within : i < length side
    pub sources : Shows g d.sources r (row_at side i)
    pub targets : Shows g d.targets r (row_at side i)

  pub record NullFor (d : Dep) (r : Row) : Type 0 where
    pub sources : NullsAt g d.sources r
    pub targets : NullsAt g d.targets r

  abbrev pub carried : Bool → Dependency → Dep → Dep
  carried n m d = dependence (map g d.sources) (map g d.targets) n m

  module _ (d : Dep) (side t : Table) (k : Keeps d side) where
    abbrev Shown : Type 0
    Shown = (i : ℕ) → i < length t → (at : ℕ) × ShowsAt d side (row_at t i) at

    agree_shown : (i j p q : ℕ) → ShowsAt d side (row_at t i) p → ShowsAt d side (row_at t j) q → Agree (map g d.sources) (row_at t i) (row_at t j) → Agree (map g d.targets) (row_at t i) (row_at t j)
    agree_shown i j p q x y a =
        agree_forth d.targets _ _ _ _ x.targets y.targets (k.fixes p q x.within y.within (agree_back d.sources _ _ _ _ x.sources y.sources a))

    -- any rows, so that the key may repeat
    pub keeps_shown : ((i : ℕ) → i < length t → (at : ℕ) × ShowsAt d side (row_at t i) at) → Keeps (carried d.nullable Multi d) t
    keeps_shown shown = record {
      fixes = λ i j hi hj a. agree_shown i j _ _ (shown i hi).1 (shown j hj).1 a;
      once = λ e. absurd (let z : ◌≡◌ {A = ℕ} 0 1 = cc in omega arith);
      never_null = λ e i hi. let x = shown i hi in shows_never_null d.sources _ _ x.1.sources (k.never_null e x.0 x.1.within);
    }

    -- each row at most once, so that the mode stays
    pub keeps_part : (from : ℕ → ℕ) → ((i j : ℕ) → i < length t → j < length t → from i ≡ from j → i ≡ j) → ((i : ℕ) → i < length t → ShowsAt d side (row_at t i) (from i)) → Keeps (carried d.nullable d.mode d) t
    keeps_part from distinct shown = record {
      fixes = λ i j hi hj a. agree_shown i j _ _ (shown i hi) (shown j hj) a;
      once = λ e i j hi hj a. distinct i j hi hj (k.once e (from i) (from j) (shown i hi).within (shown j hj).within (agree_back d.sources _ _ _ _ (shown i hi).sources (shown j hj).sources a));
      never_null = λ e i hi. shows_never_null d.sources _ _ (shown i hi).sources (k.never_null e (from i) (shown i hi).within);
    }

    -- some rows are null there: a dependency that is not nullable and has a source stays, and is nullable then
    pub keeps_padded : d.nullable ≡ false → (d.sources ≡ [] → ⊥) → ((i : ℕ) → i < length t → ((at : ℕ) × ShowsAt d side (row_at t i) at) ⊎ NullFor d (row_at t i)) → Keeps (carried true Multi d) t
    keeps_padded strict some shown = record {
      fixes = λ i j hi hj a.
          ⊎_elim
          (λ x. ⊎_elim (λ y. agree_shown i j _ _ x.1 y.1 a) (λ y. absurd (apart d.sources some _ _ _ x.1.sources y.sources (k.never_null strict x.0 x.1.within) a)) (shown j hj))
          (λ x. ⊎_elim (λ y. absurd (apart d.sources some _ _ _ y.1.sources x.sources (k.never_null strict y.0 y.1.within) (flip (map g d.sources) _ _ a))) (λ y. agree_nulls d.targets _ _ x.targets y.targets) (shown j hj))
          (shown i hi);
      once = λ e. absurd (let z : ◌≡◌ {A = ℕ} 0 1 = cc in omega arith);
      never_null = λ e. absurd (let z : ◌≡◌ {A = ℕ} 0 1 = cc in omega arith);
    } where
      flip : (cs : List ℕ) (r s : Row) → Agree cs r s → Agree cs s r
      flip [] r s a = tt
      flip (c ∷ cs) r s a = (sym a.0, flip cs r s a.1)
