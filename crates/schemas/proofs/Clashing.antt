-- The names of two lists that pass alone pass together where they do not clash.
use Rattle.std.proofs.Common.{◌≡◌, ℕ, zero, suc, ◌+◌, ◌-◌, ◌<◌, ◌≤◌, ltb, ◌⊎◌, List, [], ◌∷◌, ◌++◌, map, length, get_or, Some, None, Ok, Err, Result, sym, refl, ap, ◌∙◌, subst, inl, inr, ⊎_elim, arith}
use Rattle.std.specs.List.{ContainsAt}
use Rattle.std.proofs.ByRecursion.{has_append_left, has_append_right}
use Rattle.std.proofs.lemmas.List.{get_or_append_left, get_or-append-add, get_or-append_right, length-append, map-append}
use Rattle.std.proofs.lemmas.Bool.{cases_lt, ltb-true, ltb-false}
use Rattle.names.specs.declared.column.Column.{Column}
use Rattle.names.specs.declared.error.Refusal.{Refusal}
use Rattle.names.specs.declared.error.Refusal.TheVariants.{Oversize}
use Rattle.names.specs.Columns.{column_of}
use Rattle.names.proofs.Refused.{not_refused, was_refused}
use Rattle.schemas.specs.CheckNames.{SameAt, Ambiguous, NoneAmbiguous, NamesAnswer}
use Rattle.schemas.specs.Clashes.{WithAndWithout, Clash, JoinedUnlessClash}
use Rattle.schemas.specs.Schemas.{column_in, FieldsAnswer}
use Rattle.schemas.specs.declared.dfschema.DFSchema.{DFSchema}
use Rattle.schemas.specs.declared.dfschema.Field.{Field}

-- the element at a position
at : (cs : List Column) (k : ℕ) → k < length cs → (c : Column) × ((d : Column) → get_or cs k d ≡ c)
at [] k h = absurd (omega arith)
at (c ∷ cs) zero h = (c, λ d. refl)
at (c ∷ cs) (suc k) h = at cs k (omega arith)

-- a column that is listed qualified, and one that is listed with its name alone
with_and_without : (cs : List Column) (a b : Column) → NoneAmbiguous cs → ContainsAt cs a → ContainsAt cs b → WithAndWithout a b → ⊥
with_and_without cs a b none ha hb h =
    none ha.0 a ha.1 (subst (Ambiguous cs) (sym (ha.2 a)) (h.0, (hb.0, hb.1, λ d. ap column_of (hb.2 d) ∙ h.1)))

module _ (ls rs : List Column) where
  abbrev all : List Column
  all = ls ++ rs

  -- a column of the whole list stands in one of the two
  side : (k : ℕ) → k < length all → (k < length ls) ⊎ ((k - length ls < length rs) × (length ls ≤ k))
  side k h = ⊎_elim inl (λ low. inr (omega (arith, length-append ls rs), low)) (cases_lt k (length ls))

  in_left : (k : ℕ) (c : Column) → k < length ls → ((d : Column) → get_or all k d ≡ c) → ContainsAt ls c
  in_left k c h is = (k, h, λ d. sym (get_or_append_left ls rs d k h) ∙ is d)

  in_right : (k : ℕ) (c : Column) → length ls ≤ k → k - length ls < length rs → ((d : Column) → get_or all k d ≡ c) → ContainsAt rs c
  in_right k c low h is = (k - length ls, h, λ d. sym (get_or-append_right ls rs (length ls) k d refl low) ∙ is d)

  split : (c : Column) → ContainsAt all c → ContainsAt ls c ⊎ ContainsAt rs c
  split c (k, h, is) = ⊎_elim (λ l. inl (in_left k c l is)) (λ r. inr (in_right k c r.1 r.0 is)) (side k h)

  pub no_clash : NamesAnswer all None → Clash ls rs → ⊥
  no_clash names (a, b, ha, hb, clash) =
      let same_clash : column_of a ≡ column_of b → ⊥ = λ same. names.0 (length ls + hb.0) ha.0 (omega (arith, ha.1)) (omega (arith, hb.1, length-append ls rs)) (λ d. ap column_of (get_or_append_left ls rs d ha.0 ha.1 ∙ ha.2 d) ∙ same ∙ ap column_of (sym (get_or-append-add ls rs hb.0 d ∙ hb.2 d))) in
      let in_a = has_append_left ls rs a ha in
      let in_b = has_append_right ls rs b hb in
      ⊎_elim same_clash (⊎_elim (with_and_without all a b names.1 in_a in_b) (with_and_without all b a names.1 in_b in_a)) clash

  module _ (left : NamesAnswer ls None) (right : NamesAnswer rs None) where
    repeat_clashes : (i j : ℕ) → i < length all → j < i → SameAt all j i → Clash ls rs
    repeat_clashes i j hi hj same =
        let x = at all i hi in
        let y = at all j (omega arith) in
        ⊎_elim
        (λ il. absurd (left.0 i j hj il (λ d. ap column_of (sym (get_or_append_left ls rs d j (omega arith))) ∙ same d ∙ ap column_of (get_or_append_left ls rs d i il))))
        (λ ir.
        ⊎_elim (λ jl. (y.0, x.0, in_left j y.0 jl y.1, in_right i x.0 ir.1 ir.0 x.1, inl (ap column_of (sym (y.1 x.0)) ∙ same x.0 ∙ ap column_of (x.1 x.0))))
        (λ jr. absurd (right.0 (i - length ls) (j - length ls) (omega (arith, jr.1)) ir.0 (λ d. ap column_of (sym (get_or-append_right ls rs (length ls) j d refl jr.1)) ∙ same d ∙ ap column_of (get_or-append_right ls rs (length ls) i d refl ir.1))))
        (side j (omega arith)))
        (side i hi)

    ambiguous_clashes : (a b : Column) → ContainsAt all a → ContainsAt all b → WithAndWithout a b → Clash ls rs
    ambiguous_clashes a b ha hb h =
        ⊎_elim (λ al. ⊎_elim (λ bl. absurd (with_and_without ls a b left.1 al bl h)) (λ br. (a, b, al, br, inr (inl h))) (split b hb))
        (λ ar. ⊎_elim (λ bl. (b, a, bl, ar, inr (inr h))) (λ br. absurd (with_and_without rs a b right.1 ar br h)) (split b hb)) (split a ha)

    pub clashes : (e : Refusal) → NamesAnswer all (Some e) → Clash ls rs
    clashes e (inl (i, at_i, is)) = repeat_clashes i at_i.repeats.0 at_i.within at_i.repeats.1 at_i.repeats.2
    clashes e (inr (distinct, (c, l, is))) =
        let bare = l.ambiguous.1 in
        let b = at all bare.0 bare.1 in
        ambiguous_clashes c b.0 l.listed (bare.0, bare.1, b.1) (l.ambiguous.0, ap column_of (sym (b.1 c)) ∙ bare.2 c)

pub join_clashes : (ls rs : List Field) (r : Result DFSchema Refusal) → FieldsAnswer (ls ++ rs) r → JoinedUnlessClash ls rs r
join_clashes ls rs (Ok s) said left right =
    (omega (arith, ltb-false 64 (length (ls ++ rs)) (not_refused (ltb 64 (length (ls ++ rs))) Oversize said.0), length-append ls rs), no_clash (map column_in ls) (map column_in rs) (subst (λ (cs : List Column). NamesAnswer cs None) (map-append column_in ls rs) said.1))
join_clashes ls rs (Err e) said left right =
    ⊎_elim (λ over. inl (omega (arith, ltb-true 64 (length (ls ++ rs)) (was_refused (ltb 64 (length (ls ++ rs))) Oversize e over), length-append ls rs)))
    (λ names. inr (clashes (map column_in ls) (map column_in rs) left right e (subst (λ (cs : List Column). NamesAnswer cs (Some e)) (map-append column_in ls rs) names.1))) said
