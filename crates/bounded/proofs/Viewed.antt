-- A loop that pushes what it makes of each element, or of each that passes p, seen through views of what it reads and
-- of what it makes: after i turns, what g makes of the views of the first i.
use Rattle.std.proofs.Common.{◌≡◌, ℕ, suc, ◌+◌, ◌<◌, ◌≤◌, Bool, true, false, cond, ◌||◌, List, [], ◌∷◌, ◌++◌, map, length, get_or, take, filter, refl, sym, ap, ◌∙◌, arith}
use Rattle.std.specs.List.{list_all, list_any}
use Rattle.std.proofs.lemmas.Bool.{cond_both, and_from}
use Rattle.std.proofs.lemmas.List.{append-nil, get_or-map, length-map, length-take-le, map-append, map_more, take_all}
use Rattle.std.proofs.lemmas.List.Elements.{filter_more}
use Rattle.std.proofs.lemmas.List.Folds.{list_all_more, list_all_at}

module _ {X Y V W : Type 0} (v : X → V) (w : Y → W) (g : V → W) (xs : List X) (i : ℕ) where
  at : (x : X) → i < length xs → x ≡ get_or xs i x → get_or (map v xs) i (v x) ≡ v x
  at x h here = get_or-map v xs i x (v x) h ∙ ap v (sym here)

  grown : (ys : List Y) (y : Y) {zs : List Y} → zs ≡ ys ++ y ∷ [] → map w zs ≡ map w ys ++ w y ∷ []
  grown ys y pushed = ap (map w) pushed ∙ map-append w ys (y ∷ [])

  pub made_more : (x : X) (ys : List Y) (y : Y) {zs : List Y} → map w ys ≡ map g (take i (map v xs)) → i < length xs → x ≡ get_or xs i x → w y ≡ g (v x) → zs ≡ ys ++ y ∷ [] → map w zs ≡ map g (take (i + 1) (map v xs))
  made_more x ys y so_far h here is pushed =
      grown ys y pushed ∙ ap (λ l. l ++ w y ∷ []) so_far ∙ ap (λ z. map g (take i (map v xs)) ++ z ∷ []) (is ∙ ap g (sym (at x h here)))
      ∙ sym (map_more g (map v xs) i (v x) (omega (arith, length-map xs v)))

  pub made_room : (ys : List Y) → map w ys ≡ map g (take i (map v xs)) → i ≤ length xs → length ys ≡ i
  made_room ys so_far h =
      sym (length-map ys w) ∙ ap length so_far ∙ length-map (take i (map v xs)) g ∙ length-take-le i (map v xs) (omega (arith, length-map xs v))

  pub made_all : (ys : List Y) → map w ys ≡ map g (take i (map v xs)) → length xs ≤ i → map w ys ≡ map g (map v xs)
  made_all ys so_far h = so_far ∙ ap (map g) (take_all i (map v xs) (omega (arith, length-map xs v)))

  module _ (p : V → Bool) where
    more : (x : X) (b : Bool) → i < length xs → x ≡ get_or xs i x → p (v x) ≡ b → filter p (take (i + 1) (map v xs)) ≡ filter p (take i (map v xs)) ++ cond b (v x ∷ []) []
    more x b h here test =
        let front = filter p (take i (map v xs)) in
        filter_more p (map v xs) i (v x) (omega (arith, length-map xs v)) ∙ ap (λ z. front ++ cond (p z) (z ∷ []) []) (at x h here) ∙ ap (λ c. front ++ cond c (v x ∷ []) []) test

    -- the same of a list that is known by its views alone
    pub seen_more : (x : X) (out : List W) (y : W) {seen : List W} → out ≡ map g (filter p (take i (map v xs))) → i < length xs → x ≡ get_or xs i x → p (v x) ≡ true → y ≡ g (v x) → seen ≡ out ++ y ∷ [] → seen ≡ map g (filter p (take (i + 1) (map v xs)))
    seen_more x out y so_far h here test is pushed =
        pushed ∙ ap (λ l. l ++ y ∷ []) so_far ∙ ap (λ z. map g (filter p (take i (map v xs))) ++ z ∷ []) is
        ∙ sym (ap (map g) (more x true h here test) ∙ map-append g (filter p (take i (map v xs))) (v x ∷ []))

    pub sifted_more : (x : X) (ys : List Y) (y : Y) {zs : List Y} → map w ys ≡ map g (filter p (take i (map v xs))) → i < length xs → x ≡ get_or xs i x → p (v x) ≡ true → w y ≡ g (v x) → zs ≡ ys ++ y ∷ [] → map w zs ≡ map g (filter p (take (i + 1) (map v xs)))
    sifted_more x ys y so_far h here test is pushed = seen_more x (map w ys) (w y) so_far h here test is (grown ys y pushed)

    pub seen_skip : (x : X) (out : List W) → out ≡ map g (filter p (take i (map v xs))) → i < length xs → x ≡ get_or xs i x → p (v x) ≡ false → out ≡ map g (filter p (take (i + 1) (map v xs)))
    seen_skip x out so_far h here test = so_far ∙ sym (ap (map g) (more x false h here test ∙ append-nil _))

    pub sifted_skip : (x : X) (ys : List Y) {zs : List Y} → map w ys ≡ map g (filter p (take i (map v xs))) → i < length xs → x ≡ get_or xs i x → p (v x) ≡ false → zs ≡ ys → map w zs ≡ map g (filter p (take (i + 1) (map v xs)))
    sifted_skip x ys so_far h here test same = ap (map w) same ∙ seen_skip x (map w ys) so_far h here test

    short : (vs : List V) → length (filter p vs) ≤ length vs
    short [] = omega arith
    short (u ∷ us) = cond_both (p u) _ _ (λ l. length l ≤ suc (length us)) (λ _. omega (arith, short us)) (λ _. omega (arith, short us))

    pub seen_room : (out : List W) → out ≡ map g (filter p (take i (map v xs))) → i ≤ length xs → length out ≤ i
    seen_room out so_far h =
        omega (arith, ap length so_far, length-map (filter p (take i (map v xs))) g, short (take i (map v xs)), length-take-le i (map v xs) (omega (arith, length-map xs v)))

    pub sifted_room : (ys : List Y) → map w ys ≡ map g (filter p (take i (map v xs))) → i ≤ length xs → length ys ≤ i
    sifted_room ys so_far h = omega (arith, length-map ys w, seen_room (map w ys) so_far h)

    pub sifted_all : (ys : List Y) → map w ys ≡ map g (filter p (take i (map v xs))) → length xs ≤ i → map w ys ≡ map g (filter p (map v xs))
    sifted_all ys so_far h = so_far ∙ ap (λ l. map g (filter p l)) (take_all i (map v xs) (omega (arith, length-map xs v)))

-- a test of the views of what was read
module _ {X V : Type 0} (v : X → V) (p : V → Bool) (xs : List X) (i : ℕ) (x : X) where
  pub passed_more : list_all p (take i (map v xs)) ≡ true → i < length xs → x ≡ get_or xs i x → p (v x) ≡ true → list_all p (take (i + 1) (map v xs)) ≡ true
  passed_more all h here good =
      list_all_more p (map v xs) i (v x) (omega (arith, length-map xs v)) ∙ and_from _ _ all (ap p (at v v (λ u. u) xs i x h here) ∙ good)

  pub one_fails : i < length xs → x ≡ get_or xs i x → p (v x) ≡ false → list_all p (map v xs) ≡ false
  one_fails h here bad = list_all_at p (map v xs) i (v x) (omega (arith, length-map xs v)) (ap p (at v v (λ u. u) xs i x h here) ∙ bad)

pub list_any_map : {X V : Type 0} (v : X → V) (p : V → Bool) (xs : List X) → list_any p (map v xs) ≡ list_any (λ x. p (v x)) xs
list_any_map v p [] = refl
list_any_map v p (x ∷ xs) = ap (λ b. p (v x) || b) (list_any_map v p xs)
