use Rattle.std.proofs.Common.{◌≡◌, ℕ, ◌<◌, Bool, true, List, map, length, Option, sym, ◌∙◌, MatchOption}
use Rattle.std.specs.List.{HoldsAt, AllWithin}
use Rattle.std.specs.Str.{bytes_eq}
use Rattle.std.proofs.lemmas.Slice.Eq.{bytes_eq-Decides}
use Rattle.names.specs.Names.{FullName, text_of}
use Rattle.names.specs.FirstPlaces.{first_where}
use Rattle.names.proofs.FirstPlaces.{first_where_map, first_where_is, told}
use Rattle.reductions.proofs.named.place_of.Goals as goal

abbrev Same : FullName → FullName → Type 0
Same y x = text_of y ≡ text_of x

abbrev is_named : FullName → FullName → Bool
is_named y x = bytes_eq (text_of y) (text_of x)

first_named : (list : List FullName) (x : FullName) (r : Option ℕ) → MatchOption r (AllWithin (λ y. ¬ (is_named y x ≡ true)) list 0 (length list)) (λ i. (i < length list) × HoldsAt (λ y. is_named y x ≡ true) list i × AllWithin (λ y. ¬ (is_named y x ≡ true)) list 0 i) → first_where (λ t. bytes_eq t (text_of x)) (map text_of list) ≡ r
first_named list x r h =
    first_where_map (λ t. bytes_eq t (text_of x)) text_of list ∙ first_where_is (λ y. is_named y x) (λ y. Same y x) (λ y. bytes_eq-Decides (text_of y) (text_of x)) list r (told is_named x (λ y. Same y x) (λ y. bytes_eq-Decides (text_of y) (text_of x)) list r h)

pub returns-clause-found : goal.returns-clause-found
returns-clause-found c = sym (first_named c.args.list.now c.args.name.now c.first_position.result c.first_position.ensures)
