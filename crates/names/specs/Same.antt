-- The tests behind `==`: each is true exactly where the views are equal.
use Rattle.std.specs.Prelude.{ℕ, Bool, ◌&&◌, List, [], ◌∷◌, Option, ◌==◌}
use Rattle.std.specs.Cmp.Lexicographic.{pointwise}
use Rattle.std.specs.Option.{option_eq}
use Rattle.std.specs.Str.{bytes_eq}
use Rattle.names.specs.Named.{Named, by_parts, by_text}

-- the same texts, one by one
abbrev pub same_texts : List (List ℕ) → List (List ℕ) → Bool
same_texts = pointwise bytes_eq

-- the same parts, and the same last text
abbrev pub same_parts_and_text : List (List ℕ) × List ℕ → List (List ℕ) × List ℕ → Bool
same_parts_and_text p q = same_texts p.0 q.0 && bytes_eq p.1 q.1

-- how a missing field is named, and by which texts
abbrev pub way_of : Named → ℕ
way_of (by_parts p) = 0
way_of (by_text t) = 1

abbrev pub texts_of : Named → List (List ℕ)
texts_of (by_parts p) = p.1 ∷ p.0
texts_of (by_text t) = t ∷ []

abbrev pub same_named : Named → Named → Bool
same_named a b = (way_of a == way_of b) && same_texts (texts_of a) (texts_of b)

-- the same number, and the same column
abbrev pub same_schema_error : ℕ × Named → ℕ × Named → Bool
same_schema_error p q = (p.0 == q.0) && same_named p.1 q.1

-- the same number, and the same column or none
abbrev pub same_refusal : ℕ × Option Named → ℕ × Option Named → Bool
same_refusal p q = (p.0 == q.0) && option_eq same_named p.1 q.1
