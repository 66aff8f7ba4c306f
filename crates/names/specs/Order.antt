-- The order of names and of table references.
use Rattle.std.specs.Prelude.{◌≡◌, ℕ, ◌<◌, List, [], ◌∷◌}
use Rattle.std.specs.declared.cmp.Ordering.{Ordering}
use Rattle.std.specs.declared.cmp.Ordering.TheVariants.{Less, Equal, Greater}
use Rattle.std.specs.Cmp.Lexicographic.{slice_cmp}
use Rattle.std.specs.Ordering.{MatchOrdering, nat_cmp, ordering_then}
use Rattle.names.specs.declared.table_reference.TableReference.{TableReference}
use Rattle.names.specs.declared.table_reference.TableReference.TheVariants.{Bare, Partial, Full}
use Rattle.names.specs.References.{parts_of}

abbrev pub ByNumber : ℕ → ℕ → Ordering → Type 0
ByNumber x y r = MatchOrdering r (x < y) (x ≡ y) (y < x)

-- the first comparison decides where it is not a tie, and else the second
abbrev pub Then : (Ordering → Type 0) → (Ordering → Type 0) → Ordering → Type 0
Then P Q r = (o : Ordering) × P o × MatchOrdering o (r ≡ o) (Q r) (r ≡ o)

-- the first pair that differs decides, and else the lengths do
abbrev pub Lex : {X : Type 0} → (X → X → Ordering → Type 0) → List X → List X → Ordering → Type 0
Lex R [] [] r = r ≡ Equal
Lex R [] (y ∷ ys) r = r ≡ Less
Lex R (x ∷ xs) [] r = r ≡ Greater
Lex R (x ∷ xs) (y ∷ ys) r = Then (R x y) (Lex R xs ys) r

-- the first byte that differs decides, and else the lengths do
abbrev pub ByBytes : List ℕ → List ℕ → Ordering → Type 0
ByBytes xs ys r = Lex ByNumber xs ys r

abbrev pub rank : TableReference → ℕ
rank (Bare t) = 0
rank (Partial s t) = 1
rank (Full c s t) = 2

-- bare before partial before full, then part by part from the widest in
abbrev pub InOrder : TableReference → TableReference → Ordering → Type 0
InOrder a b r = Then (ByNumber (rank a) (rank b)) (λ o. Lex ByBytes (parts_of a) (parts_of b) o) r

-- the functions that compute these orders
abbrev pub by_bytes : List ℕ → List ℕ → Ordering
by_bytes = slice_cmp nat_cmp

abbrev pub in_order : TableReference → TableReference → Ordering
in_order a b = ordering_then (nat_cmp (rank a) (rank b)) (slice_cmp by_bytes (parts_of a) (parts_of b))
