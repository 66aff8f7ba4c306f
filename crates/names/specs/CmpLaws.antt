-- What `cmp` says is in the order that the relations say.
use Rattle.std.specs.Prelude.{◌≡◌, ℕ, List, [], ◌∷◌, refl}
use Rattle.std.specs.declared.cmp.Ordering.{Ordering}
use Rattle.std.specs.declared.cmp.Ordering.TheVariants.{Less, Equal, Greater}
use Rattle.std.specs.Cmp.{ranks}
use Rattle.std.specs.Cmp.Lexicographic.{slice_cmp}
use Rattle.std.specs.Ordering.{nat_cmp, ordering_then}
use Rattle.names.specs.declared.table_reference.TableReference.{TableReference}
use Rattle.names.specs.Order.{ByNumber, Then, Lex, ByBytes, InOrder, rank, by_bytes, in_order}
use Rattle.names.specs.References.{parts_of}

pub then_equal : (o : Ordering) → o ≡ ordering_then o Equal
then_equal Less = refl
then_equal Equal = refl
then_equal Greater = refl

-- the answer of one comparison and then another
then_of : (P Q : Ordering → Type 0) (o p : Ordering) → P o → Q p → Then P Q (ordering_then o p)
then_of P Q Less p x y = (Less, x, refl)
then_of P Q Equal p x y = (Equal, x, y)
then_of P Q Greater p x y = (Greater, x, refl)

lexical : {X : Type 0} (R : X → X → Ordering → Type 0) (cmp : X → X → Ordering) → ((x y : X) → R x y (cmp x y)) → (xs ys : List X) → Lex R xs ys (slice_cmp cmp xs ys)
lexical R cmp each [] [] = refl
lexical R cmp each [] (y ∷ ys) = refl
lexical R cmp each (x ∷ xs) [] = refl
lexical R cmp each (x ∷ xs) (y ∷ ys) = then_of (R x y) (Lex R xs ys) (cmp x y) (slice_cmp cmp xs ys) (each x y) (lexical R cmp each xs ys)

pub bytes_ordered : (xs ys : List ℕ) → ByBytes xs ys (by_bytes xs ys)
bytes_ordered = lexical ByNumber nat_cmp ranks

pub in_order_ordered : (a b : TableReference) → InOrder a b (in_order a b)
in_order_ordered a b =
    then_of (ByNumber (rank a) (rank b)) (λ o. Lex ByBytes (parts_of a) (parts_of b) o) (nat_cmp (rank a) (rank b)) (slice_cmp by_bytes (parts_of a) (parts_of b)) (ranks (rank a) (rank b)) (lexical ByBytes by_bytes bytes_ordered (parts_of a) (parts_of b))
