-- The order of table references is total, and ties exactly where references are equal.
use Rattle.std.specs.Prelude.{◌≡◌, ◌&&◌, Some, refl, ◌==◌}
use Rattle.std.proofs.Common.{◌∙◌, ap}
use Rattle.std.proofs.Math.Bool.{and-false}
use Rattle.std.specs.Cmp.{IsTotalOrder, IsPartialOrder, on_total, then_total, nat_cmp_total, unsigned_ties, both_tied, po}
use Rattle.std.specs.Cmp.Lexicographic.{lists_total, lists_ties, nat_list_cmp_total, texts_ties}
use Rattle.std.specs.Ordering.{nat_cmp, eq_by_cmp}
use Rattle.std.specs.Str.{bytes_eq}
use Rattle.names.specs.declared.table_reference.TableReference.{TableReference}
use Rattle.names.specs.declared.table_reference.TableReference.TheVariants.{Bare, Partial, Full}
use Rattle.names.specs.Names.{text_of}
use Rattle.names.specs.Order.{rank, by_bytes, in_order}
use Rattle.names.specs.References.{parts_of}
use Rattle.names.specs.Same.{same_texts}
use Rattle.std.specs.Cmp.Lexicographic.{slice_cmp}

pub in_order_total : IsTotalOrder in_order
in_order_total = then_total (on_total rank nat_cmp_total) (on_total parts_of (lists_total nat_list_cmp_total))

-- references of two ranks have not the same parts
ranked : (a b : TableReference) → same_texts (parts_of a) (parts_of b) ≡ ((rank a == rank b) && same_texts (parts_of a) (parts_of b))
ranked (Bare t) (Bare u) = refl
ranked (Bare t) (Partial s u) = and-false (bytes_eq (text_of t) (text_of s))
ranked (Bare t) (Full c s u) = and-false (bytes_eq (text_of t) (text_of c))
ranked (Partial s t) (Bare u) = and-false (bytes_eq (text_of s) (text_of u))
ranked (Partial s t) (Partial r u) = refl
ranked (Partial s t) (Full c r u) =
    ap (λ b. bytes_eq (text_of s) (text_of c) && b) (and-false (bytes_eq (text_of t) (text_of r))) ∙ and-false (bytes_eq (text_of s) (text_of c))
ranked (Full c s t) (Bare u) = and-false (bytes_eq (text_of c) (text_of u))
ranked (Full c s t) (Partial r u) =
    ap (λ b. bytes_eq (text_of c) (text_of r) && b) (and-false (bytes_eq (text_of s) (text_of u))) ∙ and-false (bytes_eq (text_of c) (text_of r))
ranked (Full c s t) (Full d r u) = refl

pub in_order_ties : (a b : TableReference) → same_texts (parts_of a) (parts_of b) ≡ eq_by_cmp in_order a b
in_order_ties a b =
    ranked a b ∙ both_tied (rank a == rank b) (same_texts (parts_of a) (parts_of b)) (nat_cmp (rank a) (rank b)) (slice_cmp by_bytes (parts_of a) (parts_of b)) (unsigned_ties (rank a) (rank b)) (lists_ties by_bytes texts_ties (parts_of a) (parts_of b))

pub in_order_partial : IsPartialOrder (λ (a b : TableReference). same_texts (parts_of a) (parts_of b)) (λ a b. Some (in_order a b))
in_order_partial = po in_order_total in_order_ties
