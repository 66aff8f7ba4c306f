-- The order of columns: by reference, then by name, as bytes.
use Rattle.std.specs.Prelude.{ℕ, List, Some, None, Option}
use Rattle.std.specs.declared.cmp.Ordering.{Ordering}
use Rattle.std.specs.Cmp.{IsTotalOrder, nat_cmp_total, then_total, on_total}
use Rattle.std.specs.Cmp.Lexicographic.{slice_cmp, lists_total, nat_list_cmp_total}
use Rattle.std.specs.Ordering.{nat_cmp, ordering_then}
use Rattle.names.specs.declared.column.Column.{Column}
use Rattle.names.specs.declared.table_reference.TableReference.{TableReference}
use Rattle.names.specs.Columns.{relation_parts}
use Rattle.names.specs.Names.{text_of}
use Rattle.names.specs.Order.{by_bytes, rank}

-- bare before partial before full before no reference
abbrev pub relation_rank : Option TableReference → ℕ
relation_rank None = 3
relation_rank (Some r) = rank r

-- what decides: the form of the reference, its parts from the widest in, the name
abbrev pub column_key : Column → (ℕ × List (List ℕ)) × List ℕ
column_key c = ((relation_rank c.relation, relation_parts c.relation), text_of c.name)

-- the form of the reference, else its parts, else the name
abbrev pub compare_keys : (ℕ × List (List ℕ)) × List ℕ → (ℕ × List (List ℕ)) × List ℕ → Ordering
compare_keys x y = ordering_then (ordering_then (nat_cmp x.0.0 y.0.0) (slice_cmp by_bytes x.0.1 y.0.1)) (by_bytes x.1 y.1)

pub column_order : IsTotalOrder compare_keys
column_order =
    then_total (on_total (λ (p : (ℕ × List (List ℕ)) × List ℕ). p.0) (then_total (on_total (λ (p : ℕ × List (List ℕ)). p.0) nat_cmp_total) (on_total (λ (p : ℕ × List (List ℕ)). p.1) (lists_total nat_list_cmp_total)))) (on_total (λ (p : (ℕ × List (List ℕ)) × List ℕ). p.1) nat_list_cmp_total)

abbrev pub compare_columns : Column → Column → Ordering
compare_columns a b = compare_keys (column_key a) (column_key b)
