-- The order of table references agrees with `==`.
use Rattle.std.specs.Prelude.{◌≡◌, Some}
use Rattle.std.proofs.Common.{◌∙◌}
use Rattle.std.specs.Cmp.{IsPartialOrder, po}
use Rattle.std.specs.Ordering.{eq_by_cmp}
use Rattle.names.specs.contracts.table_reference.TableReferencePartialEq.TheImpl as equal
use Rattle.names.specs.declared.table_reference.TableReference.{TableReference}
use Rattle.names.specs.Order.{in_order}
use Rattle.names.specs.OrderLaws.{in_order_total, in_order_ties}
use Rattle.names.specs.SameLaws.{reference_eq}

pub references_tie : (a b : TableReference) → equal.ghosts.eq a b ≡ eq_by_cmp in_order a b
references_tie a b = reference_eq a b ∙ in_order_ties a b

pub references_partial : IsPartialOrder equal.ghosts.eq (λ a b. Some (in_order a b))
references_partial = po in_order_total references_tie
