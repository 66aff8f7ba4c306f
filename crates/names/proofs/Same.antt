-- `==` decides whether the views are equal, and so does its test, of any two views.
use Rattle.std.proofs.Common.{◌≡◌, ℕ, List, [], ◌∷◌, Some, None, Option, Decides, refl, ap, rules}
use Rattle.std.specs.Bool.{◌==◌}
use Rattle.std.specs.Cmp.{unsigned_Decides}
use Rattle.std.specs.Cmp.Lexicographic.{pointwise_decides, bytes_decides}
use Rattle.std.specs.Option.{option_eq}
use Rattle.std.specs.Str.{bytes_eq}
use Rattle.std.proofs.lemmas.Bool.{false≢true}
use Rattle.std.proofs.lemmas.Bool.Decides.{Decides-and, Decides-like}
use Rattle.names.specs.contracts.column.ColumnPartialEq.TheImpl as columns
use Rattle.names.specs.contracts.table_reference.TableReferencePartialEq.TheImpl as references
use Rattle.names.specs.declared.column.Column.{Column}
use Rattle.names.specs.declared.table_reference.TableReference.{TableReference}
use Rattle.names.specs.Columns.{column_of}
use Rattle.names.specs.Named.{Named, by_parts, by_text}
use Rattle.names.specs.References.{parts_of}
use Rattle.names.specs.Same.{texts_of, same_texts, same_parts_and_text, same_named, same_refusal}

pub reference_decides : (a b : TableReference) → Decides (references.ghosts.eq a b) (parts_of a ≡ parts_of b)
reference_decides = search rules

pub column_decides : (a b : Column) → Decides (columns.ghosts.eq a b) (column_of a ≡ column_of b)
column_decides = search rules

texts_decide : (ps qs : List (List ℕ)) → Decides (same_texts ps qs) (ps ≡ qs)
texts_decide = pointwise_decides bytes_decides

-- the same of the test of two columns' views
pub parts_and_text_decide : (p q : List (List ℕ) × List ℕ) → Decides (same_parts_and_text p q) (p ≡ q)
parts_and_text_decide p q =
    Decides-like (same_parts_and_text p q) (λ e i. (e.0 i, e.1 i)) (λ e. ((λ i. (e i).0), λ i. (e i).1)) (Decides-and (same_texts p.0 q.0) (bytes_eq p.1 q.1) (texts_decide p.0 q.0) (bytes_decides p.1 q.1))

head_is : {Y : Type 0} (p q : Y) (ps qs : List Y) → p ∷ ps ≡ q ∷ qs → p ≡ q
head_is p q ps qs e = cc

tail_is : {Y : Type 0} (p q : Y) (ps qs : List Y) → p ∷ ps ≡ q ∷ qs → ps ≡ qs
tail_is p q ps qs e = cc

pub same_named_decides : (a b : Named) → Decides (same_named a b) (a ≡ b)
same_named_decides (by_parts p) (by_parts q) =
    let one = texts_decide (p.1 ∷ p.0) (q.1 ∷ q.0) in (
      λ e. let h = one.0 e in λ i. by_parts (tail_is p.1 q.1 p.0 q.0 h i, head_is p.1 q.1 p.0 q.0 h i),
      λ e. one.1 (ap texts_of e),
    )
same_named_decides (by_parts p) (by_text u) = ((λ e. absurd (false≢true e)), λ e. cc)
same_named_decides (by_text t) (by_parts q) = ((λ e. absurd (false≢true e)), λ e. cc)
same_named_decides (by_text t) (by_text u) =
    let one = texts_decide (t ∷ []) (u ∷ []) in
    ((λ e. ap by_text (head_is t u [] [] (one.0 e))), λ e. one.1 (ap texts_of e))

option_decides : (p q : Option Named) → Decides (option_eq same_named p q) (p ≡ q)
option_decides None None = ((λ _. refl), λ _. refl)
option_decides None (Some b) = ((λ e. absurd (false≢true e)), λ e. cc)
option_decides (Some a) None = ((λ e. absurd (false≢true e)), λ e. cc)
option_decides (Some a) (Some b) =
    let one = same_named_decides a b in ((λ e. ap Some (one.0 e)), λ e. one.1 (let h : a ≡ b = cc in h))

pub same_refusal_decides : (p q : ℕ × Option Named) → Decides (same_refusal p q) (p ≡ q)
same_refusal_decides p q =
    Decides-like (same_refusal p q) (λ e i. (e.0 i, e.1 i)) (λ e. ((λ i. (e i).0), λ i. (e i).1)) (Decides-and (p.0 == q.0) (option_eq same_named p.1 q.1) (unsigned_Decides p.0 q.0) (option_decides p.1 q.1))
