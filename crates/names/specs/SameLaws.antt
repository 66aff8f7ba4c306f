-- What `==` says is the test of the views, and these tests are equivalences.
use Rattle.std.specs.Prelude.{◌≡◌, ℕ, ◌&&◌, List, ◌==◌, Some, None, Option, refl}
use Rattle.std.specs.Cmp.{IsEquivalence, and_equiv, on_equiv, nat_eq_equiv}
use Rattle.std.specs.Cmp.Lexicographic.{lists_equiv, options_equiv, nat_list_eq_equiv}
use Rattle.std.proofs.Common.{◌∙◌, sym, ap}
use Rattle.std.proofs.Math.Bool.{and-false, and-true, and_comm}
use Rattle.std.specs.Option.{option_eq}
use Rattle.std.specs.Str.{bytes_eq}
use Rattle.names.specs.contracts.column.ColumnPartialEq.TheImpl as columns
use Rattle.names.specs.contracts.error.MissingFieldPartialEq.TheImpl as missing
use Rattle.names.specs.contracts.error.RefusalPartialEq.TheImpl as refusals
use Rattle.names.specs.contracts.error.SchemaErrorPartialEq.TheImpl as schema_errors
use Rattle.names.specs.contracts.table_reference.TableReferencePartialEq.TheImpl as references
use Rattle.names.specs.declared.column.Column.{Column}
use Rattle.names.specs.declared.error.MissingField.{MissingField}
use Rattle.names.specs.declared.error.MissingField.TheVariants as field
use Rattle.names.specs.declared.error.Refusal.{Refusal}
use Rattle.names.specs.declared.error.Refusal.TheVariants.{Schema}
use Rattle.names.specs.declared.error.SchemaError.{SchemaError}
use Rattle.names.specs.declared.error.SchemaError.TheVariants.{DuplicateQualifiedField, DuplicateUnqualifiedField, AmbiguousReference, FieldNotFound}
use Rattle.names.specs.declared.table_reference.TableReference.{TableReference}
use Rattle.names.specs.declared.table_reference.TableReference.TheVariants.{Bare, Partial, Full}
use Rattle.names.specs.Columns.{column_of, relation_parts}
use Rattle.names.specs.Named.{Named, by_parts, missing_of, schema_of, refusal_of}
use Rattle.names.specs.Names.{text_of}
use Rattle.names.specs.References.{parts_of}
use Rattle.names.specs.Refusals.{number_of, schema_number}
use Rattle.names.specs.Same.{same_texts, same_parts_and_text, way_of, texts_of, same_named, same_schema_error, same_refusal}

pub reference_eq : (a b : TableReference) → references.ghosts.eq a b ≡ same_texts (parts_of a) (parts_of b)
reference_eq (Bare t) (Bare u) = sym (and-true (bytes_eq (text_of t) (text_of u)))
reference_eq (Partial s t) (Partial r u) = ap (λ b. bytes_eq (text_of s) (text_of r) && b) (sym (and-true (bytes_eq (text_of t) (text_of u))))
reference_eq (Full c s t) (Full d r u) =
    ap (λ b. bytes_eq (text_of c) (text_of d) && (bytes_eq (text_of s) (text_of r) && b)) (sym (and-true (bytes_eq (text_of t) (text_of u))))
reference_eq (Bare t) (Partial r u) = sym (and-false (bytes_eq (text_of t) (text_of r)))
reference_eq (Bare t) (Full d r u) = sym (and-false (bytes_eq (text_of t) (text_of d)))
reference_eq (Partial s t) (Bare u) = sym (and-false (bytes_eq (text_of s) (text_of u)))
reference_eq (Full c s t) (Bare u) = sym (and-false (bytes_eq (text_of c) (text_of u)))
reference_eq (Partial s t) (Full d r u) =
    sym (and-false (bytes_eq (text_of s) (text_of d))) ∙ ap (λ b. bytes_eq (text_of s) (text_of d) && b) (sym (and-false (bytes_eq (text_of t) (text_of r))))
reference_eq (Full c s t) (Partial r u) =
    sym (and-false (bytes_eq (text_of c) (text_of r))) ∙ ap (λ b. bytes_eq (text_of c) (text_of r) && b) (sym (and-false (bytes_eq (text_of s) (text_of u))))

pub relation_eq : (r s : Option TableReference) → option_eq references.ghosts.eq r s ≡ same_texts (relation_parts r) (relation_parts s)
relation_eq None None = refl
relation_eq None (Some (Bare t)) = refl
relation_eq None (Some (Partial s t)) = refl
relation_eq None (Some (Full c s t)) = refl
relation_eq (Some (Bare t)) None = refl
relation_eq (Some (Partial s t)) None = refl
relation_eq (Some (Full c s t)) None = refl
relation_eq (Some r) (Some s) = reference_eq r s

pub column_eq : (a b : Column) → columns.ghosts.eq a b ≡ same_parts_and_text (column_of a) (column_of b)
column_eq a b = ap (λ r. r && bytes_eq (text_of a.name) (text_of b.name)) (relation_eq a.relation b.relation)

column_named : (a b : Column) → columns.ghosts.eq a b ≡ same_named (by_parts (column_of a)) (by_parts (column_of b))
column_named a b = column_eq a b ∙ and_comm (same_texts (relation_parts a.relation) (relation_parts b.relation)) (bytes_eq (text_of a.name) (text_of b.name))

pub missing_eq : (a b : MissingField) → missing.ghosts.eq a b ≡ same_named (missing_of a) (missing_of b)
missing_eq (field.Column a) (field.Column b) = column_named a b
missing_eq (field.FullName a) (field.FullName b) = sym (and-true (bytes_eq (text_of a) (text_of b)))
missing_eq (field.Column a) (field.FullName b) = refl
missing_eq (field.FullName a) (field.Column b) = refl

pub schema_error_eq : (a b : SchemaError) → schema_errors.ghosts.eq a b ≡ same_schema_error (schema_of a) (schema_of b)
schema_error_eq (AmbiguousReference a) (AmbiguousReference b) = column_named a b
schema_error_eq (DuplicateQualifiedField q a) (DuplicateQualifiedField p b) =
    ap (λ r. r && bytes_eq (text_of a) (text_of b)) (reference_eq q p) ∙ and_comm (same_texts (parts_of q) (parts_of p)) (bytes_eq (text_of a) (text_of b))
schema_error_eq (DuplicateUnqualifiedField a) (DuplicateUnqualifiedField b) = sym (and-true (bytes_eq (text_of a) (text_of b)))
schema_error_eq (FieldNotFound a) (FieldNotFound b) = missing_eq a b
schema_error_eq _ _ = refl

pub refusal_eq : (a b : Refusal) → refusals.ghosts.eq a b ≡ same_refusal (refusal_of a) (refusal_of b)
refusal_eq (Schema a) (Schema b) = schema_error_eq a b
refusal_eq (Schema a) b = sym (and-false (schema_number a == number_of b))
refusal_eq a (Schema b) = sym (and-false (number_of a == schema_number b))
refusal_eq _ _ = refl

pub same_texts_equiv : IsEquivalence same_texts
same_texts_equiv = lists_equiv nat_list_eq_equiv

pub same_parts_and_text_equiv : IsEquivalence same_parts_and_text
same_parts_and_text_equiv = and_equiv (on_equiv (λ (p : List (List ℕ) × List ℕ). p.0) same_texts_equiv) (on_equiv (λ (p : List (List ℕ) × List ℕ). p.1) nat_list_eq_equiv)

pub same_named_equiv : IsEquivalence same_named
same_named_equiv = and_equiv (on_equiv way_of nat_eq_equiv) (on_equiv texts_of same_texts_equiv)

pub same_schema_error_equiv : IsEquivalence same_schema_error
same_schema_error_equiv = and_equiv (on_equiv (λ (p : ℕ × Named). p.0) nat_eq_equiv) (on_equiv (λ (p : ℕ × Named). p.1) same_named_equiv)

pub same_refusal_equiv : IsEquivalence same_refusal
same_refusal_equiv = and_equiv (on_equiv (λ (p : ℕ × Option Named). p.0) nat_eq_equiv) (on_equiv (λ (p : ℕ × Option Named). p.1) (options_equiv same_named_equiv))
