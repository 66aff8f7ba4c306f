use Rattle.std.proofs.Common.{ℕ, List, [], ◌∷◌, is_some, Some, None, Decides, Option, refl, arith}
use Rattle.std.proofs.lemmas.Bool.{false≢true}
use Rattle.std.proofs.lemmas.Bool.Decides.{Decides-at}
use Rattle.names.specs.Names.{Name}
use Rattle.names.specs.declared.table_reference.TableReference.{TableReference}
use Rattle.schemas.specs.Lookups.{SomeMeant, FirstMeant}
use Rattle.schemas.specs.Schemas.{fields_of}
use Rattle.schemas.specs.declared.dfschema.Field.{Field}
use Rattle.schemas.proofs.dfschema.DFSchema.is_column_from_schema.Goals as goal

-- a first one is found where there is one
found : (q : Option TableReference) (n : Name) (fs : List Field) (r : Option ℕ) → FirstMeant q n fs r → Decides (is_some r) (SomeMeant q n fs)
found q n [] None h = ((λ e. absurd (false≢true e)), λ s. absurd (omega (arith, s.1)))
found q n (f ∷ fs) None h = ((λ e. absurd (false≢true e)), λ s. absurd (h s.0 f (omega arith) s.1 (s.2 f)))
found q n fs (Some i) h = ((λ _. (i, h.0, h.1)), λ _. refl)

pub returns : goal.returns
returns c =
    Decides-at _ _ c.is_some.ensures (found c.args.col.now.relation c.args.col.now.name (fields_of c.args.self.now) c.maybe_index_of_column.result c.maybe_index_of_column.ensures)
