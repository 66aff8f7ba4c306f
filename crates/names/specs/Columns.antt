-- Columns and their full names.
use Rattle.std.specs.Prelude.{ℕ, List, [], ◌∷◌, ◌++◌, Some, None, Option}
use Rattle.names.specs.declared.column.Column.{Column}
use Rattle.names.specs.declared.table_reference.TableReference.{TableReference}
use Rattle.names.specs.Names.{Name, text_of}
use Rattle.names.specs.References.{parts_of}

-- the parts of the reference; a reference has at least one
abbrev pub relation_parts : Option TableReference → List (List ℕ)
relation_parts None = []
relation_parts (Some r) = parts_of r

-- each part and a point, then the last text
abbrev pub pointed : List (List ℕ) → List ℕ → List ℕ
pointed [] end = end
pointed (p ∷ ps) end = p ++ 46 ∷ pointed ps end

-- the full name
abbrev pub full_text : Option TableReference → Name → List ℕ
full_text r n = pointed (relation_parts r) (text_of n)

-- a column is known by the parts of its reference and its name
abbrev pub column_of : Column → List (List ℕ) × List ℕ
column_of c = (relation_parts c.relation, text_of c.name)
