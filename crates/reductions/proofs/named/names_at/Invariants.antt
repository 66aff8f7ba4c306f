use Rattle.std.proofs.Common.{◌≡◌, map, take}
use Rattle.bounded.specs.View.{list_of}
use Rattle.names.specs.Names.{text_of}
use Rattle.reductions.specs.Meant.{text_at}
use Rattle.reductions.proofs.named.names_at.Given as goal

abbrev pub invariant-loop-column : goal.invariant-loop-column
invariant-loop-column l = map text_of (list_of l.names) ≡ map (text_at (map text_of l.field_names)) (take l.column-index l.column-items)
