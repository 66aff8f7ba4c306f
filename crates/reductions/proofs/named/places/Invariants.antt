use Rattle.std.proofs.Common.{◌≡◌, map, take}
use Rattle.std.specs.Str.{bytes_eq}
use Rattle.names.specs.FirstPlaces.{first_places}
use Rattle.names.specs.Names.{text_of}
use Rattle.columns.specs.Columns.{columns_of}
use Rattle.reductions.proofs.named.places.Given as goal

abbrev pub invariant-loop-name : goal.invariant-loop-name
invariant-loop-name l = columns_of l.places ≡ first_places bytes_eq (map text_of l.list) (take l.name-index (map text_of l.names))
