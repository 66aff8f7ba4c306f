use Rattle.std.proofs.Common.{◌≡◌, ◌<◌, map, length, get_or, take, sym, ap, ◌∙◌, arith}
use Rattle.std.specs.Str.{bytes_eq}
use Rattle.std.proofs.lemmas.List.{get_or-map, length-map, length-take-le}
use Rattle.names.specs.Names.{text_of}
use Rattle.names.proofs.FirstPlaces.{places_few, places_listed, places_missing}
use Rattle.columns.specs.Columns.{columns_of}
use Rattle.columns.proofs.Sizes.{room_pushes}
use Rattle.reductions.specs.Meant.{column_named}
use Rattle.reductions.proofs.named.places.Goals as goal
use Rattle.reductions.proofs.named.places.Goals.{in-Some, in_default}

pub loop-name-preserved : goal.loop-name-preserved
loop-name-preserved c =
    let texts = map text_of c.args.list.now in
    let names = map text_of c.args.names.now in
    let i = c.loop-name.name-index in
    let x = c.name-item.result in
    let inside : i < length names = omega (arith, length-map c.args.names.now text_of) in
    let here : get_or names i (text_of x) ≡ text_of x = get_or-map text_of c.args.names.now i x (text_of x) c.loop-name-test.true ∙ ap text_of (sym c.name-item.is) in
    let so_far = c.loop-name.invariant in
    elim c.match-place_of.branch [
      | in-Some w ↦
          let room : length (columns_of c.loop-name.places) < 64 = omega (arith, ap length so_far, places_few bytes_eq texts (take i names), length-take-le i names (omega arith), length-map c.args.names.now text_of, c.requires) in
          let pushed = room_pushes w.push.result 64 (columns_of c.loop-name.places) _ _ w.push.ensures room in
          rw w.places-is (places_listed bytes_eq texts names i (text_of x) inside so_far w.in-Some.place (ap (column_named texts) here ∙ sym w.in-Some.ensures.found) pushed)
      | in_default w ↦ rw w.places-is (places_missing bytes_eq texts names i (text_of x) inside so_far (ap (column_named texts) here ∙ sym w.in_default.ensures.found))
    ]
