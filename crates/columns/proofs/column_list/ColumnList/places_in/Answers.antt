use Rattle.std.proofs.Common.{◌<◌, eqb, length, get_or, take, Some, None, ap, ◌∙◌, arith}
use Rattle.std.proofs.lemmas.List.{length-take-le, take_all}
use Rattle.bounded.specs.View.{list_of}
use Rattle.names.proofs.FirstPlaces.{places_few, places_listed, places_missing}
use Rattle.columns.specs.Columns.{columns_of, places}
use Rattle.columns.proofs.Places.{first_place_is}
use Rattle.columns.proofs.column_list.ColumnList.places_in.Goals as goal
use Rattle.columns.proofs.column_list.ColumnList.places_in.Goals.{in-Some, in_default}

pub loop-column-preserved : goal.loop-column-preserved
loop-column-preserved c =
    let xs = columns_of c.args.list.now in
    let cs = c.as_slice-column-items.result.now in
    let i = c.loop-column.column-index in
    let inside = c.loop-column-test.true in
    let so_far = c.loop-column.invariant in
    elim c.match-position.branch [
      | in-Some w ↦
          let room : length (list_of c.loop-column.columns) < 64 = omega (arith, ap length so_far, places_few (λ x y. eqb x y) xs (take i cs), length-take-le i cs (omega arith), c.as_slice-column-items.ensures.few) in
          rw w.columns-is (places_listed _ xs cs i 0 inside so_far w.in-Some.place (first_place_is xs (get_or cs i 0) (Some w.in-Some.place) w.in-Some.ensures) (w.push.ensures.pushed room))
      | in_default w ↦ rw w.columns-is (places_missing _ xs cs i 0 inside so_far (first_place_is xs (get_or cs i 0) None w.in_default.ensures))
    ]

pub returns : goal.returns
returns c =
    c.loop-column.invariant ∙ ap (places (columns_of c.args.list.now)) (take_all _ _ c.loop-column-test.false ∙ c.as_slice-column-items.ensures.value)
