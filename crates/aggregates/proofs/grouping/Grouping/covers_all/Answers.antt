use Rattle.std.proofs.Common.{rules, ◌≡◌, false, not, ◌&&◌, eqb, map, length, sym, ap, ◌∙◌}
use Rattle.std.specs.Str.{bytes_eq}
use Rattle.names.specs.Names.{text_of}
use Rattle.columns.specs.Columns.{columns_of}
use Rattle.aggregates.specs.Grouped.{texts_in, deps_in, names_in}
use Rattle.reductions.specs.GroupByLaws.{names_at}
use Rattle.aggregates.specs.Targets.{target_columns}
use Rattle.aggregates.proofs.grouping.Grouping.covers_all.Goals as goal

pub returns-then-not-is_empty : goal.returns-then-not-is_empty
returns-then-not-is_empty c =
    let texts = texts_in c.args.self.now in
    let ds = deps_in c.args.self.now in
    let names = names_in c.args.self.now in
    let all = target_columns texts ds names in
    let some = target_columns texts ds (names_at names (columns_of c.args.places.now)) in
    let targets : columns_of c.target_columns-targets.result ≡ some = c.target_columns-targets.ensures ∙ ap (target_columns texts ds) (ap (map text_of) c.as_slice.ensures.value ∙ c.names_at-matched_names.ensures) in
    let filled : eqb (length some) 0 ≡ false = ap (λ l. eqb (length l) 0) (sym targets) ∙ sym c.if-not-is_empty.ensures in
    let same : c.eq.result ≡ bytes_eq all some = search rules in
    same ∙ sym (ap (λ b. not b && bytes_eq all some) filled)
