use Rattle.std.proofs.Common.{◌≡◌, ◌<◌, Bool, true, not, length, refl, ap, arith, rules}
use Rattle.std.proofs.lemmas.Bool.{cond-true, lt-ltb}
use Rattle.std.proofs.lemmas.Result.{err_from_is_err_and}
use Rattle.bounded.proofs.Kept.{kept_over}
use Rattle.schemas.specs.Lookups.{has_column}
use Rattle.schemas.specs.Merges.{merged}
use Rattle.schemas.specs.Schemas.{fields_of}
use Rattle.schemas.specs.declared.dfschema.Field.{Field}
use Rattle.schemas.proofs.dfschema.DFSchema.merge.Goals as goal

pub returns-in_err-push-clause-answer : goal.returns-in_err-push-clause-answer
returns-in_err-push-clause-answer c =
    let fs = fields_of c.args.self.now in
    let gs = c.fields-field-items.result.now in
    let p : Field → Bool = λ f. not (has_column fs f.column) in
    let e = err_from_is_err_and c.from_residual.result c.from_residual.ensures.1 in
    let tested : p c.field-item.result ≡ true = search rules in
    let over = kept_over p fs gs c.loop-field.field-index c.field-item.result c.loop-field-test.true c.field-item.is c.loop-field.invariant tested in
    let full = c.in_err-push.ensures.cases.0 in
    let whole : merged fs gs ≡ merged fs (fields_of c.args.other_schema.now) = ap (merged fs) c.fields-field-items.ensures.value in
    let many : 64 < length (merged fs (fields_of c.args.other_schema.now)) = omega (arith, over, full, ap length whole) in
    rw (e.1, e.2) (cond-true _ _ _ (lt-ltb 64 _ many), refl)
