use Rattle.std.proofs.Common.{map, ap, ◌∙◌, rules}
use Rattle.std.proofs.lemmas.List.{map-id}
use Rattle.bounded.proofs.Called.{zip_views}
use Rattle.names.specs.Names.{text_of}
use Rattle.schemas.specs.Schemas.{full_name_in}
use Rattle.schemas.proofs.dfschema.DFSchema.field_names.Goals as goal

pub returns : goal.returns
returns c = zip_views _ (λ x. x) text_of full_name_in (λ x y said. search rules) _ _ c.map.ensures ∙ ap (map full_name_in) (map-id _)
