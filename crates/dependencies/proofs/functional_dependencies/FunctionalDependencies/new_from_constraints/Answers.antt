use Rattle.std.proofs.Common.{rules}
use Rattle.std.specs.List.{range_with_len}
use Rattle.std.specs.Option.{option_map}
use Rattle.names.proofs.Refused.{answers_law}
use Rattle.dependencies.specs.KeyTables.{StandForKeys}
use Rattle.constraints.specs.View.{keys_or}
use Rattle.dependencies.specs.Keys.{oversize_keys}
use Rattle.dependencies.specs.View.{deps_of}
use Rattle.dependencies.proofs.KeyLaws.{keys_stand}
use Rattle.dependencies.proofs.functional_dependencies.FunctionalDependencies.new_from_constraints.Goals as goal

pub returns-in-Some-clause-stand_for_keys : goal.returns-in-Some-clause-stand_for_keys
returns-in-Some-clause-stand_for_keys c =
    let keys = keys_or (option_map (λ x. x.now) c.args.constraints) in
    answers_law c.dependencies_of.result (oversize_keys c.args.n_field keys) deps_of _ (StandForKeys keys) (search rules) (keys_stand (range_with_len 0 c.args.n_field) keys)
