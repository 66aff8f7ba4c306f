use Rattle.std.proofs.Common.{Ok, rules}
use Rattle.dependencies.specs.View.{deps_of}
use Rattle.dependencies.proofs.JoinLaws.{joined_law}
use Rattle.dependencies.proofs.functional_dependencies.FunctionalDependencies.join.Goals as goal

pub returns-in-LeftSemi-clause-true_of_joins : goal.returns-in-LeftSemi-clause-true_of_joins
returns-in-LeftSemi-clause-true_of_joins c =
    joined_law c.args.join_type c.args.left_cols_len (deps_of c.args.self.now) (deps_of c.args.other.now) (Ok c.args.self.now) (search rules)

pub returns-in-RightSemi-clause-true_of_joins : goal.returns-in-RightSemi-clause-true_of_joins
returns-in-RightSemi-clause-true_of_joins c =
    joined_law c.args.join_type c.args.left_cols_len (deps_of c.args.self.now) (deps_of c.args.other.now) (Ok c.args.other.now) (search rules)
