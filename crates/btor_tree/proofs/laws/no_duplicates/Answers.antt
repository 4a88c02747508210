use Rattle.std.proofs.Common.{[]}
use Rattle.btor_tree.proofs.Alike.{none_alike, built_distinct, pushed_distinct}
use Rattle.btor_tree.proofs.laws.no_duplicates.Goals as goal

pub returns-clause-built : goal.returns-clause-built
returns-clause-built c = λ pushes. built_distinct [] pushes none_alike

pub returns-clause-kept : goal.returns-clause-kept
returns-clause-kept c = pushed_distinct
