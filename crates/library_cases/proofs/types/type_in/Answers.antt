use Rattle.std.proofs.Common.{[]}
use Rattle.smv_text.specs.View.{plain}
use Rattle.smv_meaning.specs.Expressions.{paths_of}
use Rattle.smv_types.specs.laws.Known.{always_known}
use Rattle.library_cases.proofs.types.type_in.Goals as goal

pub type_of-requires : goal.type_of-requires
type_of-requires c = always_known (paths_of (plain c.args.e.now) [])
