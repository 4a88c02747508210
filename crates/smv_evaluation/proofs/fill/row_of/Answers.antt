use Rattle.std.proofs.Common.{map, Option, sym, subst}
use Rattle.std.specs.Borrow.{Bor}
use Rattle.std.proofs.Common.{List}
use Rattle.smv_meaning.specs.declared.value.Given.{Given}
use Rattle.smv_evaluation.specs.Rows.{MarkedSafe}
use Rattle.smv_instances.specs.View.{instance_plain}
use Rattle.smv_evaluation.specs.View.{stated}
use Rattle.smv_evaluation.proofs.fill.row_of.Goals as goal

pub keep_all-requires-clause-safe : goal.keep_all-requires-clause-safe
keep_all-requires-clause-safe c =
    subst (λ (o : Option (Bor (List Given))). MarkedSafe (map instance_plain c.args.table.now) c.args.reach.now.marks (stated o) (stated c.args.label.now.given)) (sym c.in_ok-values_of.ensures.given) c.requires.safe
