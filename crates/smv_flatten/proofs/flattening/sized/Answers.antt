use Rattle.std.proofs.Common.{map}
use Rattle.smv_text.specs.View.{plain_source}
use Rattle.smv_instances.specs.View.{instance_plain}
use Rattle.smv_flatten.proofs.Models.{differ, few}
use Rattle.smv_flatten.proofs.flattening.sized.Goals as goal

pub returns-clause-few : goal.returns-clause-few
returns-clause-few c = few (plain_source c.args.source.now) (map instance_plain c.in_ok-model.model.table) c.requires.read c.in_ok-model.ensures.checks c.in_ok-model.ensures.table

pub returns-clause-differ : goal.returns-clause-differ
returns-clause-differ c = differ (plain_source c.args.source.now) (map instance_plain c.in_ok-model.model.table) c.in_ok-declarations_checked.ensures c.in_ok-model.ensures.table
