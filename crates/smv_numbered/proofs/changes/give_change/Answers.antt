use Rattle.std.proofs.lemmas.List.{map-set}
use Rattle.smv_numbered.specs.Values.{stated_value}
use Rattle.smv_numbered.proofs.changes.give_change.Goals as goal

pub returns-then-k-len-clause-value : goal.returns-then-k-len-clause-value
returns-then-k-len-clause-value c = map-set stated_value c.args.stated.now.items c.args.change.now.item _
