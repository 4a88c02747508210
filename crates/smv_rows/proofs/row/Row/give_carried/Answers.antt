use Rattle.smv_rows.proofs.Numbered.{carries}
use Rattle.smv_rows.proofs.row.Row.give_carried.Goals as goal

pub returns : goal.returns
returns c = carries c.args.flat.now c.args.carried.now c.copy_into.new.values.items c.requires c.in_ok-copy_into.ensures
