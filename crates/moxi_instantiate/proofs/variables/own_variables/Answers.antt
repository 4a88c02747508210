use Rattle.std.proofs.Common.{[], refl}
use Rattle.moxi_scripts.specs.Script.{plain_check}
use Rattle.moxi_instantiate.proofs.Named.{own_are}
use Rattle.moxi_instantiate.proofs.variables.own_variables.Goals as goal

pub returns : goal.returns
returns c =
    own_are (plain_check c.args.check.now) c.new-all.result c.add_named.new.all c.add_named-2.new.all c.add_named-3.new.all [] [] [] c.new-all.ensures refl refl refl
    c.in_ok-add_named.ensures c.in_ok-add_named-2.ensures c.in_ok-add_named-3.ensures
