use Rattle.smv_flat.specs.FlatParts.{parts_plain}
use Rattle.smv_to_moxi.specs.Assembling.{script_form, script_under}
use Rattle.smv_to_moxi.specs.SingleView.{plain_single}
use Rattle.smv_to_moxi.proofs.Scripts.{made_is, under_is}
use Rattle.smv_to_moxi.proofs.script.coded_single.Goals as goal

pub single_of_scope-requires : goal.single_of_scope-requires
single_of_scope-requires c = c.requires.coding

pub returns : goal.returns
returns c =
    made_is plain_single c.single_of_scope.result (script_under c.in_ok-logic.logic c.declare_symbols.new.scope (parts_plain c.args.flat.now.parts) c.args.coding.now.width)
    (script_form (parts_plain c.args.flat.now.parts) c.args.coding.now.width)
    (under_is c.in_ok-logic.logic c.declare_symbols.new.scope (parts_plain c.args.flat.now.parts) c.args.coding.now.width c.in_ok-logic.ensures c.in_ok-declare_symbols.ensures)
    c.single_of_scope.ensures
