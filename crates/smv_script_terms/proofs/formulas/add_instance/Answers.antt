use Rattle.std.proofs.Common.{map}
use Rattle.moxi_terms.specs.View.{plain}
use Rattle.smv_flat.specs.FlatParts.{parts_plain}
use Rattle.smv_script_terms.specs.Questions.{codes_of}
use Rattle.smv_script_terms.proofs.Formed.{instance_done, where_ok}
use Rattle.smv_script_terms.proofs.formulas.add_instance.Goals as goal

pub returns : goal.returns
returns c =
    where_ok _ _ c.add_forms.result
    (instance_done c.args.i (parts_plain c.args.flat.now.parts) (codes_of c.args.coding.now) c.args.when (map plain c.args.all.now.items) (map plain c.add_items.new.all.items) (map plain c.add_forms.new.all.items) c.in_ok-add_items.ensures)
    c.add_forms.ensures
