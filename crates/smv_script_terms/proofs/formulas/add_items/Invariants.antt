use Rattle.std.proofs.Common.{◌-◌, ◌++◌, length, map}
use Rattle.moxi_terms.specs.View.{plain}
use Rattle.smv_items.specs.FlatItemView.{item_plain}
use Rattle.smv_script.specs.Script.{item_parts}
use Rattle.smv_flat.specs.FlatParts.{parts_plain}
use Rattle.smv_script_terms.specs.Parts.{item_number, item_owned, owned_by}
use Rattle.smv_script_terms.specs.Questions.{codes_of}
use Rattle.smv_script_terms.proofs.Walked.{Walks}
use Rattle.smv_script_terms.proofs.formulas.add_items.Given as goal

abbrev pub invariant-items : goal.invariant-items
invariant-items l =
    let os = item_owned (item_parts (parts_plain l.flat.parts) (codes_of l.coding) l.when) 0 (map item_plain l.flat.parts.items.now) in
    Walks (map item_number l.flat.parts.items.now) l.i os (map plain l.all.items) (map plain l.fn.all.items ++ owned_by l.i os) l.k

abbrev pub decreases-items : goal.decreases-items
decreases-items l = length l.flat.parts.items.now - l.k
