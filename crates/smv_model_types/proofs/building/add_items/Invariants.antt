use Rattle.std.proofs.Common.{ℕ, List, map}
use Rattle.std.specs.Slice.Iter.{iter_rest}
use Rattle.smv_meaning.specs.Instances.{Instance}
use Rattle.smv_model_types.proofs.Walks.{Walks, adds_none}
use Rattle.smv_text.specs.declared.tree.VarKind.{VarKind}
use Rattle.smv_text.specs.View.{plain_item}
use Rattle.smv_items.specs.FlatItems.{variable_item}
use Rattle.smv_model_types.specs.Outcome.{item_typing}
use Rattle.smv_model_types.proofs.building.add_items.Given as goal

abbrev pub invariant-loop-item : goal.invariant-loop-item
invariant-loop-item l =
    (t : List Instance) (i : ℕ) (kind : VarKind)
    → Walks t item_typing (variable_item i kind) adds_none adds_none (map plain_item l.items) l.initial.built (map plain_item (iter_rest l.item-iterator)) l.built
