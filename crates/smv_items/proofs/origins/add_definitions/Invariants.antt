use Rattle.std.proofs.Common.{◌≡◌, ◌++◌, map}
use Rattle.std.specs.Slice.Iter.{iter_rest}
use Rattle.smv_text.specs.View.{plain_definition}
use Rattle.smv_items.specs.FlatItems.{definition_item}
use Rattle.smv_items.specs.FlatOrigins.{origin_plain}
use Rattle.smv_items.proofs.origins.add_definitions.Given as goal

abbrev pub invariant-loop-definition : goal.invariant-loop-definition
invariant-loop-definition l =
    map origin_plain l.origins.items ++ map (definition_item l.i) (map plain_definition (iter_rest l.definition-iterator))
    ≡ map origin_plain l.fn.origins.items ++ map (definition_item l.i) (map plain_definition l.fn.definitions)
