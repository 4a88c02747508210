use Rattle.std.proofs.Common.{◌≡◌, ◌++◌, map}
use Rattle.std.specs.Slice.Iter.{iter_rest}
use Rattle.smv_text.specs.View.{plain_definition}
use Rattle.smv_names.specs.View.{declared_plain}
use Rattle.smv_names.proofs.declared.add_definitions.Given as goal
use Rattle.smv_meaning.specs.Phases.{definition_declared}

abbrev pub invariant-loop-definition : goal.invariant-loop-definition
invariant-loop-definition l = map declared_plain l.list.items ++ map definition_declared (map plain_definition (iter_rest l.definition-iterator)) ≡ map declared_plain l.fn.list.items ++ map definition_declared (map plain_definition l.definitions)
