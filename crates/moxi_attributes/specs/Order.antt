-- The lists of variables that are still to come, where they are in the order of their numbers.
use Rattle.std.specs.Prelude.{List, [], ◌++◌}
use Rattle.moxi_scripts.specs.declared.parts.Declared.{Declared}
use Rattle.moxi_scripts.specs.declared.parts.Lists.{Lists}
use Rattle.moxi_scripts.specs.Lists.{all_entries}
use Rattle.moxi_attributes.specs.declared.order.Next.{Next}
use Rattle.moxi_attributes.specs.declared.order.Next.TheVariants.{Inputs, Outputs, Locals, Nothing}

-- the variables of the lists from this one on
abbrev pub entries_from : Lists → Next → List Declared
entries_from l Inputs = all_entries l
entries_from l Outputs = l.outputs.entries ++ l.locals.entries
entries_from l Locals = l.locals.entries
entries_from l Nothing = []
