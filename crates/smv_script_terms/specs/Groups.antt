-- The lists of variables, and the numbers of their items' variables.
use Rattle.std.specs.Prelude.{ℕ, ◌+◌, ◌≤◌, List, [], ◌∷◌}
use Rattle.smv_items.specs.FlatItems.{PlainFlatItem}
use Rattle.smv_script.specs.Script.{Group as Plain, inputs, outputs, locals, group_of, group_start}
use Rattle.smv_script_terms.specs.declared.variables.Group.{Group}
use Rattle.smv_script_terms.specs.declared.variables.Group.TheVariants as group
use Rattle.smv_script_terms.specs.declared.variables.Counts.{Counts}

abbrev pub group_plain : Group → Plain
group_plain group.Inputs = inputs
group_plain group.Outputs = outputs
group_plain group.Locals = locals

-- a number for each list
pub record Numbers : Type 0 where
  pub inputs : ℕ
  pub outputs : ℕ
  pub locals : ℕ

abbrev pub counts_plain : Counts → Numbers
counts_plain c = record { inputs = c.inputs; outputs = c.outputs; locals = c.locals }

-- no number is greater than this one
pub record AreAtMost (most : ℕ) (c : Counts) : Type 0 where
  pub inputs : c.inputs ≤ most
  pub outputs : c.outputs ≤ most
  pub locals : c.locals ≤ most

abbrev pub count_of : Numbers → Plain → ℕ
count_of c inputs = c.inputs
count_of c outputs = c.outputs
count_of c locals = c.locals

-- one more in a list
abbrev pub counted_on : Numbers → Plain → Numbers
counted_on c inputs = record { inputs = c.inputs + 1; outputs = c.outputs; locals = c.locals }
counted_on c outputs = record { inputs = c.inputs; outputs = c.outputs + 1; locals = c.locals }
counted_on c locals = record { inputs = c.inputs; outputs = c.outputs; locals = c.locals + 1 }

abbrev pub start_counts : List PlainFlatItem → Numbers
start_counts items = record { inputs = group_start items inputs; outputs = group_start items outputs; locals = group_start items locals }

-- the numbers of the items' variables, given the next one in each list
abbrev pub numbers_from : Numbers → List PlainFlatItem → List ℕ
numbers_from c [] = []
numbers_from c (m ∷ ms) = count_of c (group_of m.kind) ∷ numbers_from (counted_on c (group_of m.kind)) ms
