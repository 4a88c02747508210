-- How many names a module declares.
use Rattle.std.specs.Prelude.{ℕ, ◌+◌, if◌then◌else◌, length, sum_by}
use Rattle.smv_text.specs.Tree.{PlainElement, vars, defines, PlainModule}
use Rattle.smv_instances.specs.NameMap.{is_small}

abbrev pub names_of_element : PlainElement → ℕ
names_of_element (vars kind items) = length items
names_of_element (defines ds) = length ds
names_of_element e = 0

-- the parameters, the variables and the definitions
abbrev pub names_of : PlainModule → ℕ
names_of m = length m.parameters + sum_by names_of_element m.elements

-- those that have rows
abbrev pub stored_names_of : PlainModule → ℕ
stored_names_of m = if is_small m then 0 else names_of m
