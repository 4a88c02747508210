-- The variables that lists declare, found by their names.
use Rattle.std.specs.Prelude.{List, ◌++◌}
use Rattle.moxi_sexpr.specs.Tree.{Trees}
use Rattle.moxi_terms.specs.View.{ScopeState}
use Rattle.moxi_term_reading.specs.declared.locals.Local.{Local}
use Rattle.moxi_scripts.specs.declared.parts.Command.{Command}
use Rattle.moxi_scripts.specs.declared.parts.Lists.{Lists}
use Rattle.moxi_scripts.specs.declared.parts.Turn.TheVariants.{AtKeyword}
use Rattle.moxi_scripts.specs.Entries.{locals_among, locals_found}
use Rattle.moxi_scripts.specs.Lists.{all_entries, are_shaped, possible_entries, text_entries}

-- in the order of their numbers, each with the sort of the first of its name in the order of the text
abbrev pub locals_listed : ScopeState → Lists → Command → Trees → List Local
locals_listed s l command ts =
    locals_found (locals_among (text_entries l command AtKeyword ts ++ possible_entries s (are_shaped l) ts)) (all_entries l ++ possible_entries s (are_shaped l) ts)
