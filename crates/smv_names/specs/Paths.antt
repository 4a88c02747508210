-- The paths of definitions and of assignments.
use Rattle.std.specs.Prelude.{List, [], ◌∷◌}
use Rattle.smv_text.specs.declared.tree.Path.{Path}
use Rattle.smv_text.specs.Tree.{PlainDefinition, PlainAssignment}
use Rattle.smv_meaning.specs.Expressions.{paths_of}

abbrev pub definition_paths : PlainDefinition → List Path
definition_paths d = paths_of d.body []

abbrev pub assignment_paths : PlainAssignment → List Path
assignment_paths a = a.target ∷ paths_of a.body []
