-- The first phases of checks, which need no instances.
use Rattle.std.specs.Prelude.{List, ◌++◌}
use Rattle.smv_text.specs.Tree.{PlainSource}
use Rattle.smv_meaning.specs.Instances.{instances_of}
use Rattle.smv_meaning.specs.Checks.{Check}
use Rattle.smv_meaning.specs.Phases.{module_checks, declaration_checks, size_checks}

-- modules, declarations and sizes
abbrev pub early_checks : PlainSource → List Check
early_checks source =
    module_checks source ++ declaration_checks source.modules (instances_of source) 0 1 (instances_of source) ++ size_checks source
