-- What is known of every script: some forms that can be printed spell it.
use Rattle.std.specs.Prelude.{ℕ, Option, List, map}
use Rattle.text_core.specs.declared.place.Place.{Place}
use Rattle.moxi_sexpr.specs.Printing.{ArePrintable}
use Rattle.moxi_sexpr.specs.Tree.{Trees}
use Rattle.moxi_terms.specs.View.{ScopeState}
use Rattle.moxi_scripts.specs.declared.script.System.{System}
use Rattle.moxi_scripts.specs.declared.script.Check.{Check}
use Rattle.moxi_scripts.specs.Script.{PlainScript, plain_check, plain_system}
use Rattle.moxi_scripts.specs.Spelling.{SpellsScript}

-- the plain form of a script with these parts
abbrev pub script_of : Option (List ℕ) → ScopeState → List System → Check → PlainScript
script_of logic scope systems check = record { logic = logic; scope = scope; systems = map plain_system systems; check = plain_check check }

-- these forms, whose text ends there, spell the script
pub record IsSpelled (s : PlainScript) : Type 0 where
  pub forms : Trees
  pub end : Place
  pub printable : ArePrintable forms
  pub spelled : SpellsScript forms end s
