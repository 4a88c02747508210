-- A text that is read again as a script.
use Rattle.std.specs.Prelude.{ℕ, List}
use Rattle.text_core.specs.declared.place.Place.{Place}
use Rattle.moxi_sexpr.specs.Grammar.{SpellsForms}
use Rattle.moxi_sexpr.specs.Printing.{ArePrintable}
use Rattle.moxi_sexpr.specs.Tree.{Trees}
use Rattle.moxi_script_print.specs.Again.{ReadsAs}
use Rattle.moxi_scripts.specs.Script.{PlainScript}

-- the text spells printable forms, and these the script but for the place of its check, wherever the text ends
pub record ReadsBackScript (text : List ℕ) (s : PlainScript) : Type 0 where
  pub forms : Trees
  pub spelled : SpellsForms text forms
  pub printable : ArePrintable forms
  pub again : (end : Place) → ReadsAs forms end s
