-- Which scripts a text spells, and which steps their traces reach (MoXI, SPIN 2024).
use Rattle.std.specs.Prelude.{◌≡◌, ℕ, List, Some, slice_get}
use Rattle.text_core.specs.declared.place.Place.{Place}
use Rattle.moxi_sexpr.specs.Tree.{Trees}
use Rattle.moxi_sexpr.specs.Grammar.{SpellsForms}
use Rattle.moxi_scripts.specs.declared.script.Query.{Query}
use Rattle.moxi_scripts.specs.Script.{PlainScript}
use Rattle.moxi_scripts.specs.Spelling.{SpellsScript}
use Rattle.moxi_scripts.specs.Behaviour.{Trace}
use Rattle.moxi_scripts.specs.Meeting.{MeetsQuery}

-- the bytes spell this script
pub record SpellsText (bytes : List ℕ) (script : PlainScript) : Type 0 where
  pub forms : Trees
  pub formed : SpellsForms bytes forms
  pub end : Place
  pub spelled : SpellsScript forms end script

-- some trace meets query j of the script at step k
pub record HasTrace (script : PlainScript) (j k : ℕ) : Type 0 where
  pub query : Query
  pub there : slice_get script.check.queries j ≡ Some query
  pub trace : Trace
  pub meets : MeetsQuery script query k trace
