-- How many constants the enumerations of a script have, by the length of its text: each stands as an atom of its own in the text,
-- and each atom takes one byte or more.
use Rattle.std.specs.Prelude.{ℕ, ◌≤◌, ◌^◌, List, length}
use Rattle.std.specs.List.{AllByRecursion}
use Rattle.text_core.specs.declared.place.Place.{Place}
use Rattle.word_core.specs.declared.word.TheConstants.{WIDEST}
use Rattle.moxi_sexpr.specs.Tree.{Trees}
use Rattle.moxi_sexpr.specs.Grammar.{SpellsForms}
use Rattle.moxi_terms.specs.declared.term.Enumeration.{Enumeration}
use Rattle.moxi_scripts.specs.Script.{PlainScript}
use Rattle.moxi_scripts.specs.Spelling.{SpellsScript}
use Rattle.moxi_lines.specs.TermLaws.{HaveCodes}

-- no enumeration of a script has more constants than its text has bytes
abbrev pub ConstantsAreFew : Type 0
ConstantsAreFew = (text : List ℕ) (ts : Trees) (end : Place) (s : PlainScript) → SpellsForms text ts → SpellsScript ts end s
    → AllByRecursion (λ (e : Enumeration). length e.constants ≤ length text) s.scope.enumerations

-- where the text has no more bytes than there are words of the greatest width, the places of each enumeration's constants have words
abbrev pub CodesAreFew : Type 0
CodesAreFew = (text : List ℕ) (ts : Trees) (end : Place) (s : PlainScript) → length text ≤ 2 ^ WIDEST → SpellsForms text ts → SpellsScript ts end s
    → HaveCodes s.scope.enumerations
