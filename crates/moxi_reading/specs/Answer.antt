-- What the reader of scripts answers, and which of failing tests is the first.
use Rattle.std.specs.Prelude.{◌≡◌, Some, Result, Ok, Err}
use Rattle.text_core.specs.declared.end.End.{End}
use Rattle.text_core.specs.declared.end.End.TheVariants.{Bad, NoMemory}
use Rattle.text_core.specs.declared.place.Place.{Place}
use Rattle.text_core.specs.declared.place.Refusal.{Refusal}
use Rattle.moxi_sexpr.specs.Tree.{Trees}
use Rattle.moxi_term_reading.specs.Failures.{least}
use Rattle.moxi_scripts.specs.declared.script.Script.{Script}
use Rattle.moxi_scripts.specs.Script.{PlainScript}
use Rattle.moxi_scripts.specs.ScriptView.{plain_script}
use Rattle.moxi_scripts.specs.Spelling.{script_failures}
use Rattle.moxi_scripts.specs.Kinds.{HasScriptKind, IsFirst}

-- of the failing tests of these forms the least; want of memory says nothing of them
abbrev pub IsFirstFailure : Trees → Place → End → Type 0
IsFirstFailure ts end (Bad r) = least (script_failures ts end) ≡ Some r
IsFirstFailure ts end NoMemory = Unit {0}

-- the answer is this script, unless memory runs out
abbrev pub IsScript : PlainScript → Result Script End → Type 0
IsScript s (Ok x) = plain_script x ≡ s
IsScript s (Err (Bad r)) = ⊥
IsScript s (Err NoMemory) = Unit {0}

-- the answer is this refusal, unless memory runs out
abbrev pub IsRefusal : Refusal → Result Script End → Type 0
IsRefusal r (Ok x) = ⊥
IsRefusal r (Err (Bad f)) = f ≡ r
IsRefusal r (Err NoMemory) = Unit {0}

-- a refusal is the first of the failing tests of these forms, and of a kind of scripts; want of memory says nothing of them
abbrev pub IsFirstOf : Trees → Place → End → Type 0
IsFirstOf ts end (Bad r) = HasScriptKind r × IsFirst r (script_failures ts end)
IsFirstOf ts end NoMemory = Unit {0}
