-- How large the script is that stands for a model: by the model's weight, and by the most that an expression's height may be.
use Rattle.std.specs.Prelude.{◌≡◌, ℕ, ◌+◌, ◌*◌, ◌≤◌, List, length, None}
use Rattle.text_core.specs.declared.place.Place.{Place}
use Rattle.smv_text.specs.declared.token.Token.{Token}
use Rattle.smv_text.specs.Tree.{PlainSource}
use Rattle.smv_text.specs.Heights.{first_high, of_modules}
use Rattle.smv_text.specs.Sources.{SpellsSource}
use Rattle.smv_meaning.specs.Instances.{instances_of, weight_of}
use Rattle.smv_meaning.specs.Phases.{IsAccepted}
use Rattle.smv_items.specs.FlatItems.{symbols_of}
use Rattle.smv_flat.specs.FlatForms.{flat_smv}
use Rattle.moxi_sexpr.specs.Lexing.{limit}
use Rattle.moxi_scripts.specs.Script.{PlainScript, variables_in}
use Rattle.moxi_term_print.specs.Shown.{shown_depths}
use Rattle.moxi_script_print.specs.Printing.{shown_script}
use Rattle.moxi_flat.specs.Systems.{script_size, script_height, script_nesting}
use Rattle.smv_script.specs.Script.{system_of, check_of, script_of}

-- the size of the instantiated system
abbrev pub SizesByWeight : Type 0
SizesByWeight = (source : PlainSource) (end : Place) (xs : List Token) → SpellsSource source end xs → (width : ℕ)
    → script_size (script_of (flat_smv source) width) ≤ 5 * weight_of source + 5

-- the system's variables and the queries together
abbrev pub CountsByWeight : Type 0
CountsByWeight = (source : PlainSource) (end : Place) (xs : List Token) → SpellsSource source end xs → (width : ℕ)
    → length (variables_in (system_of (flat_smv source) width)) + length (check_of (flat_smv source) width).queries ≤ weight_of source

-- each symbol is in a module's body
abbrev pub SymbolsByWeight : Type 0
SymbolsByWeight = (source : PlainSource) (end : Place) (xs : List Token) → SpellsSource source end xs → length (symbols_of (instances_of source)) ≤ weight_of source

-- where no expression is too high
abbrev pub HeightsAreLow : Type 0
HeightsAreLow = (source : PlainSource) (end : Place) (xs : List Token) → SpellsSource source end xs → first_high (of_modules source.modules) ≡ None → (width : ℕ)
    → script_height (script_of (flat_smv source) width) ≤ 1146

-- how many brackets of the printed script stand open at most, where no expression is too high
abbrev pub BracketsAreFew : Type 0
BracketsAreFew = (source : PlainSource) (end : Place) (xs : List Token) → SpellsSource source end xs → first_high (of_modules source.modules) ≡ None → (width : ℕ)
    → shown_depths (shown_script (script_of (flat_smv source) width)) ≤ 1145

-- The script passes no limit of this translator: those of an instantiated system, and that of the open brackets of its text.
pub record IsSmall (p : PlainScript) : Type 0 where
  pub size : script_size p ≤ 2000000
  pub height : script_height p ≤ 4000
  pub nesting : script_nesting p ≤ 1000
  pub brackets : shown_depths (shown_script p) ≤ limit

-- that of an accepted model none of whose expressions is too high
abbrev pub ScriptsAreSmall : Type 0
ScriptsAreSmall = (source : PlainSource) (end : Place) (xs : List Token) → SpellsSource source end xs → (needed : ℕ) → IsAccepted source needed
    → first_high (of_modules source.modules) ≡ None → (width : ℕ) → IsSmall (script_of (flat_smv source) width)
