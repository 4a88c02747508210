-- The script that stands for a model is one that can be printed and is read again as itself (MoXI, SPIN 2024).
use Rattle.std.specs.Prelude.{ℕ, List}
use Rattle.text_core.specs.declared.place.Place.{Place}
use Rattle.smv_text.specs.declared.token.Token.{Token}
use Rattle.smv_text.specs.Tree.{PlainSource}
use Rattle.smv_text.specs.Lexing.{Lexes}
use Rattle.smv_text.specs.Sources.{SpellsSource}
use Rattle.smv_meaning.specs.Phases.{IsAccepted}
use Rattle.moxi_scripts.specs.Invariant.{IsSpelled}
use Rattle.moxi_script_print.specs.NamesOfScripts.{HasSpellableNames}
use Rattle.moxi_scripts.specs.Valid.{IsValid}
use Rattle.smv_script.specs.Script.{script_for}

abbrev pub ScriptsAreValid : Type 0
ScriptsAreValid = (source : PlainSource) (end : Place) (text : List ℕ) (xs : List Token) → Lexes text xs → SpellsSource source end xs → (needed : ℕ) → IsAccepted source needed → IsValid (script_for source)

abbrev pub NamesAreSpellable : Type 0
NamesAreSpellable = (source : PlainSource) (end : Place) (text : List ℕ) (xs : List Token) → Lexes text xs → SpellsSource source end xs → (needed : ℕ) → IsAccepted source needed → HasSpellableNames (script_for source)

abbrev pub ScriptsAreSpelled : Type 0
ScriptsAreSpelled = (source : PlainSource) (end : Place) (text : List ℕ) (xs : List Token) → Lexes text xs → SpellsSource source end xs → (needed : ℕ) → IsAccepted source needed → IsSpelled (script_for source)
