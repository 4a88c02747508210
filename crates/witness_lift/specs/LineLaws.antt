-- The lines of a model are its translation, and their number is bounded (BTOR2, CAV 2018; the bounds are this translator's own).
use Rattle.std.specs.Prelude.{◌≡◌, ◌↔◌, ℕ, ◌+◌, ◌*◌, ◌<◌, ◌≤◌, List, length, None}
use Rattle.text_core.specs.declared.place.Place.{Place}
use Rattle.smv_text.specs.declared.token.Token.{Token}
use Rattle.smv_text.specs.Tree.{PlainSource}
use Rattle.smv_text.specs.Heights.{first_high, of_modules}
use Rattle.smv_text.specs.Lexing.{Lexes}
use Rattle.smv_text.specs.Sources.{SpellsSource}
use Rattle.smv_meaning.specs.Instances.{weight_of}
use Rattle.smv_meaning.specs.Phases.{IsAccepted}
use Rattle.smv_script.specs.Script.{script_for}
use Rattle.btor_tree.specs.declared.lines.Line.{Line}
use Rattle.btor_tree.specs.Fits.{greatest_id, is_bad, operands}
use Rattle.btor_tree.specs.Printing.{printed}
use Rattle.btor_tree.specs.Sharing.{HasNoDuplicates}
use Rattle.btor_tree.specs.Texts.{SpellsLines}
use Rattle.moxi_flat.specs.FlatSystem.{PlainFlatSystem, flat_of}
use Rattle.moxi_flat.specs.Limits.{flat_refusal}
use Rattle.moxi_lines.specs.Lines.{lines_of}
use Rattle.moxi_layout.specs.LayoutLaws.{HasFrames, IsLaidOut}
use Rattle.smv_script_laws.specs.RunLaws.{HasRun, invariant_count}

-- a property of each accepted model: a text spells it, its checks hold, and none of its expressions is too high
abbrev pub OfAccepted : (PlainSource → Type 0) → Type 0
OfAccepted P = (source : PlainSource) (end : Place) (text : List ℕ) (xs : List Token) → Lexes text xs → SpellsSource source end xs → (needed : ℕ) → IsAccepted source needed
    → first_high (of_modules source.modules) ≡ None → P source

-- the flat system of a model's script
abbrev pub model_system : PlainSource → PlainFlatSystem
model_system source = flat_of (script_for source)

-- the lines of that flat system
abbrev pub model_lines : PlainSource → List Line
model_lines source = lines_of (model_system source)

-- The lines are a translation of the model: they have a bad line for each invariant. For each invariant and each number of transitions
-- there is a run that breaks the invariant exactly where there are frames with its bad line true in the last.
pub record Translates (source : PlainSource) (lines : List Line) : Type 0 where
  pub bads : length (operands is_bad lines) ≡ invariant_count source
  pub frames : (j k : ℕ) → j < invariant_count source → HasRun source j k ↔ HasFrames lines j k

-- a text spells these lines, and no others
pub record SpellsOnly (text : List ℕ) (lines : List Line) : Type 0 where
  pub there : SpellsLines text lines
  pub one : (others : List Line) → SpellsLines text others → others ≡ lines

-- the lines lay out a model's system, and each has an id
pub record AreLaidOut (source : PlainSource) (lines : List Line) : Type 0 where
  pub laid : IsLaidOut (model_system source) lines
  pub few : length lines < greatest_id

-- ---- laws

abbrev pub ModelsHaveFlatSystems : Type 0
ModelsHaveFlatSystems = OfAccepted (λ source. flat_refusal (script_for source) ≡ None)

abbrev pub ModelLinesAreLaidOut : Type 0
ModelLinesAreLaidOut = OfAccepted (λ source. AreLaidOut source (model_lines source))

abbrev pub ModelsHaveFrames : Type 0
ModelsHaveFrames = OfAccepted (λ source. Translates source (model_lines source))

abbrev pub ModelLinesAreCounted : Type 0
ModelLinesAreCounted = OfAccepted (λ source. length (model_lines source) ≤ 16 * weight_of source + 200)

abbrev pub ModelLinesAreShared : Type 0
ModelLinesAreShared = OfAccepted (λ source. HasNoDuplicates (model_lines source))

abbrev pub ModelLinesAreSpelled : Type 0
ModelLinesAreSpelled = OfAccepted (λ source. SpellsOnly (printed (model_lines source)) (model_lines source))
