-- The MoXI script that bytes spell, their refusal, or that of the system that the check instantiates (MoXI, SPIN 2024).
use Rattle.std.specs.Prelude.{◌≡◌, ◌⊎◌, ◌≤◌, ℕ, List, length, Some}
use Rattle.text_core.specs.declared.end.End.{End}
use Rattle.text_core.specs.declared.end.End.TheVariants.{Bad, NoMemory}
use Rattle.text_core.specs.declared.place.Kind.TheVariants.{M}
use Rattle.text_core.specs.declared.place.Refusal.{Refusal}
use Rattle.text_core.specs.Places.{start, after}
use Rattle.moxi_sexpr.specs.Grammar.{RefusesWith, SpellsForms}
use Rattle.moxi_sexpr.specs.Tree.{Trees}
use Rattle.moxi_term_reading.specs.Failures.{least}
use Rattle.moxi_scripts.specs.Script.{PlainScript}
use Rattle.moxi_scripts.specs.Spelling.{SpellsScript, script_failures}
use Rattle.moxi_flat.specs.Limits.{flat_refusal}
use Rattle.command_core.specs.declared.answer.Answer.{Answer}
use Rattle.command_core.specs.declared.answer.Answer.TheVariants.{Refused}
use Rattle.moxi_commands.specs.Limits.{most_script_bytes}

-- the bytes, within the limit, spell this script
pub record IsScriptText (bytes : List ℕ) (script : PlainScript) : Type 0 where
  pub within : length bytes ≤ most_script_bytes
  pub forms : Trees
  pub formed : SpellsForms bytes forms
  pub spelled : SpellsScript forms (after start bytes) script

-- the answer for a script that is too long
abbrev pub script_too_long : Answer
script_too_long = Refused (record { kind = M 16; place = start })

-- the refusal of a text that spells no script: that of its forms, or else the least of their failing tests
abbrev pub IsTextRefusal : List ℕ → Refusal → Type 0
IsTextRefusal bytes refusal =
    RefusesWith bytes refusal ⊎ ((forms : Trees) × SpellsForms bytes forms × (least (script_failures forms (after start bytes)) ≡ Some refusal))

-- why there is no script: the refusal of the bytes, or out of memory
abbrev pub IsTextEnd : List ℕ → End → Type 0
IsTextEnd bytes (Bad refusal) = IsTextRefusal bytes refusal
IsTextEnd bytes NoMemory = Unit {0}

-- the refusal of a text, or of the system that its check instantiates
abbrev pub IsSystemRefusal : List ℕ → Refusal → Type 0
IsSystemRefusal bytes refusal = IsTextRefusal bytes refusal ⊎ ((script : PlainScript) × IsScriptText bytes script × (flat_refusal script ≡ Some refusal))

-- the answer is this refusal of the script
abbrev pub IsRefusal : List ℕ → Answer → Type 0
IsRefusal bytes answer = (refusal : Refusal) × IsSystemRefusal bytes refusal × (answer ≡ Refused refusal)
