-- Flat systems of scripts: their plain form, what is known of them, and why a script has none.
use Rattle.std.specs.Prelude.{◌≡◌, ℕ, ◌+◌, ◌<◌, max, Some, None, List, [], ◌∷◌, map, length, sum_by}
use Rattle.text_core.specs.declared.end.End.{End}
use Rattle.text_core.specs.declared.end.End.TheVariants.{Bad, NoMemory}
use Rattle.text_core.specs.Places.{start}
use Rattle.moxi_terms.specs.declared.term.Variable.{Variable}
use Rattle.moxi_terms.specs.View.{ScopeState}
use Rattle.moxi_scripts.specs.declared.script.Check.{Check}
use Rattle.moxi_scripts.specs.declared.script.Subsystem.{Subsystem}
use Rattle.moxi_scripts.specs.Script.{PlainCheck, PlainScript, PlainSystem, plain_formula, system_at}
use Rattle.moxi_scripts.specs.Valid.{IsValid}
use Rattle.moxi_flat.specs.Terms.{call_heights, call_sizes}
use Rattle.moxi_flat.specs.Systems.{check_height, check_size, greatest_by}
use Rattle.moxi_flat.specs.FlatSizes.{part_height, part_size}
use Rattle.moxi_flat.specs.FlatSystem.{PlainFlatSystem, PlainPart, count_upto, flat_of, parts_upto, place_inside}
use Rattle.moxi_flat.specs.Instantiating.{IsOverVariables}
use Rattle.moxi_flat.specs.Limits.{flat_refusal}
use Rattle.moxi_instantiate.specs.declared.parts.Part.{Part}
use Rattle.moxi_instantiate.specs.PlainParts.{plain_part}

-- the plain form of a flat system: the formulas and queries are the check's
abbrev pub flat_form : ScopeState → Check → List Variable → List Part → PlainFlatSystem
flat_form scope check variables parts =
    record {
      scope = scope;
      variables = variables;
      parts = map plain_part parts;
      assumptions = map plain_formula check.assumptions;
      currents = map plain_formula check.currents;
      reachables = map plain_formula check.reachables;
      queries = check.queries;
    }

-- the flat system of a valid script that isn't refused
pub record IsInstance (f : PlainFlatSystem) : Type 0 where
  pub script : PlainScript
  pub whole : IsValid script
  pub flat : flat_of script ≡ f
  pub accepted : flat_refusal script ≡ None

-- a script of one system; its logic, of which a flat system shows nothing, is left out
abbrev pub single_script : ScopeState → PlainSystem → PlainCheck → PlainScript
single_script scope system check = record { logic = None; scope = scope; systems = system ∷ []; check = check }

-- a valid script that isn't refused, in whose checked system no other stands
pub record IsSingle (s : PlainScript) : Type 0 where
  pub whole : IsValid s
  pub accepted : flat_refusal s ≡ None
  pub alone : (system_at s.systems s.check.system).subsystems ≡ []

-- the refusal is the script's; of running out of memory nothing is said
abbrev pub IsInstEnd : PlainScript → End → Type 0
IsInstEnd s (Bad why) = flat_refusal s ≡ Some why
IsInstEnd s NoMemory = Unit {0}

-- ---- measures

-- the formulas and queries of a flat system, as a check of one system whose variables are all locals
abbrev pub check_of : PlainFlatSystem → PlainCheck
check_of f =
    record {
      place = start;
      system = 0;
      inputs = [];
      outputs = [];
      locals = f.variables;
      assumptions = f.assumptions;
      currents = f.currents;
      reachables = f.reachables;
      queries = f.queries;
    }

-- the variables, the parts, and the formulas and queries
abbrev pub flat_size : PlainFlatSystem → ℕ
flat_size f = length f.variables + (sum_by (part_size (call_sizes f.scope)) f.parts + check_size (call_sizes f.scope) (check_of f))

abbrev pub flat_height : PlainFlatSystem → ℕ
flat_height f = max (greatest_by (part_height (call_heights f.scope)) f.parts) (check_height (call_heights f.scope) (check_of f))

-- ---- instances

-- the formulas of each system are over its variables
abbrev pub AreOverVariables : List PlainSystem → Type 0
AreOverVariables ss = (i : ℕ) → i < length ss → IsOverVariables ss (system_at ss i)

-- the locals of a subsystem and of all instances inside it
abbrev pub count_inside : List PlainSystem → Subsystem → ℕ
count_inside ss b = length (system_at ss b.system).locals + count_upto ss (length ss) b.system

-- the parts of a subsystem, whose locals begin at `fresh`, and of all instances inside it
abbrev pub parts_inside : List PlainSystem → (ℕ → ℕ) → ℕ → Subsystem → List PlainPart
parts_inside ss place fresh b = parts_upto ss (length ss) (place_inside place b.actuals fresh) (fresh + length (system_at ss b.system).locals) b.system
