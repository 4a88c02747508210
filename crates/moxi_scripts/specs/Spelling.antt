-- Which script forms spell: the one that is read behind all of them, where no test fails. A test fails in a command, or where
-- all commands are read, or at a subsystem that contains the system in which it stands.
use Rattle.std.specs.Prelude.{◌≡◌, ℕ, Option, None, Some, List, [], ◌++◌, map}
use Rattle.text_core.specs.declared.place.Place.{Place}
use Rattle.text_core.specs.declared.place.Refusal.{Refusal}
use Rattle.moxi_sexpr.specs.Tree.{Trees}
use Rattle.name_maps.specs.Names.{place_of}
use Rattle.moxi_scripts.specs.declared.script.Subsystem.{Subsystem}
use Rattle.moxi_scripts.specs.declared.parts.Actual.{Actual}
use Rattle.moxi_scripts.specs.declared.parts.Use.{Use}
use Rattle.moxi_scripts.specs.Checks.{CheckReading}
use Rattle.moxi_scripts.specs.Commands.{Reading, commands_failures, nothing_read, reading_after}
use Rattle.moxi_scripts.specs.Cycles.{cycle_failures}
use Rattle.moxi_scripts.specs.Entries.{variables_of}
use Rattle.moxi_scripts.specs.Links.{links_failures}
use Rattle.moxi_scripts.specs.Script.{PlainCheck, PlainScript, PlainSystem}
use Rattle.moxi_scripts.specs.Systems.{SystemReading}

-- all tests of forms whose text ends at `end`, those that fail
abbrev pub reading_of : Trees → Reading
reading_of ts = reading_after nothing_read ts

abbrev pub script_failures : Trees → Place → List Refusal
script_failures ts end =
    (commands_failures nothing_read ts ++ links_failures (reading_of ts) end) ++ cycle_failures (reading_of ts).systems (reading_of ts).system_names

-- THE SCRIPT

abbrev pub number_or_none : Option ℕ → ℕ
number_or_none None = 0
number_or_none (Some i) = i

abbrev pub actual_numbers : List Actual → List ℕ
actual_numbers xs = map (λ (a : Actual). a.number) xs

abbrev pub subsystem_of : List (List ℕ) → Use → Subsystem
subsystem_of names u = record { name = u.name; system = number_or_none (place_of names u.target); actuals = actual_numbers u.actuals }

abbrev pub system_of : List (List ℕ) → SystemReading → PlainSystem
system_of names r =
    record {
      name = r.name;
      inputs = variables_of r.lists.inputs.entries;
      outputs = variables_of r.lists.outputs.entries;
      locals = variables_of r.lists.locals.entries;
      init = r.init;
      trans = r.trans;
      inv = r.inv;
      subsystems = map (subsystem_of names) r.uses;
    }

abbrev pub check_of : List (List ℕ) → CheckReading → PlainCheck
check_of names c =
    record {
      place = c.place;
      system = number_or_none (place_of names c.target);
      inputs = variables_of c.lists.inputs.entries;
      outputs = variables_of c.lists.outputs.entries;
      locals = variables_of c.lists.locals.entries;
      assumptions = c.labels.assumptions.formulas;
      currents = c.labels.currents.formulas;
      reachables = c.labels.reachables.formulas;
      queries = c.queries;
    }

abbrev pub script_with : Reading → CheckReading → PlainScript
script_with r c = record { logic = r.logic; scope = r.scope; systems = map (system_of r.system_names) r.systems; check = check_of r.system_names c }

-- forms whose text ends at `end` spell a script
pub record SpellsScript (ts : Trees) (end : Place) (s : PlainScript) : Type 0 where
  pub check : CheckReading
  pub there : (reading_of ts).check ≡ Some check
  pub script : s ≡ script_with (reading_of ts) check
  pub passes : script_failures ts end ≡ []
