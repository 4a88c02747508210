-- The plain forms of what the code reads.
use Rattle.std.specs.Prelude.{map}
use Rattle.std.specs.Option.{option_map}
use Rattle.moxi_declarations.specs.declared.checks.ReadCheck.{ReadCheck}
use Rattle.moxi_attributes.specs.Views.{plain_labels}
use Rattle.moxi_scripts.specs.Checks.{CheckReading}
use Rattle.moxi_declarations.specs.declared.commands.Draft.{Draft}
use Rattle.moxi_scripts.specs.Commands.{Reading}
use Rattle.moxi_terms.specs.View.{plain}
use Rattle.moxi_declarations.specs.declared.systems.ReadSystem.{ReadSystem}
use Rattle.moxi_scripts.specs.Systems.{SystemReading}

abbrev pub plain_reading : ReadSystem → SystemReading
plain_reading r = record { name = r.name; lists = r.lists; init = plain r.init; trans = plain r.trans; inv = plain r.inv; uses = r.uses }

abbrev pub plain_check_reading : ReadCheck → CheckReading
plain_check_reading c = record { place = c.place; target = c.target; target_place = c.target_place; lists = c.lists; places = c.places; labels = plain_labels c.labels; queries = c.queries }

abbrev pub plain_draft : Draft → Reading
plain_draft d =
    record {
      logic = d.logic;
      scope = d.scope;
      term_names = d.term_names;
      system_names = d.system_names;
      variables = d.variables;
      systems = map plain_reading d.systems.items;
      repeated = map plain_reading d.repeated.items;
      checked = d.checked;
      check = option_map plain_check_reading d.check;
    }
