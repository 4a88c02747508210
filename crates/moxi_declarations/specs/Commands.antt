-- What a command adds to what is read.
use Rattle.std.specs.Prelude.{Option, ◌++◌}
use Rattle.moxi_scripts.specs.Commands.{Reading}
use Rattle.moxi_scripts.specs.Shapes.{HeadedForms}
use Rattle.moxi_scripts.specs.Systems.{names_with_system, variables_of_system, with_repeated, with_system}

-- what is read behind a definition of a system, given its name and the forms after it
abbrev pub with_headed_system : Reading → Option HeadedForms → Reading
with_headed_system r h =
    record r {
      system_names = names_with_system r.system_names h;
      variables = r.variables ++ variables_of_system r.scope h;
      systems = with_system r.scope r.system_names r.systems h;
      repeated = with_repeated r.scope r.system_names r.repeated h;
    }
