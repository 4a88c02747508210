use Rattle.moxi_scripts.proofs.AskingLaws.{first_part, two_parts}
use Rattle.moxi_scripts.proofs.asking.steps_are_tested_by_system_and_query.Goals as goal

pub returns-clause-tests : goal.returns-clause-tests
returns-clause-tests c = two_parts

pub returns-clause-first : goal.returns-clause-first
returns-clause-first c = first_part
