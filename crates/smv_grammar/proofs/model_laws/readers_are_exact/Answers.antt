use Rattle.smv_grammar.proofs.Models.{found_spelled, spelled_found, found_high, dead_at}
use Rattle.smv_grammar.proofs.model_laws.readers_are_exact.Goals as goal

pub returns-clause-found : goal.returns-clause-found
returns-clause-found c = found_spelled

pub returns-clause-spelled : goal.returns-clause-spelled
returns-clause-spelled c = spelled_found

pub returns-clause-high : goal.returns-clause-high
returns-clause-high c = found_high

pub returns-clause-dead : goal.returns-clause-dead
returns-clause-dead c = dead_at
