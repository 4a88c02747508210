use Rattle.smv_grammar.proofs.Expressions.{taken_spells, spelled_taken, dead_begins}
use Rattle.smv_grammar.proofs.expression_laws.machine_is_exact.Goals as goal

pub returns-clause-sound : goal.returns-clause-sound
returns-clause-sound c = taken_spells

pub returns-clause-complete : goal.returns-clause-complete
returns-clause-complete c = spelled_taken

pub returns-clause-begins : goal.returns-clause-begins
returns-clause-begins c = dead_begins
