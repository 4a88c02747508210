use Rattle.std.proofs.Common.{Some, None}
use Rattle.smv_instances.specs.laws.NameLemmas.{number_found}
use Rattle.library_cases.proofs.values.number_of.Goals as goal

pub returns-in-None : goal.returns-in-None
returns-in-None c = number_found c.args.parts.now c.args.path.now None c.in-None.ensures

pub returns-in-Some : goal.returns-in-Some
returns-in-Some c = number_found c.args.parts.now c.args.path.now (Some c.in-Some.i) c.in-Some.ensures
