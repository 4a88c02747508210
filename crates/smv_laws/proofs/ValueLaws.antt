-- States and labels of the declared types give values that lie in types.
use Rattle.std.proofs.Common.{sym, subst}
use Rattle.smv_meaning.specs.Instances.{instances_of}
use Rattle.smv_meaning.specs.Names.{found_in, steps_of}
use Rattle.smv_meaning.specs.Checks.{Typing}
use Rattle.smv_meaning.specs.Typed.{Lies}
use Rattle.smv_meaning.specs.Settled.{types_in}
use Rattle.smv_meaning.specs.TypedValues.{DeclaredLie, StatesGive, PathsLie, ExpressionsLie}
use Rattle.smv_laws.proofs.TypeLaws.{names_lie, values_lie_law}
use Rattle.smv_laws.proofs.FoundLaws.{of_type_lies, gives_found}
use Rattle.smv_laws.proofs.StandingBefore.{types_hang_on_paths_law}

pub declared_lie_law : DeclaredLie
declared_lie_law d v h = of_type_lies d v h

pub states_give_law : StatesGive
states_give_law t inputs state label a b = gives_found inputs t state label a b

pub paths_lie_law : PathsLie
paths_lie_law t inputs state label a b i path = names_lie inputs (found_in t) state label (gives_found inputs t state label a b) (steps_of t) i path

pub expressions_lie_law : ExpressionsLie
expressions_lie_law source inputs names i at e same state label following a b c v p =
    let t = instances_of source in
    let now = gives_found inputs t state label a b in
    let later = gives_found inputs t following label c b in
    subst (λ (u : Typing). Lies u.type v) (sym (types_hang_on_paths_law names (types_in inputs t i) at e same))
    (values_lie_law inputs (found_in t) state label following now later (steps_of t) i at e v p)
