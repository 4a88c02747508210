use Rattle.std.proofs.Common.{option_map, sym}
use Rattle.smv_text.specs.View.{plain}
use Rattle.smv_meaning.specs.Checks.{first_failing, typing}
use Rattle.smv_intervals.specs.View.{seen}
use Rattle.smv_types.specs.View.{position_seen}
use Rattle.smv_types.specs.laws.Composing.{ok_parts}
use Rattle.smv_types.specs.laws.Known.{all_known}
use Rattle.smv_flat.proofs.typing.type_of.Goals as goal

pub typed-requires : goal.typed-requires
typed-requires g c = all_known (g.C.Scope.knows c.args.scope.now) (plain c.args.expr.now) c.requires

pub returns-clause-typed : goal.returns-clause-typed
returns-clause-typed g c =
    let t = typing (g.C.Scope.names c.args.scope.now) (position_seen c.args.position) (plain c.args.expr.now) in
    sym (ok_parts (first_failing t.checks) t.type (option_map seen c.in_ok-x.x.ty) (rw c.of.ensures at c.in_ok-x.ensures.0)).1
