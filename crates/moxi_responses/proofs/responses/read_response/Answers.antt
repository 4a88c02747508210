use Rattle.std.proofs.Common.{sym, subst}
use Rattle.moxi_trace.specs.Traces.{HasOwnNames}
use Rattle.moxi_responses.proofs.responses.read_response.Goals as goal

pub read_response-requires : goal.read_response-requires
read_response-requires c = subst HasOwnNames (sym c.declarations_of-declarations.ensures) c.names_are_own.ensures.own
