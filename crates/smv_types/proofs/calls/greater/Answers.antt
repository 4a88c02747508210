use Rattle.std.proofs.Common.{arith}
use Rattle.smv_types.proofs.Fitting.{max_clash}
use Rattle.smv_types.proofs.calls.greater.Goals as goal

pub returns-in-len1 : goal.returns-in-len1
returns-in-len1 c = rw c.refusal-in-len1.ensures (max_clash c.args.place c.args.types.now (λ e. omega arith))
