use Rattle.std.proofs.Common.{◌<◌, ◌≤◌, ◌^◌, arith}
use Rattle.std.proofs.lemmas.Bool.Decides.{nat_tests}
use Rattle.smv_types.proofs.Fitting.{wide_enough}
use Rattle.smv_types.proofs.calls.is_below.Goals as goal

pub returns-then-n-from : goal.returns-then-n-from
returns-then-n-from c =
    let wide : 64 ≤ c.args.n = omega (arith, c.from.ensures) in
    let small : c.args.v < 2 ^ 64 = omega arith in
    let fits : c.args.v < 2 ^ c.args.n = wide_enough c.args.n c.args.v wide small in
    let most : c.from.result ≤ c.args.n = omega (arith, c.from.ensures) in
    grind (arith, nat_tests, fits, most)
