use Rattle.std.proofs.Common.{◌≡◌, ◌<◌, ◌^◌, length, arith}
use Rattle.moxi_terms.specs.Names.{all_constants, constant_count}
use Rattle.moxi_terms.proofs.ScopeLaws.{count_few, count_there}
use Rattle.moxi_terms.proofs.scope.Scope.constant_count.Goals as goal

pub overflow_cast-result : goal.overflow_cast-result
overflow_cast-result c =
    let es = c.self.inside.enumerations in
    let e = c.at.result.now in
    let within : c.args.n < length es = omega (arith, c.if-n-len.true, c.len.ensures) in
    let here : length e.constants ≡ constant_count es c.args.n = count_there es c.args.n e within c.at.ensures in
    let few : length (all_constants es) < 2 ^ 32 = c.self.invariant.few_constants in
    omega (arith, here, count_few es c.args.n, few, c.len-then-n-len.ensures)
