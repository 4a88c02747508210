use Rattle.std.proofs.Common.{length, ap, arith}
use Rattle.moxi_instantiate.proofs.Capping.{apply_counted}
use Rattle.moxi_instantiate.proofs.terms.+size.Goals as goal

pub term_size-returns-in-Apply-clause-value : goal.term_size-returns-in-Apply-clause-value
term_size-returns-in-Apply-clause-value t c =
    apply_counted c.args.sizes.now c.args.term.now c.in-Apply.op c.in-Apply.terms c.deref.result.now c.len.result c.operator_size.result c.terms_size.result c.sum.result c.in-Apply.is
    c.deref.ensures.value (omega (arith, c.len.ensures, c.deref.ensures.len, ap length c.deref.ensures.value)) c.operator_size.ensures.value c.terms_size.ensures.value c.sum.ensures.value
