use Rattle.std.proofs.Common.{subst}
use Rattle.moxi_term_reading.specs.Finding.{IsStacked}
use Rattle.moxi_term_reading.proofs.StackLaws.{stacked_unbind}
use Rattle.moxi_term_reading.proofs.locals.Bounds.unbind.Goals as goal

pub invariant_of-self : goal.invariant_of-self
invariant_of-self c =
    let s = c.self.inside in
    stacked_unbind s.names c.pop.new.self.items c.in-Some.binding s.lasts.items (subst (λ bs. IsStacked s.names bs s.lasts.items) c.in-Some.ensures.items c.self.invariant)
