use Rattle.std.proofs.Common.{sym, ap, ◌∙◌}
use Rattle.std.proofs.lemmas.Bool.{eq-eqb, ne_eqb}
use Rattle.btor_witness.specs.Bytes.{without_return}
use Rattle.btor_witness.proofs.Cuts.{return_off, return_none}
use Rattle.btor_witness.proofs.bytes.without_return.Goals as goal

pub returns-then-b-eq13 : goal.returns-then-b-eq13
returns-then-b-eq13 c =
    sym (ap without_return c.in-Some.ensures.cases.0 ∙ return_off c.in-Some.front.now c.in-Some.b.now (eq-eqb c.in-Some.b.now 13 c.if-b-eq13.true))

pub returns-else-b-eq13 : goal.returns-else-b-eq13
returns-else-b-eq13 c =
    c.in-Some.ensures.cases.0
    ∙ sym (ap without_return c.in-Some.ensures.cases.0 ∙ return_none c.in-Some.front.now c.in-Some.b.now (ne_eqb c.in-Some.b.now 13 c.if-b-eq13.false))
