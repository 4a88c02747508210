use Rattle.std.proofs.Common.{map, ap, ◌∙◌, arith}
use Rattle.moxi_terms.specs.declared.data.TermOp.TheVariants as op
use Rattle.moxi_terms.specs.Tree.{apply}
use Rattle.moxi_terms.specs.View.{plain}
use Rattle.btor_import.specs.Assembling.{number_at}
use Rattle.btor_import.specs.Operators.{operand_term}
use Rattle.btor_import.proofs.Steps.{bits_on}
use Rattle.btor_import.proofs.terms.bits_of.Goals as goal
use Rattle.text_core.proofs.ListLaws.{pushed}
use Rattle.moxi_terms.specs.Applications.{one}

pub loop-i-preserved : goal.loop-i-preserved
loop-i-preserved c =
    let a = operand_term (number_at c.args.numbers.now) c.args.a in
    bits_on c.args.width c.loop-i.i a (map plain c.loop-i.bits.items) (map plain c.push.new.self.items) _ (omega arith)
    (pushed plain c.loop-i.bits.items c.push.new.self.items c.in_ok-bit.bit (apply (op.Extract c.loop-i.i c.loop-i.i) (one a)) c.in_ok-push.ensures.items
    (c.in_ok-bit.ensures ∙ ap (λ t. apply (op.Extract c.loop-i.i c.loop-i.i) (one t)) c.in_ok-whole.ensures))
    c.loop-i.invariant
