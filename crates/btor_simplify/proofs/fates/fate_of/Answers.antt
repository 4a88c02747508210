use Rattle.std.proofs.Common.{refl, sym, ap, ◌∙◌}
use Rattle.std.proofs.lemmas.Option.{same_Some}
use Rattle.btor_tree.specs.declared.lines.Line.{Line}
use Rattle.btor_tree.specs.Sharing.{is_shared}
use Rattle.btor_rules.specs.declared.operand.Outcome.TheVariants.{Stays}
use Rattle.btor_simplify.proofs.Sharing.{has_same}
use Rattle.btor_simplify.proofs.fates.fate_of.Goals as goal
use Rattle.btor_simplify.proofs.Ordering.{differ}

pub returns-else-is_shared-clause-has : goal.returns-else-is_shared-clause-has
returns-else-is_shared-clause-has c =
    let l = c.args.line.now in
    has_same c.args.nodes.now c.args.fates.now Stays c.args.contents.now c.requires.has
    (λ m at shared lives. differ (sym shared ∙ ap (λ (k : Line). is_shared k.op) (same_Some m l (sym at ∙ c.requires.next.at)) ∙ sym c.is_shared.ensures ∙ c.if-is_shared.false))
    l c.requires.next.at

pub returns-else-is_shared-clause-fate : goal.returns-else-is_shared-clause-fate
returns-else-is_shared-clause-fate c =
    (λ h. refl, λ h. absurd (differ (sym h ∙ sym c.is_shared.ensures ∙ c.if-is_shared.false)))
