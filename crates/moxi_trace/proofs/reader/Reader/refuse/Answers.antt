use Rattle.std.proofs.Common.{Err, refl, sym, subst}
use Rattle.text_core.specs.declared.end.End.{End}
use Rattle.moxi_trace.proofs.Steps.{stray_leaves, stray_refuses}
use Rattle.moxi_trace.proofs.reader.Reader.refuse.Goals as goal
use Rattle.text_core.specs.Answers.{refused, Leaves}

pub returns-in-Ok : goal.returns-in-Ok
returns-in-Ok c =
    stray_leaves {B = Unit {0}} c.args.at c.args.self.now c.on_line.new.self c.on_line.new.self (Err c.refused.result) c.in-Ok.ensures
    (subst (λ (x : End). Leaves {B = Unit {0}} (refused 1 c.args.at) c.on_line.new.self (Err x)) (sym c.refused.ensures) refl)

pub returns-in-Err : goal.returns-in-Err
returns-in-Err c = stray_refuses (Unit {0}) c.args.at c.args.self.now c.on_line.new.self c.in-Err.end c.in-Err.ensures
