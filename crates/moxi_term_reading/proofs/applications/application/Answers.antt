use Rattle.std.proofs.Common.{sym, subst}
use Rattle.moxi_term_reading.specs.Answer.{IsRead}
use Rattle.moxi_term_reading.specs.Reading.{application}
use Rattle.moxi_term_reading.proofs.applications.application.Goals as goal

pub returns-in-Err : goal.returns-in-Err
returns-in-Err c x fs a e =
    subst (λ h. IsRead (application c.args.scope.now.functions c.args.p fs h x) c.unheaded.result) (sym c.in-Err.is) (c.unheaded.ensures x c.args.sorts.now a)
