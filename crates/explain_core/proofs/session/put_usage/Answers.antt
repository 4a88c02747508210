use Rattle.std.specs.List.{flat_map}
use Rattle.explain_core.specs.declared.advice.clauses.TheConstants.{COMMANDS}
use Rattle.explain_core.specs.Explaining.{usage_text}
use Rattle.explain_core.proofs.Putting.{part_fails, put_failed, puts_next}
use Rattle.explain_core.proofs.session.put_usage.Goals as goal

pub returns-in_err-put_advice : goal.returns-in_err-put_advice
returns-in_err-put_advice g c =
    put_failed c.from_residual.result _ _ _ _ (usage_text c.args.line.now) c.from_residual.ensures.0
    (part_fails _ _ _ _ _ (flat_map (λ command. command.now) COMMANDS) c.in_err-put_advice.ensures)

pub returns : goal.returns
returns g c = puts_next c.put.result _ _ _ _ _ _ _ _ c.in_ok-put_advice.ensures c.put.ensures
