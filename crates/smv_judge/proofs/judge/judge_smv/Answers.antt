use Rattle.std.proofs.Common.{map, subst}
use Rattle.text_core.specs.declared.end.End.{End}
use Rattle.smv_text.specs.View.{plain_source}
use Rattle.smv_meaning.specs.Values.{given}
use Rattle.smv_meaning.specs.Checks.{first_failing, IsBad}
use Rattle.smv_meaning.specs.Phases.{checks_of}
use Rattle.smv_meaning.specs.Runs.{judged_smv}
use Rattle.smv_judge.proofs.StepLaws.{none_refused, told_of}
use Rattle.smv_judge.proofs.judge.judge_smv.Goals as goal

pub unreachable-requires : goal.unreachable-requires
unreachable-requires c =
    none_refused (checks_of (plain_source c.args.source.now) c.args.j) c.in-Err-Bad.field-0-0 c.requires.accepted
    (subst (λ (e : End). IsBad e (first_failing (checks_of (plain_source c.args.source.now) c.args.j))) c.in-Err-Bad.field-0-is c.in-Err-Bad.ensures.checks)

pub returns-in-Ok : goal.returns-in-Ok
returns-in-Ok c =
    told_of (plain_source c.args.source.now) _ c.judge_flat.result (λ source. judged_smv source c.args.j (map given c.args.run.now.states) (map given c.args.run.now.labels))
    (record { needed = c.args.j; read = c.requires.read; accepted = c.requires.accepted; form = c.in-Ok.ensures.form }) c.judge_flat.ensures
