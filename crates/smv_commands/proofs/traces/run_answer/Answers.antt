use Rattle.std.proofs.Common.{◌≡◌, sym, subst}
use Rattle.text_core.specs.declared.verdict.Verdict.TheVariants.{Yes}
use Rattle.smv_flatten.specs.FlatModel.{FlatModel, flat_plain, IsFormOf}
use Rattle.smv_numbered.specs.Runs.{run_in}
use Rattle.trace_lower.specs.Ends.{IsLowerEnd}
use Rattle.trace_lower.specs.Lowered.{lowered, verdict_on}
use Rattle.smv_commands.proofs.LoweredRuns.{OfForms, lowered_fits, said_rejected, said_lowered}
use Rattle.smv_commands.proofs.traces.run_answer.Goals as goal

pub print_witness-requires : goal.print_witness-requires
print_witness-requires c =
    let exact : OfForms c.args.chain.now (λ source. c.in-Ok.witness ≡ lowered source c.args.j (run_in (flat_plain c.args.chain.now).items c.args.run.now)) = λ source form. subst (λ (f : FlatModel). c.in-Ok.witness ≡ lowered source c.args.j (run_in (flat_plain f).items c.args.run.now)) c.flat.ensures (c.in-Ok.ensures.lowered source (subst (IsFormOf source) (sym c.flat.ensures) form)) in
    let judged : OfForms c.args.chain.now (λ source. verdict_on source c.args.j (run_in (flat_plain c.args.chain.now).items c.args.run.now) ≡ Yes) = λ source form. subst (λ (f : FlatModel). verdict_on source c.args.j (run_in (flat_plain f).items c.args.run.now) ≡ Yes) c.flat.ensures (c.in-Ok.ensures.judged source (subst (IsFormOf source) (sym c.flat.ensures) form)) in
    lowered_fits c.lowered_are_accepted.ensures c.model_lines_are_laid_out.ensures c.args.chain.now c.args.j (run_in (flat_plain c.args.chain.now).items c.args.run.now) c.in-Ok.witness c.nodes.result.now c.requires.model exact judged c.nodes.ensures

pub returns-in_ok-text-in-Ok-clause-answer : goal.returns-in_ok-text-in-Ok-clause-answer
returns-in_ok-text-in-Ok-clause-answer c =
    let exact : OfForms c.args.chain.now (λ source. c.in-Ok.witness ≡ lowered source c.args.j (run_in (flat_plain c.args.chain.now).items c.args.run.now)) = λ source form. subst (λ (f : FlatModel). c.in-Ok.witness ≡ lowered source c.args.j (run_in (flat_plain f).items c.args.run.now)) c.flat.ensures (c.in-Ok.ensures.lowered source (subst (IsFormOf source) (sym c.flat.ensures) form)) in
    let judged : OfForms c.args.chain.now (λ source. verdict_on source c.args.j (run_in (flat_plain c.args.chain.now).items c.args.run.now) ≡ Yes) = λ source form. subst (λ (f : FlatModel). verdict_on source c.args.j (run_in (flat_plain f).items c.args.run.now) ≡ Yes) c.flat.ensures (c.in-Ok.ensures.judged source (subst (IsFormOf source) (sym c.flat.ensures) form)) in
    said_lowered c.args.chain.now c.args.j (run_in (flat_plain c.args.chain.now).items c.args.run.now) c.in-Ok.witness c.nodes.result.now c.in_ok-text-in-Ok.text exact judged c.nodes.ensures c.in_ok-text-in-Ok.ensures.printed

pub returns-in-Err-No-clause-answer : goal.returns-in-Err-No-clause-answer
returns-in-Err-No-clause-answer c =
    said_rejected c.args.chain.now c.args.j (run_in (flat_plain c.args.chain.now).items c.args.run.now) c.in-Err-No.field-0 (λ source form. subst (λ (f : FlatModel). IsLowerEnd source c.args.j (run_in (flat_plain f).items c.args.run.now) c.in-Err-No.field-0) c.flat.ensures (c.in-Err-No.ensures.refused source (subst (IsFormOf source) (sym c.flat.ensures) form))) c.in-Err-No.field-0-is c.in-Err-No.step-is c.in-Err-No.clause-is
