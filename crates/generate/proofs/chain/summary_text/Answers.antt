use Rattle.std.proofs.Common.{◌≡◌, true, map, sym, ap, ◌∙◌, subst}
use Rattle.text_core.specs.declared.verdict.Verdict.TheVariants.{Yes}
use Rattle.smv_text.specs.Tree.{PlainSource}
use Rattle.smv_flatten.specs.FlatModel.{FlatModel, flat_plain, IsFlatOf}
use Rattle.smv_judge.specs.Models.{IsListedRun}
use Rattle.smv_meaning.specs.declared.value.Run.{Run}
use Rattle.smv_meaning.specs.Runs.{judged_smv}
use Rattle.smv_meaning.specs.Values.{given}
use Rattle.smv_flatten.proofs.Forms.{form_is_flat, has_flat}
use Rattle.witness_lift.specs.Lifting.{lines_in}
use Rattle.generate.specs.Generating.{IsSummary, verdict_for}
use Rattle.generate.specs.Verdicts.{is_yes}
use Rattle.generate.proofs.Accepting.{always_yes, no_both, yes_is}
use Rattle.generate.proofs.Answering.{for_models, summarised}
use Rattle.generate.proofs.Forms.{breaks_of, inputs_are, lifted_is, states_few}
use Rattle.generate.proofs.ListedRuns.{lifted_listed}
use Rattle.generate.proofs.chain.summary_text.Goals as goal

pub says_yes-requires-clause-model : goal.says_yes-requires-clause-model
says_yes-requires-clause-model c = subst (λ (f : FlatModel). (source : PlainSource) × IsFlatOf source (flat_plain f)) (sym c.flat.ensures) (has_flat c.args.chain.now c.requires.form)

pub says_yes-requires-clause-few : goal.says_yes-requires-clause-few
says_yes-requires-clause-few c = states_few c.args.chain.now c.args.witness.now c.args.run.now c.requires.run c.requires.few

pub says_yes-requires-clause-listed : goal.says_yes-requires-clause-listed
says_yes-requires-clause-listed c =
    subst (λ (f : FlatModel). IsListedRun (flat_plain f) c.args.run.now) (sym c.flat.ensures) (lifted_listed c.args.chain.now c.args.witness.now c.args.run.now c.requires.run)

pub unreachable-requires : goal.unreachable-requires
unreachable-requires c =
    let source = c.requires.form.0 in
    let form = c.requires.form.1 in
    let run = c.args.run.now in
    let yes : is_yes (judged_smv source c.args.witness.now.bad (map given run.states) (map given run.labels)) ≡ true =
    always_yes c.yes_is_run.ensures source c.args.witness.now.bad (map given run.states) (map given run.labels) (breaks_of source c.args.chain.now form c.args.witness.now run c.requires.breaks) in
    no_both c.in_ok-says_yes.field-0 (c.in_ok-says_yes.ensures source (subst (λ (f : FlatModel). IsFlatOf source (flat_plain f)) (sym c.flat.ensures) (form_is_flat source c.args.chain.now form)) ∙ yes) c.if-branch.false

pub returns : goal.returns
returns c =
    let chain = c.args.chain.now in
    let w = c.args.witness.now in
    let run = c.args.run.now in
    let weighed : c.weight-weight.result ≡ chain.weight = cc in
    for_models chain (λ source. IsSummary c.args.n source (lines_in chain) w) c.summary_of.result (λ source form weight.
    let verdict = judged_smv source w.bad (map given run.states) (map given run.labels) in
    let asked : verdict ≡ Yes = yes_is verdict (sym (c.in_ok-says_yes.ensures source (subst (λ (f : FlatModel). IsFlatOf source (flat_plain f)) (sym c.flat.ensures) (form_is_flat source chain form))) ∙ c.if-branch.true) in
    let broken : verdict_for source w ≡ Yes = ap (λ (r : Run). judged_smv source w.bad (map given r.states) (map given r.labels)) (sym (c.requires.run ∙ lifted_is source chain form w)) ∙ asked in
    summarised c.args.n source (lines_in chain) c.nodes.result.now w c.weight-weight.result c.len.result c.summary_of.result c.nodes.ensures (inputs_are source chain form c.inputs_are_variables.ensures) (weighed ∙ weight) c.len.ensures c.requires.accepted broken
    c.summary_of.ensures)
