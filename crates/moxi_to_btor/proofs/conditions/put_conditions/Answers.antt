use Rattle.std.specs.Prelude.{codes}
use Rattle.std.proofs.Common.{◌∙◌, ◌++◌, [], ap, subst, sym}
use Rattle.moxi_lines.specs.TermLines.{Built}
use Rattle.moxi_lines.specs.Lines.{with_assumptions, with_currents}
use Rattle.moxi_to_btor.specs.Queries.{CanPutAssumptions, CanPutCurrents}
use Rattle.moxi_to_btor.proofs.ConditionSteps.{chain_same, conditions_are, conditions_assumptions, conditions_currents, conditions_fold, conditions_latch, conditions_next, latch_same}
use Rattle.moxi_to_btor.proofs.conditions.put_conditions.Goals as goal
use Rattle.moxi_to_btor.proofs.Stepping.{all_made, made}

pub put_latch-requires : goal.put_latch-requires
put_latch-requires c =
    let f = c.args.system.now in
    let inputs = c.args.inputs.now in
    let lines = c.args.builder.now in
    let q = c.args.query.now in
    let name = c.deref.ensures.value ∙ c.in_ok-name.ensures ∙ ap (λ n. n ++ codes ".ok") c.bytes.ensures in
    conditions_latch f inputs lines q c.requires c.deref.result.now name

pub put_assumptions-requires : goal.put_assumptions-requires
put_assumptions-requires c =
    let f = c.args.system.now in
    let inputs = c.args.inputs.now in
    let lines = c.args.builder.now in
    let q = c.args.query.now in
    let name = c.deref.ensures.value ∙ c.in_ok-name.ensures ∙ ap (λ n. n ++ codes ".ok") c.bytes.ensures in
    let l = made c.put_latch.new.builder c.in_ok-ok.ok in
    let latch = latch_same f inputs lines q c.requires c.deref.result.now l name c.in_ok-ok.ensures.lines in
    let m = all_made c.put_latch.new.builder c.new-parts.result.items in
    let start = ap (all_made c.put_latch.new.builder) c.new-parts.ensures.items ∙ ap (λ (l : Built). all_made l.0 []) latch in
    subst (CanPutAssumptions f inputs m) (sym c.as_slice.ensures) (conditions_assumptions f inputs lines q c.requires m start)

pub put_currents-requires : goal.put_currents-requires
put_currents-requires c =
    let f = c.args.system.now in
    let inputs = c.args.inputs.now in
    let lines = c.args.builder.now in
    let q = c.args.query.now in
    let name = c.deref.ensures.value ∙ c.in_ok-name.ensures ∙ ap (λ n. n ++ codes ".ok") c.bytes.ensures in
    let l = made c.put_latch.new.builder c.in_ok-ok.ok in
    let latch = latch_same f inputs lines q c.requires c.deref.result.now l name c.in_ok-ok.ensures.lines in
    let m = all_made c.put_latch.new.builder c.new-parts.result.items in
    let start = ap (all_made c.put_latch.new.builder) c.new-parts.ensures.items ∙ ap (λ (l : Built). all_made l.0 []) latch in
    let a = all_made c.put_assumptions.new.builder c.put_assumptions.new.parts.items in
    let given = c.in_ok-put_assumptions.ensures ∙ ap (with_assumptions f inputs m) c.as_slice.ensures ∙ ap (λ m. with_assumptions f inputs m q.assumptions) start in
    subst (CanPutCurrents f inputs a) (sym c.as_slice-2.ensures) (conditions_currents f inputs lines q c.requires a given)

pub put_folded-requires : goal.put_folded-requires
put_folded-requires c =
    let f = c.args.system.now in
    let inputs = c.args.inputs.now in
    let lines = c.args.builder.now in
    let q = c.args.query.now in
    let name = c.deref.ensures.value ∙ c.in_ok-name.ensures ∙ ap (λ n. n ++ codes ".ok") c.bytes.ensures in
    let l = made c.put_latch.new.builder c.in_ok-ok.ok in
    let latch = latch_same f inputs lines q c.requires c.deref.result.now l name c.in_ok-ok.ensures.lines in
    let m = all_made c.put_latch.new.builder c.new-parts.result.items in
    let start = ap (all_made c.put_latch.new.builder) c.new-parts.ensures.items ∙ ap (λ (l : Built). all_made l.0 []) latch in
    let a = all_made c.put_assumptions.new.builder c.put_assumptions.new.parts.items in
    let given = c.in_ok-put_assumptions.ensures ∙ ap (with_assumptions f inputs m) c.as_slice.ensures ∙ ap (λ m. with_assumptions f inputs m q.assumptions) start in
    let h = all_made c.put_currents.new.builder c.put_currents.new.parts.items in
    let held = c.in_ok-put_currents.ensures ∙ ap (with_currents f inputs a) c.as_slice-2.ensures ∙ ap (λ m. with_currents f inputs m q.currents) given in
    let parts = ap (all_made c.put_currents.new.builder) c.deref-2.ensures.value in
    conditions_fold f inputs lines q c.requires l (all_made c.put_currents.new.builder c.deref-2.result.now) latch (parts ∙ held) c.in_ok-ok.ensures.next

pub put_given-requires : goal.put_given-requires
put_given-requires c =
    let f = c.args.system.now in
    let inputs = c.args.inputs.now in
    let lines = c.args.builder.now in
    let q = c.args.query.now in
    let name = c.deref.ensures.value ∙ c.in_ok-name.ensures ∙ ap (λ n. n ++ codes ".ok") c.bytes.ensures in
    let l = made c.put_latch.new.builder c.in_ok-ok.ok in
    let latch = latch_same f inputs lines q c.requires c.deref.result.now l name c.in_ok-ok.ensures.lines in
    let m = all_made c.put_latch.new.builder c.new-parts.result.items in
    let start = ap (all_made c.put_latch.new.builder) c.new-parts.ensures.items ∙ ap (λ (l : Built). all_made l.0 []) latch in
    let a = all_made c.put_assumptions.new.builder c.put_assumptions.new.parts.items in
    let given = c.in_ok-put_assumptions.ensures ∙ ap (with_assumptions f inputs m) c.as_slice.ensures ∙ ap (λ m. with_assumptions f inputs m q.assumptions) start in
    let h = all_made c.put_currents.new.builder c.put_currents.new.parts.items in
    let held = c.in_ok-put_currents.ensures ∙ ap (with_currents f inputs a) c.as_slice-2.ensures ∙ ap (λ m. with_currents f inputs m q.currents) given in
    let parts = ap (all_made c.put_currents.new.builder) c.deref-2.ensures.value in
    let k = made c.put_folded.new.builder c.in_ok-chain.chain in
    let chain = c.in_ok-chain.ensures ∙ chain_same f inputs lines q c.requires l (all_made c.put_currents.new.builder c.deref-2.result.now) latch (parts ∙ held) in
    conditions_next f inputs lines q c.requires l k latch chain c.in_ok-ok.ensures.next

pub returns : goal.returns
returns c =
    let f = c.args.system.now in
    let inputs = c.args.inputs.now in
    let lines = c.args.builder.now in
    let q = c.args.query.now in
    let name = c.deref.ensures.value ∙ c.in_ok-name.ensures ∙ ap (λ n. n ++ codes ".ok") c.bytes.ensures in
    let l = made c.put_latch.new.builder c.in_ok-ok.ok in
    let latch = latch_same f inputs lines q c.requires c.deref.result.now l name c.in_ok-ok.ensures.lines in
    let m = all_made c.put_latch.new.builder c.new-parts.result.items in
    let start = ap (all_made c.put_latch.new.builder) c.new-parts.ensures.items ∙ ap (λ (l : Built). all_made l.0 []) latch in
    let a = all_made c.put_assumptions.new.builder c.put_assumptions.new.parts.items in
    let given = c.in_ok-put_assumptions.ensures ∙ ap (with_assumptions f inputs m) c.as_slice.ensures ∙ ap (λ m. with_assumptions f inputs m q.assumptions) start in
    let h = all_made c.put_currents.new.builder c.put_currents.new.parts.items in
    let held = c.in_ok-put_currents.ensures ∙ ap (with_currents f inputs a) c.as_slice-2.ensures ∙ ap (λ m. with_currents f inputs m q.currents) given in
    let parts = ap (all_made c.put_currents.new.builder) c.deref-2.ensures.value in
    let k = made c.put_folded.new.builder c.in_ok-chain.chain in
    let chain = c.in_ok-chain.ensures ∙ chain_same f inputs lines q c.requires l (all_made c.put_currents.new.builder c.deref-2.result.now) latch (parts ∙ held) in
    conditions_are f inputs lines q c.requires l k c.put_given.new.builder latch chain c.in_ok-put_given.ensures
