use Rattle.std.proofs.Common.{◌∙◌, ap}
use Rattle.word_core.specs.declared.kinds.Binary.TheVariants as two
use Rattle.moxi_lines.specs.TermLines.{Built, chain_lines}
use Rattle.moxi_to_btor.proofs.Stepping.{made_same}
use Rattle.moxi_to_btor.specs.Queries.{reaching}
use Rattle.moxi_to_btor.proofs.GoalSteps.{both_can, both_is, met_chain, some_chain}
use Rattle.moxi_to_btor.proofs.queries.put_all_met.Goals as goal
use Rattle.moxi_to_btor.proofs.Stepping.{made}

pub put_chain-requires : goal.put_chain-requires
put_chain-requires c =
    let m = reaching c.args.builder.now c.args.formulas.now c.args.seen.now in
    let before = c.args.before.now in
    let parts = c.deref.ensures.value ∙ c.in_ok-parts.ensures in
    met_chain m before c.requires c.deref.result.now parts

pub put_chain-requires-2 : goal.put_chain-requires-2
put_chain-requires-2 c =
    let m = reaching c.args.builder.now c.args.formulas.now c.args.seen.now in
    let before = c.args.before.now in
    let parts = c.deref.ensures.value ∙ c.in_ok-parts.ensures in
    let a = made c.put_chain.new.builder c.in_ok-all.all in
    let all = c.in_ok-all.ensures ∙ ap (chain_lines two.And c.args.builder.now) parts in
    some_chain m before c.requires a all

pub put_binary-requires : goal.put_binary-requires
put_binary-requires c =
    let m = reaching c.args.builder.now c.args.formulas.now c.args.seen.now in
    let before = c.args.before.now in
    let parts = c.deref.ensures.value ∙ c.in_ok-parts.ensures in
    let a = made c.put_chain.new.builder c.in_ok-all.all in
    let all = c.in_ok-all.ensures ∙ ap (chain_lines two.And c.args.builder.now) parts in
    let s = made c.put_chain-2.new.builder c.in_ok-some.some in
    let some = c.in_ok-some.ensures ∙ ap (λ (a : Built). chain_lines two.Or a.0 c.args.formulas.now) all in
    both_can m before c.requires a s all some

pub returns : goal.returns
returns c =
    let m = reaching c.args.builder.now c.args.formulas.now c.args.seen.now in
    let before = c.args.before.now in
    let parts = c.deref.ensures.value ∙ c.in_ok-parts.ensures in
    let a = made c.put_chain.new.builder c.in_ok-all.all in
    let all = c.in_ok-all.ensures ∙ ap (chain_lines two.And c.args.builder.now) parts in
    let s = made c.put_chain-2.new.builder c.in_ok-some.some in
    let some = c.in_ok-some.ensures ∙ ap (λ (a : Built). chain_lines two.Or a.0 c.args.formulas.now) all in
    made_same c.put_binary.result c.put_binary.new.builder _ _ (both_is m before c.requires a s all some) c.put_binary.ensures
