use Rattle.std.proofs.Common.{◌≡◌, ◌<◌, ◌∷◌, [], ◌++◌, length, map, ap, ◌∙◌, subst, arith}
use Rattle.std.specs.Prelude.{slice_index_or}
use Rattle.moxi_terms.specs.View.{plain, plain_function}
use Rattle.moxi_flat.specs.Terms.{measured_upto, term_size}
use Rattle.moxi_instantiate.specs.Counting.{AreCounted, capped, known}
use Rattle.moxi_instantiate.proofs.Bodies.{one_longer, one_more}
use Rattle.moxi_instantiate.proofs.Capping.{sizes_agree}
use Rattle.moxi_instantiate.proofs.functions.body_sizes.Goals as goal

pub loop-function-preserved : goal.loop-function-preserved
loop-function-preserved c =
    let fs = c.args.functions.now in
    let k = c.loop-function.function-index in
    let d = c.function-item.result in
    let grown : c.put.new.counts.items ≡ c.loop-function.sizes.items ++ c.term_size-size.result ∷ [] = c.in_ok-put.ensures in
    let there : c.loop-function.function-index < length c.args.functions.now = subst (λ xs. k < length xs) c.as_slice-function-items.ensures c.loop-function-test.true in
    record {
      long = one_longer c.loop-function.sizes.items c.put.new.counts.items c.term_size-size.result k grown c.loop-function.invariant.long;
      counted =
          one_more term_size sizes_agree fs k c.term_size-size.result d c.loop-function.sizes.items c.put.new.counts.items there c.loop-function.invariant.long c.loop-function.invariant.counted
          (subst (λ xs. d ≡ slice_index_or xs k d) c.as_slice-function-items.ensures c.function-item.is)
          (c.term_size-size.ensures.value ∙ ap (λ xs. capped (term_size (known xs) (plain d.body))) c.deref.ensures.value) grown;
    }

pub returns : goal.returns
returns c =
    let e : c.loop-function.function-index ≡ length c.as_slice-function-items.result.now = omega (arith, c.loop-function-test.false, c.loop-function.auto.function-index-end) in
    subst (λ k. AreCounted (measured_upto term_size (map plain_function c.args.functions.now) k) c.loop-function.sizes.items) (e ∙ ap length c.as_slice-function-items.ensures) c.loop-function.invariant.counted
