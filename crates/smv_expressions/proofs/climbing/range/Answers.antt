use mir.Syntax.{w64}
use mir.Val.{SFits, of_z, to_z}
use Rattle.std.proofs.Common.{◌≡◌, sym, ap, ◌∙◌, arith, rules}
use Rattle.std.proofs.lemmas.Int.{ints}
use Rattle.std.proofs.lemmas.Result.{err_from_is_err_and}
use Rattle.smv_text.specs.Tree.{range}
use Rattle.smv_text.specs.Grammar.{start}
use Rattle.smv_grammar.specs.Kept.{cap}
use Rattle.smv_grammar.specs.Ranks.{tightest}
use Rattle.smv_grammar.specs.Machine.{ask, have, upto, walk}
use Rattle.smv_expressions.proofs.Keeping.{leaf_range}
use Rattle.smv_grammar.proofs.Steps.{upto_goes}
use Rattle.smv_grammar.proofs.Climbing.{range_goes}
use Rattle.smv_expressions.proofs.Following.{upto_lost, follows_err}
use Rattle.smv_expressions.proofs.climbing.range.Goals as goal

pub returns-in_err-high-clause-reads : goal.returns-in_err-high-clause-reads
returns-in_err-high-clause-reads c =
    let q = c.from_residual-in_err-high in
    let p = err_from_is_err_and q.result q.ensures.1 in
    let xs = c.args.tokens.now in
    let behind = c.in_ok-behind.behind.now in
    follows_err _ _ (ask (tightest 8)) (upto (start xs) c.in_ok-low.low) xs behind _ p.0 _ p.1 p.2
    (λ k. (k, range_goes k xs c.in_ok-low.dots.now behind c.in_ok-low.low c.in_ok-low.ensures.found c.in_ok-behind.ensures.passes)) (upto_lost (start xs) c.in_ok-low.low behind _ c.in_err-high.ensures.found)

pub returns-clause-reads : goal.returns-clause-reads
returns-clause-reads c =
    let xs = c.args.tokens.now in
    let low = c.in_ok-low.low in
    let high = c.in_ok-high.high in
    let behind = c.in_ok-behind.behind.now in
    let rest = c.in_ok-high.rest.now in
    let low_fits : SFits w64 low = search rules in
    let high_fits : SFits w64 high = search rules in
    let low_is : to_z w64 (of_z w64 low) ≡ low = omega (arith, ints) in
    let high_is : to_z w64 (of_z w64 high) ≡ high = omega (arith, ints) in
    record {
      tree = range c.args.place low high;
      kept = leaf_range _ c.args.place _ _ c.put_leaf.ensures ∙ ap (λ z. cap (range c.args.place z (to_z w64 (of_z w64 high)))) low_is ∙ ap (λ z. cap (range c.args.place low z)) high_is;
      leads = λ k. range_goes k xs c.in_ok-low.dots.now behind low c.in_ok-low.ensures.found c.in_ok-behind.ensures.passes ∙ upto_goes k behind rest (start xs) low high c.in_ok-high.ensures.found
          ∙ ap (λ p. walk rest (have (range p low high) k)) (sym c.requires.first);
    }
