use Rattle.std.proofs.Common.{◌++◌, ◌∷◌, ◌<◌, [], take, length, arith, sym, ap, ◌∙◌, append_assoc}
use Rattle.moxi_terms.specs.Names.{numbered}
use Rattle.moxi_terms.proofs.ScopeLaws.{front_kept, numbered_take}
use Rattle.moxi_terms.proofs.scope.number_constants.Goals as goal

pub returns-in_err-push-clause-front : goal.returns-in_err-push-clause-front
returns-in_err-push-clause-front c =
    let b = c.args.before in
    let old = c.args.numbers.now.items in
    ap (take b) (c.in_err-push.ensures.items ∙ c.loop-i.invariant) ∙ front_kept b old (numbered c.args.n 0 (take c.loop-i.i c.args.constants.now)) c.requires.before

pub loop-i-preserved : goal.loop-i-preserved
loop-i-preserved c =
    let l = c.loop-i in
    let front = take c.args.before c.args.numbers.now.items in
    c.in_ok-push.ensures.items ∙ ap (λ ns. ns ++ (c.args.n, l.i) ∷ []) l.invariant
    ∙ append_assoc front (numbered c.args.n 0 (take l.i c.args.constants.now)) ((c.args.n, l.i) ∷ [])
    ∙ ap (λ ns. front ++ ns) (sym (numbered_take c.args.n c.args.constants.now l.i (let h : l.i < length c.args.constants.now = omega (arith, c.len-i-end.ensures) in h)))

pub returns-clause-front : goal.returns-clause-front
returns-clause-front c =
    let b = c.args.before in
    ap (take b) c.loop-i.invariant ∙ front_kept b c.args.numbers.now.items (numbered c.args.n 0 (take c.loop-i.i c.args.constants.now)) c.requires.before
