use Rattle.std.proofs.Common.{◌++◌, ◌∷◌, [], map, ap, ◌∙◌}
use Rattle.moxi_terms.specs.View.{plain}
use Rattle.moxi_term_reading.proofs.ReadingLaws.{tests_both, plain_end, names_more}
use Rattle.moxi_term_reading.proofs.lets.bind_to.Goals as goal

pub returns : goal.returns
returns c x y fs e b r =
    let all = c.args.all.now in
    let name = c.args.name.now in
    record {
      names = names_more x.locals x.locals all.names c.push.new.self name y.sort b.names (c.in_ok-push.ensures.ok ∙ ap (λ n. all.names ++ n ∷ []) c.in_ok-of.ensures);
      locals = c.in_ok-push-2.ensures.ok ∙ ap (λ n. all.locals ++ record { name = n; sort = c.args.r.sort } ∷ []) c.in_ok-of-2.ensures ∙ ap (λ ls. ls ++ record { name = name; sort = c.args.r.sort } ∷ []) b.locals
          ∙ ap (λ s. x.locals ++ record { name = name; sort = s } ∷ []) r.sort;
      terms = ap (map plain) c.in_ok-put.ensures ∙ plain_end all.terms.items c.args.r.term ∙ ap (λ ts. ts ++ plain c.args.r.term ∷ []) b.terms ∙ ap (λ t. x.terms ++ t ∷ []) r.term;
      shape = c.minimum-all.ensures ∙ tests_both all.shape c.args.primes x.shape fs b.shape e;
      failure = c.minimum-all-2.ensures ∙ tests_both all.failure c.args.r.failure x.failures y.failures b.failure r.failure;
    }
