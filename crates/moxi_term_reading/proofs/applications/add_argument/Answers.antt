use Rattle.std.proofs.Common.{◌++◌, ◌∷◌, [], map, ap, ◌∙◌, append_assoc}
use Rattle.std.specs.Option.{option_map}
use Rattle.moxi_terms.specs.View.{plain}
use Rattle.moxi_term_reading.specs.Reading.{joined}
use Rattle.moxi_term_reading.specs.Answer.{kept, sorts_in}
use Rattle.moxi_term_reading.proofs.ReadingLaws.{tests_both, kept_more, plain_end}
use Rattle.moxi_term_reading.proofs.applications.add_argument.Goals as goal

pub returns : goal.returns
returns c x y before a r =
    let s = c.args.r.sort in
    let args = c.args.args.now in
    let own = a.own ++ sorts_in s in
    record {
      own = own;
      stack = c.in_ok-args.ensures.sorts ∙ ap (λ ss. ss ++ sorts_in s) a.stack ∙ append_assoc before a.own (sorts_in s);
      read = record {
        terms = ap (map plain) c.in_ok-put.ensures ∙ plain_end args.terms.items c.args.r.term ∙ ap (λ ts. ts ++ plain c.args.r.term ∷ []) a.read.terms ∙ ap (λ t. x.terms ++ t ∷ []) r.term;
        sorts = ap (λ b. kept b own) c.in_ok-args.ensures.whole ∙ kept_more args.whole a.own s ∙ ap (λ o. joined o (option_map (λ s. s ∷ []) s)) a.read.sorts ∙ ap (λ o. joined x.sorts (option_map (λ s. s ∷ []) o)) r.sort;
        failure = c.minimum-args.ensures ∙ tests_both args.failure c.args.r.failure x.failures y.failures a.read.failure r.failure;
      };
    }
