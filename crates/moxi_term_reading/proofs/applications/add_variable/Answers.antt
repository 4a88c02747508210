use Rattle.std.proofs.Common.{◌≡◌, rules, ℕ, Bool, ◌++◌, ◌∷◌, [], map, sym, ap, ◌∙◌, append_assoc}
use Rattle.std.specs.Option.{option_map}
use Rattle.moxi_terms.specs.Tree.{variable}
use Rattle.moxi_terms.specs.View.{plain}
use Rattle.moxi_terms.specs.declared.term.Term.{Variable, the_lemmas}
use Rattle.moxi_term_reading.specs.Reading.{joined}
use Rattle.moxi_term_reading.specs.Answer.{kept, sorts_in}
use Rattle.moxi_term_reading.proofs.ReadingLaws.{tests_both, kept_more, plain_end}
use Rattle.moxi_term_reading.proofs.applications.add_variable.Goals as goal

plain_variable : (v : ℕ) (primed : Bool) → plain (Variable v primed) ≡ variable v primed
plain_variable v primed = search (rules, the_lemmas)

pub returns : goal.returns
returns c x y before a term sort failure =
    let s = c.args.sort in
    let t = Variable c.args.v c.args.primed in
    let args = c.args.args.now in
    let own = a.own ++ sorts_in s in
    record {
      own = own;
      stack = c.in_ok-args.ensures.sorts ∙ ap (λ ss. ss ++ sorts_in s) a.stack ∙ append_assoc before a.own (sorts_in s);
      read = record {
        terms = ap (map plain) c.in_ok-push.ensures.items ∙ plain_end args.terms.items t ∙ ap (λ ts. ts ++ plain t ∷ []) a.read.terms ∙ ap (λ t. x.terms ++ t ∷ []) (plain_variable c.args.v c.args.primed ∙ sym term);
        sorts = ap (λ b. kept b own) c.in_ok-args.ensures.whole ∙ kept_more args.whole a.own s ∙ ap (λ o. joined o (option_map (λ s. s ∷ []) s)) a.read.sorts ∙ ap (λ o. joined x.sorts (option_map (λ s. s ∷ []) o)) sort;
        failure = c.minimum-args.ensures ∙ tests_both args.failure c.args.failure x.failures y.failures a.read.failure failure;
      };
    }
