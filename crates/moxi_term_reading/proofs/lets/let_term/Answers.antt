use Rattle.std.proofs.Common.{◌++◌, map, ap, ◌∙◌, append_assoc}
use Rattle.moxi_terms.specs.Tree.{binding, trees_of}
use Rattle.moxi_terms.specs.View.{plain}
use Rattle.moxi_term_reading.specs.Failures.{least}
use Rattle.moxi_term_reading.specs.Reading.{names_of, unless_failed, let_sort}
use Rattle.moxi_terms.proofs.Plain.{plain-Let}
use Rattle.moxi_term_reading.proofs.ReadingLaws.{tests_both, unless_least}
use Rattle.moxi_term_reading.proofs.lets.let_term.Goals as goal

pub returns : goal.returns
returns c x y fs e b r =
    let bs = c.args.bindings in
    let shape = c.minimum-shape.ensures ∙ tests_both c.args.failure bs.shape fs x.shape e b.shape in
    let parts = c.minimum.ensures ∙ tests_both bs.failure c.args.r.failure x.failures y.failures b.failure r.failure in
    record {
      term = plain-Let bs.names bs.terms c.in_ok-held.held ∙ ap (λ n. binding n (trees_of (map plain bs.terms.items)) (plain c.in_ok-held.held.value)) (b.names)
          ∙ ap (λ ts. binding (names_of x.locals) (trees_of ts) (plain c.in_ok-held.held.value)) b.terms
          ∙ ap (binding (names_of x.locals) (trees_of x.terms)) (ap plain c.in_ok-held.ensures.ok ∙ r.term);
      sort = c.unless_failed.ensures ∙ unless_least (fs ++ x.shape) c.let_sort-sort.result c.minimum-shape.result shape
          ∙ ap (unless_failed (fs ++ x.shape)) (c.let_sort-sort.ensures ∙ ap (λ ls. let_sort ls c.args.r.sort) b.locals ∙ ap (let_sort x.locals) r.sort);
      failure = c.minimum-2.ensures ∙ tests_both c.minimum-shape.result c.minimum.result (fs ++ x.shape) (x.failures ++ y.failures) shape parts ∙ ap least (append_assoc fs x.shape (x.failures ++ y.failures));
    }
