use Rattle.std.proofs.Common.{◌≡◌, [], ℕ, List, None, ap, sym, ◌∙◌, subst}
use Rattle.btor_tree.specs.declared.lines.Line.{Line}
use Rattle.btor_tree.specs.Fits.{sort_at}
use Rattle.btor_tree.specs.Sharing.{with_sort}
use Rattle.btor_tree.proofs.Alike.{pushed_sort}
use Rattle.btor_tree.proofs.SortTable.{pushed_there, sort_known}
use Rattle.btor_tree.proofs.builder.Builder.sort.Goals as goal

pub returns-in-Some-clause-width : goal.returns-in-Some-clause-width
returns-in-Some-clause-width c =
    let lines = c.self.inside.lines.items in
    ap (λ ls. sort_at ls c.in-Some.place) (sym c.self.view_is)
    ∙ ap (λ (x : List Line × ℕ). sort_at x.0 x.1) (sort_known lines c.self.inside.sorts c.args.width c.in-Some.place c.requires.least c.in-Some.is c.self.invariant.4)
    ∙ pushed_sort lines c.args.width [] None

pub remember-requires-clause-there : goal.remember-requires-clause-there
remember-requires-clause-there c =
    pushed_there c.args.self.now c.args.width c.no_args.result None c.push.new.self c.in_ok-place.place c.no_args.ensures c.in_ok-place.ensures.line

pub returns-clause-width : goal.returns-clause-width
returns-clause-width c =
    ap (λ ls. sort_at ls c.in_ok-place.place) c.remember.ensures
    ∙ ap (λ (x : List Line × ℕ). sort_at x.0 x.1) c.in_ok-place.ensures.line
    ∙ pushed_sort c.args.self.now c.args.width c.no_args.result None

pub returns-in-Some-clause-line : goal.returns-in-Some-clause-line
returns-in-Some-clause-line c =
    subst (λ ls. (ls, c.in-Some.place) ≡ with_sort ls c.args.width) c.self.view_is
    (sort_known c.self.inside.lines.items c.self.inside.sorts c.args.width c.in-Some.place c.requires.least c.in-Some.is c.self.invariant.4)
