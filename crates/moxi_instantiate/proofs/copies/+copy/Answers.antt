use Rattle.std.proofs.Common.{◌≡◌, ◌∙◌, ap}
use Rattle.moxi_terms.specs.View.{plain}
use Rattle.moxi_flat.specs.Renumbering.{renumbered}
use Rattle.moxi_instantiate.specs.Copying.{number_in}
use Rattle.moxi_instantiate.proofs.Copied.{apply_copied, call_copied, let_copied}
use Rattle.moxi_instantiate.proofs.copies.+copy.Goals as goal

pub renumber-returns-in_ok-copies-in-Apply : goal.renumber-returns-in_ok-copies-in-Apply
renumber-returns-in_ok-copies-in-Apply t c =
    apply_copied (number_in c.args.places.now) c.args.term.now c.in-Apply.op c.in-Apply.terms c.in_ok-copies-in-Apply.copies c.deref.result.now c.in-Apply.is c.in_ok-copies-in-Apply.ensures c.deref.ensures.value

pub renumber-returns-in_ok-held-in-Let : goal.renumber-returns-in_ok-held-in-Let
renumber-returns-in_ok-held-in-Let t c =
    let place = number_in c.args.places.now in
    let inner : plain c.in_ok-inner-in-Let.inner ≡ renumbered (number_in c.args.places.now) (plain c.deref-in-Let-2.result.now) = c.in_ok-inner-in-Let.ensures in
    let held : c.in_ok-held-in-Let.held.value ≡ c.in_ok-inner-in-Let.inner = c.in_ok-held-in-Let.ensures.ok in
    let_copied place c.args.term.now c.in-Let.names c.in_ok-bound-in-Let.bound c.in-Let.terms c.in_ok-copies-in-Let.copies c.deref-in-Let.result.now c.in-Let.body c.in_ok-held-in-Let.held
    c.in-Let.is c.in_ok-bound-in-Let.ensures c.in_ok-copies-in-Let.ensures c.deref-in-Let.ensures.value
    (ap plain held ∙ inner ∙ ap (λ u. renumbered place (plain u)) c.deref-in-Let-2.ensures)

pub renumber-returns-in_ok-copies-in-Call : goal.renumber-returns-in_ok-copies-in-Call
renumber-returns-in_ok-copies-in-Call t c =
    call_copied (number_in c.args.places.now) c.args.term.now c.in-Call.n c.in-Call.terms c.in_ok-copies-in-Call.copies c.deref-in-Call.result.now c.in-Call.is c.in_ok-copies-in-Call.ensures c.deref-in-Call.ensures.value
