use Rattle.std.proofs.Common.{◌≡◌, ◌+◌, ◌-◌, ◌<◌, suc, length, sym, ap, ◌∙◌, arith}
use Rattle.std.proofs.lemmas.Result.{IfOk-weaker}
use Rattle.word_core.specs.declared.word.TheConstants.{WIDEST}
use Rattle.btor_tree.specs.Fits.{sort_at, sort_place, sort_line}
use Rattle.btor_tree.proofs.Sorts.{sort_place_is, sort_made}
use Rattle.btor_tree.proofs.numbered_lines.NumberedLines.sort.Goals as goal

pub returns-in-Some-clause-width : goal.returns-in-Some-clause-width
returns-in-Some-clause-width c =
    let lines = c.self.inside.nodes in
    let place = c.in-Some.place in
    let w = c.args.width in
    let e : w ≡ suc (w - 1) = omega (arith, c.requires.least) in
    let lt : w - 1 < WIDEST = omega (arith, c.requires.most, c.requires.least) in
    ap (λ ls. sort_at ls place) (sym c.self.view_is)
    ∙ sort_place_is lines w place (ap (sort_place lines) e ∙ sym (c.self.invariant.2.places (w - 1) lt) ∙ c.in-Some.is)

pub returns-in-None-clause-width : goal.returns-in-None-clause-width
returns-in-None-clause-width c =
    IfOk-weaker c.push.result _ _
    (λ p made. sort_made c.args.self.now c.push.new.self (sort_line (length c.args.self.now + 1) c.args.width) p made.0 made.1)
    rw c.no_args.ensures at c.push.ensures.line
