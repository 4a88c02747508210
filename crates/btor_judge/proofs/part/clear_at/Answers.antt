use Rattle.std.proofs.Common.{◌≡◌, ◌+◌, length, set, false, Some, refl, sym, ap, ◌∙◌, subst, arith}
use Rattle.std.specs.Prelude.{slice_get}
use Rattle.std.proofs.lemmas.Option.{slice_get_read}
use Rattle.btor_judge.specs.Kept.{kept, IsClearing}
use Rattle.btor_judge.proofs.KeptLaws.{clearing_marked, clearing_unmarked}
use Rattle.btor_judge.proofs.part.clear_at.Goals as goal

pub zero_of-requires : goal.zero_of-requires
zero_of-requires c =
    let width = c.requires.widths.by_index c.args.place c.at.result.now (slice_get_read c.args.widths.now (length c.args.widths.now) c.args.place c.at.result.now refl c.requires.inside c.at.ensures) in
    record { some = width.0; small = width.1 }

pub returns-then-marks-place-clause-clearing : goal.returns-then-marks-place-clause-clearing
returns-then-marks-place-clause-clearing c = λ h.
    let widths = c.args.widths.now in
    let marks = c.args.marks.now in
    let words = c.args.words.now in
    let place = c.args.place in
    let w = c.at.result.now in
    let there : slice_get widths place ≡ Some w = slice_get_read widths (length widths) place w refl c.requires.inside c.at.ensures in
    subst (λ ws. IsClearing (place + 1) (kept widths (set marks place false) ws)) (sym (c.set.ensures ∙ ap (set words place) c.zero_of.ensures))
    (clearing_marked place w widths marks words there (omega (arith, c.requires.inside, c.requires.marked)) (omega (arith, c.requires.inside, c.requires.worded)) h)

pub returns-else-marks-place-clause-clearing : goal.returns-else-marks-place-clause-clearing
returns-else-marks-place-clause-clearing c = λ h. clearing_unmarked c.args.place c.args.widths.now c.args.marks.now c.args.words.now c.if-marks-place.false h
