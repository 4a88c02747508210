use Rattle.std.proofs.Common.{◌≡◌, ◌<◌, ◌∷◌, [], ◌++◌, length, set, true, false, Some, refl, sym, ap, ◌∙◌, subst, arith}
use Rattle.std.specs.Prelude.{slice_get, get_or}
use Rattle.std.proofs.lemmas.Option.{slice_get_read}
use Rattle.std.proofs.lemmas.List.{get_or_read_under}
use Rattle.btor_witness.specs.declared.witness.Stated.{Stated}
use Rattle.btor_witness.specs.Parts.{stating}
use Rattle.btor_judge.specs.Kept.{StatedPart, kept, Holds}
use Rattle.btor_judge.proofs.KeptLaws.{holds_more, is_stating}
use Rattle.btor_judge.proofs.part.Part.state.Goals as goal

pub returns-clause-stated : goal.returns-clause-stated
returns-clause-stated c = λ stated h.
    let widths = c.self.inside.widths in
    let marks = c.self.inside.marks.items in
    let words = c.self.inside.words in
    let old : StatedPart = kept widths marks words in
    let holds : Holds old stated = subst (λ (k : StatedPart). Holds k stated) (sym c.self.view_is) h in
    let i = c.args.index in
    let w = c.at.result.now in
    let inside : i < length widths = omega (arith, c.if-place-len.false, c.len.ensures) in
    let in_marks : i < length marks = omega (arith, inside, c.self.invariant.marked) in
    let in_words : i < length words = omega (arith, inside, c.self.invariant.worded) in
    let there : slice_get widths i ≡ Some w = slice_get_read widths (length widths) i w refl inside c.at.ensures in
    let unmarked : get_or marks i false ≡ false = sym (get_or_read_under marks i (length marks) c.index.result.now false c.index.ensures in_marks refl) ∙ c.if-index.false in
    let s : Stated = record { index = i; value = c.in-Some.value } in
    let width = sym c.width.ensures.value ∙ c.if-width-at.false in
    let stating_is = is_stating widths stated i w c.in-Some.value there (sym (holds.marks i) ∙ unmarked) width in (
      stated ++ s ∷ [],
      ap (λ (k : StatedPart). stating k.widths stated i c.args.word) (sym c.self.view_is) ∙ ap (stating widths stated i) c.in-Some.is ∙ stating_is,
      subst (λ ws. Holds (kept widths (set marks i true) ws) (stated ++ s ∷ [])) (sym c.set.ensures) (holds_more old stated s holds in_marks in_words),
    )
