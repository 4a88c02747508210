use Rattle.std.proofs.Common.{◌≡◌, Some, None, sym, ap, ◌∙◌, subst}
use Rattle.btor_tree.specs.Parts.{numeral}
use Rattle.btor_witness.specs.Shapes.{assignment_shape}
use Rattle.btor_judge.specs.Firsts.{first_number}
use Rattle.btor_judge.specs.Digit.{SpellsDigits, word_from, assigned}
use Rattle.btor_judge.proofs.FirstLaws.{number_is}
use Rattle.btor_judge.proofs.DigitLaws.{word_is, assignment_is}
use Rattle.btor_judge.proofs.scan.assignment.Goals as goal

pub returns-in-Some : goal.returns-in-Some
returns-in-Some c = λ p q e f.
    let word = word_is q c.word.result (subst (λ d. SpellsDigits d c.word.result) f c.word.ensures) in
    let index : Some c.in-Some.index ≡ numeral p = c.in-Some.ensures ∙ ap first_number e ∙ number_is p in
    c.with_word.ensures ∙ ap (assigned (Some c.in-Some.index)) word ∙ ap (λ o. assigned o (word_from q)) index ∙ assignment_is (numeral p) q

pub returns-in-None : goal.returns-in-None
returns-in-None c = λ p q e f.
    let none : numeral p ≡ None = sym (number_is p) ∙ ap first_number (sym e) ∙ sym c.in-None.ensures in
    sym (ap (λ o. assignment_shape o q) none)
