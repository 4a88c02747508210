use Rattle.std.proofs.Common.{◌≡◌, Some, sym, ap, ◌∙◌, subst}
use Rattle.moxi_term_reading.specs.Reading.{literal_named, literal_reading, literal_digits}
use Rattle.moxi_term_reading.specs.Forms.{digits_now}
use Rattle.moxi_term_reading.specs.Answer.{IsRead}
use Rattle.moxi_sexpr.specs.Tree.{plain_forms}
use Rattle.moxi_term_reading.proofs.atoms.named_literal.Goals as goal

pub returns-in-Some : goal.returns-in-Some
returns-in-Some c fs e =
    let ts = plain_forms c.args.rest.now in
    let found : Some c.in-Some.digits.now ≡ literal_digits c.args.name.now = ap digits_now (sym c.in-Some.is) ∙ c.literal_digits.ensures in
    subst (λ o. IsRead (literal_named c.args.p c.args.q c.args.name.now fs o ts) c.literal.result) found
    (subst (λ w. IsRead (literal_reading c.args.p c.in-Some.digits.now fs w) c.literal.result) c.only_numeral.ensures (c.literal.ensures fs e))
