use Rattle.std.proofs.Common.{◌<◌, ◌≤◌, ◌∷◌, [], Ok, Err, length, refl, sym, subst, ◌∙◌, arith}
use Rattle.std.proofs.lemmas.Bool.Decides.{nat_tests}
use Rattle.text_core.specs.declared.end.End.TheVariants.{Bad}
use Rattle.smv_text.specs.declared.token.TokenKind.TheVariants as kind
use Rattle.smv_text.specs.Lexing.{most_brackets, opened_by, refusal_at}
use Rattle.smv_text.specs.Signs.{sign_bytes}
use Rattle.smv_lex.specs.Adding.{IsBad}
use Rattle.smv_lex.proofs.Sized.{is_put, sign_added}
use Rattle.smv_lex.proofs.adding.add_sign.Goals as goal

pub returns-then-opened-gt-MOST_BRACKETS : goal.returns-then-opened-gt-MOST_BRACKETS
returns-then-opened-gt-MOST_BRACKETS c =
    let n = c.args.opened in
    let at = c.args.place in
    let rest = c.args.rest.now in
    let sign = c.in-Some.sign in
    let many : most_brackets < opened_by n (kind.Sign sign) = grind (arith, nat_tests, c.opened_by_sign-opened.ensures, c.if-opened-gt-MOST_BRACKETS.true) in
    subst (IsBad n at (c.args.b ∷ rest)) (sym c.refused-then-opened-gt-MOST_BRACKETS.ensures)
    (sign_added n at rest c.args.b sign (length (sign_bytes sign)) [] [] (Err (Bad (refusal_at 4 at))) c.requires.letter c.requires.digit (sym c.sign_at.ensures ∙ c.in-Some.is) refl (refl, many))

pub returns : goal.returns
returns c =
    let n = c.args.opened in
    let m = c.opened_by_sign-opened.result in
    let sign = c.in-Some.sign in
    let few : m ≤ most_brackets = grind (arith, nat_tests, c.if-opened-gt-MOST_BRACKETS.false) in
    sign_added n c.args.place c.args.rest.now c.args.b sign c.sign_length.result _ _ (Ok c.put.result) c.requires.letter c.requires.digit (sym c.sign_at.ensures ∙ c.in-Some.is) c.sign_length.ensures
    (is_put n m c.args.place c.sign_length.result (kind.Sign sign) _ _ c.put.result c.put.ensures.items c.put.ensures.added c.opened_by_sign-opened.ensures few)
