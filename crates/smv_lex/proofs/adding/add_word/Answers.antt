use Rattle.std.proofs.Common.{Some, Ok, [], take, refl}
use Rattle.smv_text.specs.declared.token.TokenKind.TheVariants as kind
use Rattle.smv_text.specs.Words.{keyword_kind}
use Rattle.smv_lex.proofs.Sized.{added, is_put, known_kind, name_kind}
use Rattle.smv_lex.proofs.adding.add_word.Goals as goal

pub returns-in-Some : goal.returns-in-Some
returns-in-Some c =
    let word = keyword_kind [] (Some c.in-Some.keyword) in
    let is = known_kind (take c.args.size c.args.text.now) _ _ word c.requires.word c.keyword_of.ensures c.in-Some.is refl in
    added c.args.opened c.args.place c.args.text.now c.args.size word _ _ _ c.requires.size c.requires.some is c.add_keyword.ensures

pub returns-in_ok-name-in-None : goal.returns-in_ok-name-in-None
returns-in_ok-name-in-None c =
    let name = c.in_ok-name-in-None.name in
    let is = name_kind (take c.args.size c.args.text.now) name _ c.requires.word c.keyword_of.ensures c.in-None.is c.in_ok-name-in-None.ensures in
    added c.args.opened c.args.place c.args.text.now c.args.size (kind.Ident name) _ _ (Ok c.put.result) c.requires.size c.requires.some is
    (is_put c.args.opened c.args.opened c.args.place c.args.size (kind.Ident name) _ _ c.put.result c.put.ensures.items c.put.ensures.added refl c.requires.opened)
