use Rattle.std.proofs.Common.{false, ◌≡◌, ◌||◌, sym, ◌∙◌}
use Rattle.std.proofs.lemmas.Bool.{or_parts}
use Rattle.moxi_sexpr.proofs.Lines.{token_along}
use Rattle.moxi_sexpr.proofs.read.place_of_rest.Goals as goal
use Rattle.text_core.specs.Bytes.{heads}

pub returns-else-starts_quoted : goal.returns-else-starts_quoted
returns-else-starts_quoted c =
    let text = c.args.text.now in
    let neither : (heads 124 text || heads 34 text) ≡ false = sym c.starts_quoted.ensures ∙ c.if-starts_quoted.false in
    let parts = or_parts (heads 124 text) (heads 34 text) neither in
    c.along.ensures ∙ sym (token_along c.args.place text c.args.rest.now c.requires.token.0 c.requires.token.1 parts.0 parts.1 c.requires.within)
