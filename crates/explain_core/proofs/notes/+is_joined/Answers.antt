use Rattle.std.proofs.Common.{sym, ap, ◌∙◌}
use Rattle.std.specs.Str.{bytes_eq}
use Rattle.std.proofs.lemmas.List.{take_rest}
use Rattle.command_core.specs.Notes.{joined}
use Rattle.explain_core.proofs.Joining.{joined_on}
use Rattle.explain_core.proofs.notes.+is_joined.Goals as goal

pub returns-then-starts_with : goal.returns-then-starts_with
returns-then-starts_with t c =
    c.is_joined.ensures
    ∙ ap (λ xs. bytes_eq xs (joined c.in-Some.more.now)) (take_rest c.args.text.now _)
    ∙ sym (joined_on c.args.text.now c.in-Some.piece.now.now (joined c.in-Some.more.now) (sym c.starts_with.ensures.value ∙ c.if-starts_with.true))
    ∙ ap (λ ps. bytes_eq c.args.text.now (joined ps)) (sym c.in-Some.ensures.cases.0)
