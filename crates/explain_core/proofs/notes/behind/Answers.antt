use Rattle.std.proofs.Common.{◌++◌, sym, ap, ◌∙◌}
use Rattle.std.proofs.lemmas.List.{take_rest}
use Rattle.explain_core.proofs.Joining.{begins}
use Rattle.explain_core.proofs.notes.behind.Goals as goal

pub returns-then-starts_with-clause-whole : goal.returns-then-starts_with-clause-whole
returns-then-starts_with-clause-whole c =
    begins c.args.text.now c.args.words.now (sym c.starts_with.ensures.value ∙ c.if-starts_with.true)
    ∙ ap (λ r. c.args.words.now ++ r) (sym (take_rest c.args.text.now _))
