use Rattle.std.proofs.Common.{◌++◌, [], ◌∷◌, sym, ap, ◌∙◌, append_assoc}
use Rattle.smv_text.specs.Levels.{prefix_kind}
use Rattle.smv_lex.specs.Spelling.{spaced}
use Rattle.smv_print.specs.Printing.{repeated}
use Rattle.smv_print.proofs.Spaces.{spaced_more}
use Rattle.smv_print.proofs.spelling.put_prefixes.Goals as goal

pub loop-preserved : goal.loop-preserved
loop-preserved c =
    let k = prefix_kind c.args.prefix in
    let more = spaced_more c.loop.counter k in
    c.in_ok-put_prefix.ensures ∙ ap (λ x. x ++ spaced (k ∷ [])) c.loop.invariant
    ∙ append_assoc c.args.out.now (spaced (repeated c.loop.counter k)) (spaced (k ∷ [])) ∙ ap (λ x. c.args.out.now ++ x) (sym more)
