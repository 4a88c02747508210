use Rattle.std.proofs.Common.{refl, sym, ◌∙◌}
use Rattle.std.proofs.lemmas.Result.{err_from_is_err_and}
use Rattle.smv_text.specs.declared.token.Sign.TheVariants as signs
use Rattle.smv_grammar.specs.Rules.{sign, name, label}
use Rattle.smv_grammar.proofs.Lawful.{both_reads, both_dies, both_dies_first}
use Rattle.smv_grammar.proofs.Mapped.{mapped_reads, mapped_dies}
use Rattle.smv_parse.proofs.Leads.{gives_exit, sign_after, misses_loses}
use Rattle.smv_parse.proofs.Turns.{label_taken, label_passed}
use Rattle.smv_parse.proofs.module_sections.label.Goals as goal

pub returns-in_err-label-in-Some-clause-reads : goal.returns-in_err-label-in-Some-clause-reads
returns-in_err-label-in-Some-clause-reads c h =
    gives_exit _ (label h c.args.tokens.now) (name h c.in-Some.more.now) _ _ (err_from_is_err_and c.from_residual.result c.from_residual.ensures.1) (λ n e. label_taken h c.args.tokens.now c.in-Some.more.now (sym c.in-Some.ensures.found) _ (λ p. refl) ∙ mapped_dies _ _ (both_dies_first _ _ e)) (c.in_err-label-in-Some.ensures.reads h)

pub returns-in_err-last-in-Some-clause-reads : goal.returns-in_err-last-in-Some-clause-reads
returns-in_err-last-in-Some-clause-reads c h =
    gives_exit _ (label h c.args.tokens.now) (sign signs.Assign h c.in_ok-label-in-Some.rest.now) _ _ (err_from_is_err_and c.from_residual-in_err-last-in-Some.result c.from_residual-in_err-last-in-Some.ensures.1) (λ n e. label_taken h c.args.tokens.now c.in-Some.more.now (sym c.in-Some.ensures.found) _ (λ p. refl) ∙ mapped_dies _ _ (both_dies _ _ (c.in_ok-label-in-Some.ensures.reads h) e)) (misses_loses signs.Assign h c.in_ok-label-in-Some.rest.now _ c.in_err-last-in-Some.ensures.passes)

pub returns-in_ok-last-in-Some-clause-reads : goal.returns-in_ok-last-in-Some-clause-reads
returns-in_ok-last-in-Some-clause-reads c h =
    label_taken h c.args.tokens.now c.in-Some.more.now (sym c.in-Some.ensures.found) _ (λ p. refl) ∙ mapped_reads _ _ (both_reads _ _ (c.in_ok-label-in-Some.ensures.reads h) ((sign_after signs.Assign h c.in_ok-label-in-Some.rest.now c.in_ok-last-in-Some.last.now c.in_ok-last-in-Some.ensures.passes).1))

pub returns-in-None-clause-reads : goal.returns-in-None-clause-reads
returns-in-None-clause-reads c h =
    label_passed h c.args.tokens.now (sym c.in-None.ensures.found)
