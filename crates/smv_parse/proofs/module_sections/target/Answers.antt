use Rattle.std.proofs.Common.{refl, sym, ◌∙◌}
use Rattle.std.proofs.lemmas.Result.{err_from_is_err_and}
use Rattle.smv_text.specs.declared.token.Reserved.TheVariants as words
use Rattle.smv_text.specs.declared.tree.When.TheVariants.{First, Following}
use Rattle.smv_grammar.specs.Readers.{fail, either}
use Rattle.smv_grammar.specs.Rules.{path, enclosed, target_pick}
use Rattle.smv_grammar.proofs.Mapped.{mapped_reads, mapped_dies}
use Rattle.smv_parse.proofs.Leads.{gives_exit}
use Rattle.smv_parse.proofs.Numerals.{path_found, path_loses}
use Rattle.smv_parse.proofs.Turns.{target_first, target_path}
use Rattle.smv_parse.proofs.module_sections.target.Goals as goal
use Rattle.smv_grammar.proofs.Sections.{always_of}

pub returns-in_err-target-clause-reads : goal.returns-in_err-target-clause-reads
returns-in_err-target-clause-reads c h =
    gives_exit _ (either target_pick fail h c.args.tokens.now) (enclosed First h c.in-Some.rest.now) _ _ (err_from_is_err_and c.from_residual.result c.from_residual.ensures.1) (λ n e. target_first words.Initial (enclosed First) (λ p. refl) h c.args.tokens.now c.in-Some.rest.now (sym c.in-Some.ensures.found) ∙ e) (c.in_err-target.ensures.reads h First)

pub returns-in-Some-clause-reads : goal.returns-in-Some-clause-reads
returns-in-Some-clause-reads c h =
    target_first words.Initial (enclosed First) (λ p. refl) h c.args.tokens.now c.in-Some.rest.now (sym c.in-Some.ensures.found) ∙ c.in_ok-target.ensures.reads h First

pub returns-in_err-target-2-clause-reads : goal.returns-in_err-target-2-clause-reads
returns-in_err-target-2-clause-reads c h =
    gives_exit _ (either target_pick fail h c.args.tokens.now) (enclosed Following h c.in-Some-after_word.rest.now) _ _ (err_from_is_err_and c.from_residual-in_err-target-2.result c.from_residual-in_err-target-2.ensures.1) (λ n e. target_first words.Next (enclosed Following) (λ p. refl) h c.args.tokens.now c.in-Some-after_word.rest.now (sym c.in-Some-after_word.ensures.found) ∙ e) (c.in_err-target-2.ensures.reads h Following)

pub returns-in-Some-after_word-clause-reads : goal.returns-in-Some-after_word-clause-reads
returns-in-Some-after_word-clause-reads c h =
    target_first words.Next (enclosed Following) (λ p. refl) h c.args.tokens.now c.in-Some-after_word.rest.now (sym c.in-Some-after_word.ensures.found) ∙ c.in_ok-target-2.ensures.reads h Following

pub returns-in_err-target-3-clause-reads : goal.returns-in_err-target-3-clause-reads
returns-in_err-target-3-clause-reads c h =
    gives_exit _ (either target_pick fail h c.args.tokens.now) (path h c.args.tokens.now) _ _ (err_from_is_err_and c.from_residual-in_err-target-3.result c.from_residual-in_err-target-3.ensures.1) (λ n e. target_path h c.args.tokens.now (sym c.in_default.ensures.found) (sym c.in_default-after_word.ensures.found) ∙ mapped_dies always_of path e) (path_loses h c.args.tokens.now _ c.in_err-target-3.ensures.found)

pub returns-clause-reads : goal.returns-clause-reads
returns-clause-reads c h =
    target_path h c.args.tokens.now (sym c.in_default.ensures.found) (sym c.in_default-after_word.ensures.found) ∙ mapped_reads always_of path (path_found h c.args.tokens.now c.in_ok-target-3.target c.in_ok-target-3.last.now c.in_ok-target-3.ensures.found)
