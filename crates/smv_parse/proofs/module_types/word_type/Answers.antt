use Rattle.std.proofs.Common.{suc, length, sym, ap, ◌∙◌}
use Rattle.std.proofs.lemmas.Result.{err_from_is_err_and}
use Rattle.smv_text.specs.declared.token.Reserved.TheVariants as words
use Rattle.smv_text.specs.declared.token.TokenKind.TheVariants as kind
use Rattle.smv_grammar.specs.Readers.{died, picked}
use Rattle.smv_grammar.specs.Rules.{width, domain_pick}
use Rattle.smv_grammar.proofs.Lawful.{both_reads, both_dies, both_dies_first}
use Rattle.smv_grammar.proofs.Mapped.{mapped_reads, mapped_dies}
use Rattle.smv_parse.proofs.Leads.{gives_exit, word_after, word_missing}
use Rattle.smv_text.specs.declared.token.Reserved.{Reserved}
use Rattle.smv_parse.proofs.module_types.word_type.Goals as goal

pub returns-in_err-n-in-Some-clause-reads : goal.returns-in_err-n-in-Some-clause-reads
returns-in_err-n-in-Some-clause-reads c h k p =
    gives_exit _ (picked (domain_pick k (kind.Reserved c.args.word) p) h c.args.tokens.now (died (suc (length c.args.tokens.now)))) (width h c.in-Some.rest.now) _ _ (err_from_is_err_and c.from_residual.result c.from_residual.ensures.1) (λ n e. ap (λ (w : Reserved). picked (domain_pick k (kind.Reserved w) p) h c.args.tokens.now (died (suc (length c.args.tokens.now)))) c.in-Unsigned.is ∙ mapped_dies _ _ (both_dies _ _ ((word_after words.Word h c.args.tokens.now c.in-Some.rest.now (sym c.in-Some.ensures.found)).1) e)) (c.in_err-n-in-Some.ensures.reads h)

pub returns-in_err-n-in-Word-clause-reads : goal.returns-in_err-n-in-Word-clause-reads
returns-in_err-n-in-Word-clause-reads c h k p =
    gives_exit _ (picked (domain_pick k (kind.Reserved c.args.word) p) h c.args.tokens.now (died (suc (length c.args.tokens.now)))) (width h c.args.tokens.now) _ _ (err_from_is_err_and c.from_residual-in_err-n-in-Word.result c.from_residual-in_err-n-in-Word.ensures.1) (λ n e. ap (λ (w : Reserved). picked (domain_pick k (kind.Reserved w) p) h c.args.tokens.now (died (suc (length c.args.tokens.now)))) c.in-Word.is ∙ mapped_dies _ _ e) (c.in_err-n-in-Word.ensures.reads h)

pub returns-in_ok-n-in-Some-clause-reads : goal.returns-in_ok-n-in-Some-clause-reads
returns-in_ok-n-in-Some-clause-reads c h k p =
    ap (λ (w : Reserved). picked (domain_pick k (kind.Reserved w) p) h c.args.tokens.now (died (suc (length c.args.tokens.now)))) c.in-Unsigned.is ∙ mapped_reads _ _ (both_reads _ _ ((word_after words.Word h c.args.tokens.now c.in-Some.rest.now (sym c.in-Some.ensures.found)).1) (c.in_ok-n-in-Some.ensures.reads h))

pub returns-in-None-clause-reads : goal.returns-in-None-clause-reads
returns-in-None-clause-reads c h k p =
    ap (λ (w : Reserved). picked (domain_pick k (kind.Reserved w) p) h c.args.tokens.now (died (suc (length c.args.tokens.now)))) c.in-Unsigned.is ∙ mapped_dies _ _ (both_dies_first _ _ (word_missing words.Word h c.args.tokens.now (sym c.in-None.ensures.found)))

pub returns-in_ok-n-in-Word-clause-reads : goal.returns-in_ok-n-in-Word-clause-reads
returns-in_ok-n-in-Word-clause-reads c h k p =
    ap (λ (w : Reserved). picked (domain_pick k (kind.Reserved w) p) h c.args.tokens.now (died (suc (length c.args.tokens.now)))) c.in-Word.is ∙ mapped_reads _ _ (c.in_ok-n-in-Word.ensures.reads h)
