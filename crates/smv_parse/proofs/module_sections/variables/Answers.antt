use Rattle.std.proofs.lemmas.Result.{err_from_is_err_and}
use Rattle.smv_text.specs.Tree.{vars}
use Rattle.smv_grammar.specs.Readers.{mapped, many}
use Rattle.smv_grammar.specs.Rules.{item_pick}
use Rattle.smv_grammar.proofs.Mapped.{mapped_reads, mapped_dies}
use Rattle.smv_parse.proofs.Leads.{gives_exit}
use Rattle.smv_parse.proofs.module_sections.variables.Goals as goal

pub returns-in_err-all-clause-reads : goal.returns-in_err-all-clause-reads
returns-in_err-all-clause-reads c =
    gives_exit _ (mapped (vars c.args.kind) (many (item_pick c.args.kind)) c.args.high c.args.tokens.now) (many (item_pick c.args.kind) c.args.high c.args.tokens.now) _ _ (err_from_is_err_and c.from_residual.result c.from_residual.ensures.1) (λ n e. mapped_dies _ _ e) c.in_err-all.ensures.reads

pub returns-clause-reads : goal.returns-clause-reads
returns-clause-reads c =
    mapped_reads _ _ c.in_ok-all.ensures.reads
