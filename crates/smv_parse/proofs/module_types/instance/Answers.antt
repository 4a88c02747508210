use Rattle.std.proofs.Common.{suc, map, length, sym, ap, ◌∙◌}
use Rattle.std.proofs.lemmas.Result.{err_from_is_err_and}
use Rattle.smv_text.specs.Tree.{trees_of, instance}
use Rattle.smv_text.specs.View.{plain}
use Rattle.smv_grammar.specs.Readers.{found, died, picked, expression}
use Rattle.smv_grammar.specs.Rules.{bracketed, instance_pick}
use Rattle.smv_grammar.proofs.Mapped.{mapped_reads, mapped_dies}
use Rattle.smv_parse.proofs.Leads.{gives_exit}
use Rattle.smv_text.specs.declared.tree.VarKind.{VarKind}
use Rattle.smv_parse.proofs.module_types.instance.Goals as goal

pub returns-in_err-all-in-State-clause-reads : goal.returns-in_err-all-in-State-clause-reads
returns-in_err-all-in-State-clause-reads c =
    gives_exit _ (picked (instance_pick c.args.kind c.args.module.now) c.args.high c.args.tokens.now (died (suc (length c.args.tokens.now)))) (bracketed expression c.args.high c.args.tokens.now) _ _ (err_from_is_err_and c.from_residual.result c.from_residual.ensures.1) (λ n e. ap (λ (k : VarKind). picked (instance_pick k c.args.module.now) c.args.high c.args.tokens.now (died (suc (length c.args.tokens.now)))) c.in-State.is ∙ mapped_dies _ _ e) c.in_err-all-in-State.ensures.reads

pub returns-in_ok-duplicate-in-State-clause-reads : goal.returns-in_ok-duplicate-in-State-clause-reads
returns-in_ok-duplicate-in-State-clause-reads c =
    ap (λ (k : VarKind). picked (instance_pick k c.args.module.now) c.args.high c.args.tokens.now (died (suc (length c.args.tokens.now)))) c.in-State.is ∙ mapped_reads _ _ c.in_ok-all-in-State.ensures.reads
    ∙ ap (λ z. found (instance z (trees_of (map plain c.in_ok-all-in-State.all.items))) c.in_ok-all-in-State.high c.in_ok-all-in-State.last.now) (sym c.in_ok-duplicate-in-State.ensures)
