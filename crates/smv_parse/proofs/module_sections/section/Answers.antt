use Rattle.std.proofs.Common.{◌≡◌, suc, length, ap, ◌∙◌, arith, rules}
use Rattle.std.proofs.lemmas.Result.{err_from_is_err_and}
use Rattle.smv_text.specs.declared.token.Sign.TheVariants as signs
use Rattle.smv_text.specs.declared.token.TokenKind.TheVariants as kind
use Rattle.smv_text.specs.declared.tree.VarKind.TheVariants.{State, Input, Frozen}
use Rattle.smv_text.specs.Tree.{vars, spec}
use Rattle.smv_grammar.specs.Readers.{died, both, mapped, picked, many}
use Rattle.smv_grammar.specs.Rules.{symbol, listed, item_pick, definition_pick, assignment_pick, constraint, label, element_pick}
use Rattle.smv_grammar.proofs.Mapped.{mapped_reads, mapped_dies}
use Rattle.smv_parse.proofs.Leads.{gives_exit, gives_same}
use Rattle.smv_parse.proofs.Turns.{no_section}
use Rattle.std.proofs.Common.{◌+◌}
use Rattle.smv_text.specs.declared.token.Reserved.{Reserved}
use Rattle.smv_parse.proofs.module_sections.section.Goals as goal

pub returns-in-Var-clause-reads : goal.returns-in-Var-clause-reads
returns-in-Var-clause-reads c p =
    gives_same _ (picked (element_pick (kind.Reserved c.args.word) p) c.args.high c.args.tokens.now (died (suc (length c.args.tokens.now)))) (mapped (vars State) (many (item_pick State)) c.args.high c.args.tokens.now) _ (ap (λ (w : Reserved). picked (element_pick (kind.Reserved w) p) c.args.high c.args.tokens.now (died (suc (length c.args.tokens.now)))) c.in-Var.is) c.variables.ensures.reads

pub returns-in-Ivar-clause-reads : goal.returns-in-Ivar-clause-reads
returns-in-Ivar-clause-reads c p =
    gives_same _ (picked (element_pick (kind.Reserved c.args.word) p) c.args.high c.args.tokens.now (died (suc (length c.args.tokens.now)))) (mapped (vars Input) (many (item_pick Input)) c.args.high c.args.tokens.now) _ (ap (λ (w : Reserved). picked (element_pick (kind.Reserved w) p) c.args.high c.args.tokens.now (died (suc (length c.args.tokens.now)))) c.in-Ivar.is) c.variables-in-Ivar.ensures.reads

pub returns-in-Frozenvar-clause-reads : goal.returns-in-Frozenvar-clause-reads
returns-in-Frozenvar-clause-reads c p =
    gives_same _ (picked (element_pick (kind.Reserved c.args.word) p) c.args.high c.args.tokens.now (died (suc (length c.args.tokens.now)))) (mapped (vars Frozen) (many (item_pick Frozen)) c.args.high c.args.tokens.now) _ (ap (λ (w : Reserved). picked (element_pick (kind.Reserved w) p) c.args.high c.args.tokens.now (died (suc (length c.args.tokens.now)))) c.in-Frozenvar.is) c.variables-in-Frozenvar.ensures.reads

pub returns-in_err-all-in-Define-clause-reads : goal.returns-in_err-all-in-Define-clause-reads
returns-in_err-all-in-Define-clause-reads c p =
    gives_exit _ (picked (element_pick (kind.Reserved c.args.word) p) c.args.high c.args.tokens.now (died (suc (length c.args.tokens.now)))) (many definition_pick c.args.high c.args.tokens.now) _ _ (err_from_is_err_and c.from_residual.result c.from_residual.ensures.1) (λ n e. ap (λ (w : Reserved). picked (element_pick (kind.Reserved w) p) c.args.high c.args.tokens.now (died (suc (length c.args.tokens.now)))) c.in-Define.is ∙ mapped_dies _ _ e) (c.in_err-all-in-Define.ensures.reads)

pub returns-in_ok-all-in-Define-clause-reads : goal.returns-in_ok-all-in-Define-clause-reads
returns-in_ok-all-in-Define-clause-reads c p =
    ap (λ (w : Reserved). picked (element_pick (kind.Reserved w) p) c.args.high c.args.tokens.now (died (suc (length c.args.tokens.now)))) c.in-Define.is ∙ mapped_reads _ _ (c.in_ok-all-in-Define.ensures.reads)

pub returns-in_err-all-in-Constants-clause-reads : goal.returns-in_err-all-in-Constants-clause-reads
returns-in_err-all-in-Constants-clause-reads c p =
    gives_exit _ (picked (element_pick (kind.Reserved c.args.word) p) c.args.high c.args.tokens.now (died (suc (length c.args.tokens.now)))) (listed symbol signs.Semicolon c.args.high c.args.tokens.now) _ _ (err_from_is_err_and c.from_residual-in_err-all-in-Constants.result c.from_residual-in_err-all-in-Constants.ensures.1) (λ n e. ap (λ (w : Reserved). picked (element_pick (kind.Reserved w) p) c.args.high c.args.tokens.now (died (suc (length c.args.tokens.now)))) c.in-Constants.is ∙ mapped_dies _ _ e) (c.in_err-all-in-Constants.ensures.reads c.args.high)

pub returns-in_ok-all-in-Constants-clause-reads : goal.returns-in_ok-all-in-Constants-clause-reads
returns-in_ok-all-in-Constants-clause-reads c p =
    ap (λ (w : Reserved). picked (element_pick (kind.Reserved w) p) c.args.high c.args.tokens.now (died (suc (length c.args.tokens.now)))) c.in-Constants.is ∙ mapped_reads _ _ (c.in_ok-all-in-Constants.ensures.reads c.args.high)

pub returns-in_err-all-in-Assign-clause-reads : goal.returns-in_err-all-in-Assign-clause-reads
returns-in_err-all-in-Assign-clause-reads c p =
    gives_exit _ (picked (element_pick (kind.Reserved c.args.word) p) c.args.high c.args.tokens.now (died (suc (length c.args.tokens.now)))) (many assignment_pick c.args.high c.args.tokens.now) _ _ (err_from_is_err_and c.from_residual-in_err-all-in-Assign.result c.from_residual-in_err-all-in-Assign.ensures.1) (λ n e. ap (λ (w : Reserved). picked (element_pick (kind.Reserved w) p) c.args.high c.args.tokens.now (died (suc (length c.args.tokens.now)))) c.in-Assign.is ∙ mapped_dies _ _ e) (c.in_err-all-in-Assign.ensures.reads)

pub returns-in_ok-all-in-Assign-clause-reads : goal.returns-in_ok-all-in-Assign-clause-reads
returns-in_ok-all-in-Assign-clause-reads c p =
    ap (λ (w : Reserved). picked (element_pick (kind.Reserved w) p) c.args.high c.args.tokens.now (died (suc (length c.args.tokens.now)))) c.in-Assign.is ∙ mapped_reads _ _ (c.in_ok-all-in-Assign.ensures.reads)

pub returns-in_err-value-in-Init-clause-reads : goal.returns-in_err-value-in-Init-clause-reads
returns-in_err-value-in-Init-clause-reads c p =
    gives_exit _ (picked (element_pick (kind.Reserved c.args.word) p) c.args.high c.args.tokens.now (died (suc (length c.args.tokens.now)))) (constraint c.args.high c.args.tokens.now) _ _ (err_from_is_err_and c.from_residual-in_err-value-in-Init.result c.from_residual-in_err-value-in-Init.ensures.1) (λ n e. ap (λ (w : Reserved). picked (element_pick (kind.Reserved w) p) c.args.high c.args.tokens.now (died (suc (length c.args.tokens.now)))) c.in-Init.is ∙ mapped_dies _ _ e) (c.in_err-value-in-Init.ensures.reads)

pub returns-in_ok-value-in-Init-clause-reads : goal.returns-in_ok-value-in-Init-clause-reads
returns-in_ok-value-in-Init-clause-reads c p =
    ap (λ (w : Reserved). picked (element_pick (kind.Reserved w) p) c.args.high c.args.tokens.now (died (suc (length c.args.tokens.now)))) c.in-Init.is ∙ mapped_reads _ _ (c.in_ok-value-in-Init.ensures.reads)

pub returns-in_err-value-in-Trans-clause-reads : goal.returns-in_err-value-in-Trans-clause-reads
returns-in_err-value-in-Trans-clause-reads c p =
    gives_exit _ (picked (element_pick (kind.Reserved c.args.word) p) c.args.high c.args.tokens.now (died (suc (length c.args.tokens.now)))) (constraint c.args.high c.args.tokens.now) _ _ (err_from_is_err_and c.from_residual-in_err-value-in-Trans.result c.from_residual-in_err-value-in-Trans.ensures.1) (λ n e. ap (λ (w : Reserved). picked (element_pick (kind.Reserved w) p) c.args.high c.args.tokens.now (died (suc (length c.args.tokens.now)))) c.in-Trans.is ∙ mapped_dies _ _ e) (c.in_err-value-in-Trans.ensures.reads)

pub returns-in_ok-value-in-Trans-clause-reads : goal.returns-in_ok-value-in-Trans-clause-reads
returns-in_ok-value-in-Trans-clause-reads c p =
    ap (λ (w : Reserved). picked (element_pick (kind.Reserved w) p) c.args.high c.args.tokens.now (died (suc (length c.args.tokens.now)))) c.in-Trans.is ∙ mapped_reads _ _ (c.in_ok-value-in-Trans.ensures.reads)

pub returns-in_err-value-in-Invar-clause-reads : goal.returns-in_err-value-in-Invar-clause-reads
returns-in_err-value-in-Invar-clause-reads c p =
    gives_exit _ (picked (element_pick (kind.Reserved c.args.word) p) c.args.high c.args.tokens.now (died (suc (length c.args.tokens.now)))) (constraint c.args.high c.args.tokens.now) _ _ (err_from_is_err_and c.from_residual-in_err-value-in-Invar.result c.from_residual-in_err-value-in-Invar.ensures.1) (λ n e. ap (λ (w : Reserved). picked (element_pick (kind.Reserved w) p) c.args.high c.args.tokens.now (died (suc (length c.args.tokens.now)))) c.in-Invar.is ∙ mapped_dies _ _ e) (c.in_err-value-in-Invar.ensures.reads)

pub returns-in_ok-value-in-Invar-clause-reads : goal.returns-in_ok-value-in-Invar-clause-reads
returns-in_ok-value-in-Invar-clause-reads c p =
    ap (λ (w : Reserved). picked (element_pick (kind.Reserved w) p) c.args.high c.args.tokens.now (died (suc (length c.args.tokens.now)))) c.in-Invar.is ∙ mapped_reads _ _ (c.in_ok-value-in-Invar.ensures.reads)

pub returns-in-Invarspec-clause-reads : goal.returns-in-Invarspec-clause-reads
returns-in-Invarspec-clause-reads c p =
    gives_same _ (picked (element_pick (kind.Reserved c.args.word) p) c.args.high c.args.tokens.now (died (suc (length c.args.tokens.now)))) (mapped (λ q. spec q.0 q.1) (both label constraint) c.args.high c.args.tokens.now) _ (ap (λ (w : Reserved). picked (element_pick (kind.Reserved w) p) c.args.high c.args.tokens.now (died (suc (length c.args.tokens.now)))) c.in-Invarspec.is) c.specification.ensures.reads

pub returns-in_default : goal.returns-in_default
returns-in_default c = record {
  reads = λ p. ap (λ o. picked o c.args.high c.args.tokens.now (died (suc (length c.args.tokens.now)))) (no_section c.args.word p c.in_default.not-Var c.in_default.not-Ivar c.in_default.not-Frozenvar c.in_default.not-Define c.in_default.not-Constants c.in_default.not-Assign c.in_default.not-Init c.in_default.not-Trans c.in_default.not-Invar c.in_default.not-Invarspec) ∙ ap died (let n : suc (length c.args.tokens.now) ≡ length c.args.tokens.now + 1 = omega arith in n);
  within = search rules;
}
