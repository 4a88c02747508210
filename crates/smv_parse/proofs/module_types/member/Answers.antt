use Rattle.std.proofs.Common.{◌≡◌, sym, ap, ◌∙◌, rules}
use Rattle.std.proofs.lemmas.Result.{err_from_is_err_and}
use Rattle.smv_text.specs.declared.tree.Member.TheVariants.{Integer}
use Rattle.smv_grammar.specs.Readers.{found}
use Rattle.smv_grammar.specs.Rules.{name, integer, member}
use Rattle.smv_grammar.proofs.Mapped.{mapped_reads, mapped_dies}
use Rattle.smv_parse.proofs.Leads.{gives_exit}
use Rattle.smv_parse.proofs.Numerals.{integer_found, integer_loses}
use Rattle.smv_parse.proofs.Turns.{member_name, named_lives, member_other}
use Rattle.std.proofs.Common.{ℤ}
use Rattle.std.proofs.lemmas.Int.{to_z-of_z}
use mir.Val.{to_z, of_z}
use mir.Syntax.{w64}
use Rattle.smv_parse.proofs.module_types.member.Goals as goal

pub returns-in_err-symbol-clause-reads : goal.returns-in_err-symbol-clause-reads
returns-in_err-symbol-clause-reads c h =
    gives_exit _ (member h c.args.tokens.now) (name h c.args.tokens.now) _ _ (err_from_is_err_and c.from_residual.result c.from_residual.ensures.1) (λ n e. absurd (named_lives h c.args.tokens.now n (sym c.first_is_name.ensures ∙ c.if-first_is_name.true) e)) (c.in_err-symbol.ensures.reads h)

pub returns-in_err-n-clause-reads : goal.returns-in_err-n-clause-reads
returns-in_err-n-clause-reads c h =
    gives_exit _ (member h c.args.tokens.now) (integer h c.args.tokens.now) _ _ (err_from_is_err_and c.from_residual-in_err-n.result c.from_residual-in_err-n.ensures.1) (λ n e. member_other h c.args.tokens.now (sym c.first_is_name.ensures ∙ c.if-first_is_name.false) ∙ mapped_dies Integer integer e) (integer_loses h c.args.tokens.now _ c.in_err-n.ensures.found)

pub returns-in_ok-symbol-clause-reads : goal.returns-in_ok-symbol-clause-reads
returns-in_ok-symbol-clause-reads c h =
    member_name h h c.args.tokens.now _ c.in_ok-symbol.rest.now (sym c.first_is_name.ensures ∙ c.if-first_is_name.true) (c.in_ok-symbol.ensures.reads h)

pub returns-in_ok-n-clause-reads : goal.returns-in_ok-n-clause-reads
returns-in_ok-n-clause-reads c h =
    member_other h c.args.tokens.now (sym c.first_is_name.ensures ∙ c.if-first_is_name.false) ∙ mapped_reads Integer integer (integer_found h c.args.tokens.now c.in_ok-n.n c.in_ok-n.rest.now c.in_ok-n.ensures.found) ∙ ap (λ (z : ℤ). found (Integer z) h c.in_ok-n.rest.now) (let p : c.in_ok-n.n ≡ to_z w64 (of_z w64 c.in_ok-n.n) = sym (search (rules, to_z-of_z)) in p)
