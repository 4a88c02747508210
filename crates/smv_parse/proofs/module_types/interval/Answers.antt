use Rattle.std.proofs.Common.{◌≡◌, sym, ap, ◌∙◌, rules}
use Rattle.std.proofs.lemmas.Result.{err_from_is_err_and}
use Rattle.smv_text.specs.declared.token.Sign.TheVariants as signs
use Rattle.smv_text.specs.Tree.{between}
use Rattle.smv_grammar.specs.Readers.{found}
use Rattle.smv_grammar.specs.Rules.{sign, integer, interval}
use Rattle.smv_grammar.proofs.Lawful.{both_reads, both_dies, both_dies_first}
use Rattle.smv_grammar.proofs.Mapped.{mapped_reads, mapped_dies}
use Rattle.smv_parse.proofs.Leads.{gives_exit, sign_after, misses_loses}
use Rattle.smv_parse.proofs.Numerals.{integer_found, integer_loses}
use Rattle.std.proofs.Common.{ℤ}
use Rattle.std.proofs.lemmas.Int.{to_z-of_z}
use mir.Val.{to_z, of_z}
use mir.Syntax.{w64}
use Rattle.smv_parse.proofs.module_types.interval.Goals as goal

pub returns-in_err-low-clause-reads : goal.returns-in_err-low-clause-reads
unfolding interval
returns-in_err-low-clause-reads c h =
    gives_exit _ (interval h c.args.tokens.now) (integer h c.args.tokens.now) _ _ (err_from_is_err_and c.from_residual.result c.from_residual.ensures.1) (λ n e. mapped_dies _ _ (both_dies_first _ _ e)) (integer_loses h c.args.tokens.now _ c.in_err-low.ensures.found)

pub returns-in_err-more-clause-reads : goal.returns-in_err-more-clause-reads
unfolding interval
returns-in_err-more-clause-reads c h =
    gives_exit _ (interval h c.args.tokens.now) (sign signs.Range h c.in_ok-low.rest.now) _ _ (err_from_is_err_and c.from_residual-in_err-more.result c.from_residual-in_err-more.ensures.1) (λ n e. mapped_dies _ _ (both_dies _ _ (integer_found h c.args.tokens.now c.in_ok-low.low c.in_ok-low.rest.now c.in_ok-low.ensures.found) (both_dies_first _ _ e))) (misses_loses signs.Range h c.in_ok-low.rest.now _ c.in_err-more.ensures.passes)

pub returns-in_err-high-clause-reads : goal.returns-in_err-high-clause-reads
unfolding interval
returns-in_err-high-clause-reads c h =
    gives_exit _ (interval h c.args.tokens.now) (integer h c.in_ok-more.more.now) _ _ (err_from_is_err_and c.from_residual-in_err-high.result c.from_residual-in_err-high.ensures.1) (λ n e. mapped_dies _ _ (both_dies _ _ (integer_found h c.args.tokens.now c.in_ok-low.low c.in_ok-low.rest.now c.in_ok-low.ensures.found) (both_dies _ _ ((sign_after signs.Range h c.in_ok-low.rest.now c.in_ok-more.more.now c.in_ok-more.ensures.passes).1) e))) (integer_loses h c.in_ok-more.more.now _ c.in_err-high.ensures.found)

pub returns-clause-reads : goal.returns-clause-reads
unfolding interval
returns-clause-reads c h =
    mapped_reads _ _ (both_reads _ _ (integer_found h c.args.tokens.now c.in_ok-low.low c.in_ok-low.rest.now c.in_ok-low.ensures.found) (both_reads _ _ ((sign_after signs.Range h c.in_ok-low.rest.now c.in_ok-more.more.now c.in_ok-more.ensures.passes).1) (integer_found h c.in_ok-more.more.now c.in_ok-high.high c.in_ok-high.last.now c.in_ok-high.ensures.found)))
    ∙ ap (λ (z : ℤ × ℤ). found (between z.0 z.1) h c.in_ok-high.last.now) (let p : c.in_ok-low.low ≡ to_z w64 (of_z w64 c.in_ok-low.low) = sym (search (rules, to_z-of_z)) in let q : c.in_ok-high.high ≡ to_z w64 (of_z w64 c.in_ok-high.high) = sym (search (rules, to_z-of_z)) in ap (λ (z : ℤ). (z, c.in_ok-high.high)) p ∙ ap (λ (z : ℤ). (to_z w64 (of_z w64 c.in_ok-low.low), z)) q)
