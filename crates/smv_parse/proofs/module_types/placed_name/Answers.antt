use Rattle.std.proofs.Common.{sym, ap, ◌∙◌}
use Rattle.std.proofs.lemmas.Result.{err_from_is_err_and}
use Rattle.text_core.specs.declared.place.Place.{Place}
use Rattle.smv_grammar.specs.Readers.{found}
use Rattle.smv_grammar.specs.Rules.{name}
use Rattle.smv_parse.proofs.Leads.{gives_exit}
use Rattle.smv_parse.proofs.Leads.{name_found, name_loses}
use Rattle.smv_parse.proofs.module_types.placed_name.Goals as goal

pub returns-in_err-name-clause-reads : goal.returns-in_err-name-clause-reads
returns-in_err-name-clause-reads c h =
    gives_exit _ (name h c.args.tokens.now) (name h c.args.tokens.now) _ _ (err_from_is_err_and c.from_residual.result c.from_residual.ensures.1) (λ n e. e) (name_loses h c.args.tokens.now _ c.in_err-name.ensures.found)

pub returns-clause-reads : goal.returns-clause-reads
returns-clause-reads c h =
    name_found h c.args.tokens.now c.in_ok-name.name c.in_ok-name.rest.now c.in_ok-name.ensures.found ∙ ap (λ (z : Place). found (c.in_ok-name.name, z) h c.in_ok-name.rest.now) (sym c.start.ensures)
