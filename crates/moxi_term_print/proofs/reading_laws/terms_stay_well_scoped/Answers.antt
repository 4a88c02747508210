use Rattle.moxi_term_print.proofs.StandingGrow.{stands_on}
use Rattle.moxi_term_print.proofs.StandingScopes.{sort_stands_on}
use Rattle.moxi_term_print.proofs.reading_laws.terms_stay_well_scoped.Goals as goal

pub returns : goal.returns
returns c = record {
  terms = λ ctx bounds t s u h g. stands_on ctx u g bounds t s h;
  sorts = sort_stands_on;
}
