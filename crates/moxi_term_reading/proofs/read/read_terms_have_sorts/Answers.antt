use Rattle.std.proofs.Common.{[]}
use Rattle.moxi_term_reading.proofs.WellSorted.{read_sorted, term_sorted}
use Rattle.moxi_term_reading.proofs.Failing.{sorted_passes}
use Rattle.moxi_term_reading.proofs.read.read_terms_have_sorts.Goals as goal

pub returns : goal.returns
returns c = record {
  forms = λ ctx vars t known holds. read_sorted ctx vars known [] [] t tt holds;
  terms = λ ctx vars t r known is holds. term_sorted ctx vars t r known is holds;
  failing = λ ctx bounds t s sorted. sorted_passes ctx bounds t s sorted;
}
