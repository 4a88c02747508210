-- What each smaller list keeps.
use Rattle.btor_simplify.specs.Keeping.{ListsGetSmaller}
use Rattle.btor_simplify.proofs.Whole.{fewer, keeps_lines}
use Rattle.btor_simplify.proofs.Images.{keeps_words}
use Rattle.btor_simplify.proofs.Runs.{keeps_runs}
use Rattle.btor_simplify.proofs.Normality.{normal}
use Rattle.btor_simplify.proofs.Unchanged.{unchanged}
use Rattle.btor_simplify.proofs.Witnesses.{keeps_witnesses}

pub lists_get_smaller : ListsGetSmaller
lists_get_smaller old new well s = record {
  well_formed = s.well_formed;
  fewer = fewer old new s;
  normal = normal old new s;
  unchanged = unchanged old new s;
  lines = keeps_lines old new s;
  words = keeps_words old new s;
  runs = keeps_runs old new well s.well_formed (keeps_words old new s);
  witnesses = keeps_witnesses old new well s.well_formed (keeps_words old new s);
}
