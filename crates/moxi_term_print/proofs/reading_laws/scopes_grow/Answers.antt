use Rattle.moxi_term_print.proofs.StandingScopes.{grows_self, grows_more, grows_by_enumeration, grows_by_sort, grows_by_function, grows_sorts_first, grows_one_function}
use Rattle.moxi_term_print.proofs.reading_laws.scopes_grow.Goals as goal

pub returns : goal.returns
returns c = record {
  same = grows_self;
  more = grows_more;
  enumeration = grows_by_enumeration;
  sort = grows_by_sort;
  function = grows_by_function;
  sorts_first = grows_sorts_first;
  one_function = grows_one_function;
}
