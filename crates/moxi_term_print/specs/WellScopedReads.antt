-- What is read of a form that no test refuses.
use Rattle.std.specs.Prelude.{◌≡◌, ◌≤◌, true, false, List, [], Some, codes}
use Rattle.word_core.specs.declared.word.TheConstants.{WIDEST}
use Rattle.moxi_terms.specs.declared.data.Sort.{Sort}
use Rattle.moxi_terms.specs.declared.data.Sort.TheVariants.{Truth, Bits, Choice}
use Rattle.moxi_term_reading.specs.declared.locals.Local.{Local}
use Rattle.moxi_terms.specs.Names.{enumeration_names, is_among, sort_named}
use Rattle.name_maps.specs.Names.{are_fresh}
use Rattle.moxi_term_reading.specs.Reading.{Context, Reading}
use Rattle.moxi_terms.specs.Tree.{Tree}
use Rattle.moxi_terms.specs.View.{ScopeState}
use Rattle.moxi_term_print.specs.Terms.{name_at}
use Rattle.moxi_term_print.specs.WellScoped.{IsWellScoped}

-- this term, of this sort, and no failing test
abbrev pub whole : Tree → Sort → Reading
whole t s = record { term = t; sort = Some s; failures = [] }

-- the term that is read has the sort that is read for it, and can appear in its place
pub record IsWellScopedReading (c : Context) (bounds : List Local) (r : Reading) : Type 0 where
  pub sort : Sort
  pub known : r.sort ≡ Some sort
  pub stands : IsWellScoped c bounds r.term sort

-- the name of an enumeration means it; a width is one of a word
abbrev pub IsKnownSort : ScopeState → Sort → Type 0
IsKnownSort s Truth = Unit {0}
IsKnownSort s (Bits w) = (1 ≤ w) × (w ≤ WIDEST)
IsKnownSort s (Choice n) = sort_named s (name_at (enumeration_names s) n) ≡ Some (Choice n)

-- the enumerations' names differ, and none is `Bool`
pub record HasSortNames (s : ScopeState) : Type 0 where
  pub fresh : are_fresh [] (enumeration_names s) ≡ true
  pub apart : is_among (enumeration_names s) (codes "Bool") ≡ false
