-- Terms that are read: each has a sort, where no test fails.
use Rattle.std.specs.Prelude.{◌≡◌, Some, List, [], ◌∷◌}
use Rattle.moxi_terms.specs.declared.data.Sort.{Sort}
use Rattle.moxi_terms.specs.declared.data.Primes.TheVariants.{Refused}
use Rattle.moxi_term_reading.specs.declared.locals.Local.{Local}
use Rattle.moxi_terms.specs.declared.data.Primes.{Primes}
use Rattle.moxi_term_reading.specs.declared.outcome.ReadTerm.{ReadTerm}
use Rattle.moxi_terms.specs.View.{ScopeState, plain}
use Rattle.moxi_terms.specs.Tree.{Tree}
use Rattle.moxi_terms.specs.Sorted.{HasSort, IsUnprimed}
use Rattle.moxi_term_reading.specs.Reading.{Context, Reading}

-- each of the names has its sort
abbrev pub HaveKnownSorts : List Local → List Sort → Type 0
HaveKnownSorts [] [] = Unit {0}
HaveKnownSorts (l ∷ ls) (s ∷ ss) = (l.sort ≡ Some s) × HaveKnownSorts ls ss
HaveKnownSorts [] (s ∷ ss) = ⊥
HaveKnownSorts (l ∷ ls) [] = ⊥

-- The term has this sort over variables and bound values of these sorts; where primes are refused, none of its variables is primed.
pub record IsTerm (s : ScopeState) (primes : Primes) (vars bounds : List Sort) (t : Tree) (sort : Sort) : Type 0 where
  pub sorted : HasSort s.enumerations s.functions vars bounds t sort
  pub unprimed : primes ≡ Refused → IsUnprimed t

-- the form spells a term that has the sort that is read for it
pub record IsWellSorted (c : Context) (vars bounds : List Sort) (r : Reading) : Type 0 where
  pub sort : Sort
  pub known : r.sort ≡ Some sort
  pub term : IsTerm c.scope c.primes vars bounds r.term sort

-- the same of what the code reads
pub record IsSortedTerm (c : Context) (vars : List Sort) (r : ReadTerm) : Type 0 where
  pub sort : Sort
  pub known : r.sort ≡ Some sort
  pub term : IsTerm c.scope c.primes vars [] (plain r.term) sort
