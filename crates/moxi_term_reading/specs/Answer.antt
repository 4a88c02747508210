-- What the calls answer.
use Rattle.std.specs.Prelude.{◌≡◌, ℕ, Some, None, Option, Bool, true, false, Result, Ok, Err, List, [], ◌∷◌, ◌++◌, map}
use Rattle.text_core.specs.declared.end.End.{End}
use Rattle.text_core.specs.declared.end.End.TheVariants.{Bad, NoMemory}
use Rattle.text_core.specs.declared.place.Refusal.{Refusal}
use Rattle.moxi_terms.specs.declared.data.Sort.{Sort}
use Rattle.moxi_terms.specs.declared.term.Term.{Term}
use Rattle.moxi_terms.specs.declared.term.Variable.{Variable}
use Rattle.moxi_term_reading.specs.declared.locals.Local.{Local}
use Rattle.moxi_term_reading.specs.declared.outcome.ReadTerm.{ReadTerm}
use Rattle.moxi_term_reading.specs.declared.outcome.Setting.{Setting}
use Rattle.moxi_term_reading.specs.declared.applications.ReadArguments.{ReadArguments}
use Rattle.moxi_term_reading.specs.declared.lets.ReadBindings.{ReadBindings}
use Rattle.moxi_terms.specs.Tree.{variable}
use Rattle.moxi_terms.specs.View.{plain}
use Rattle.moxi_term_reading.specs.Failures.{least, IsLeast}
use Rattle.moxi_term_reading.specs.Reading.{Reading, Arguments, Bindings, Context, argument, both_arguments, names_of}

-- the term, its sort, and of the failing tests the least one
pub record IsRead (x : Reading) (r : ReadTerm) : Type 0 where
  pub term : plain r.term ≡ x.term
  pub sort : r.sort ≡ x.sort
  pub failure : r.failure ≡ least x.failures

-- a sort that rests on tests of which the least failing one is this
abbrev pub unless_some : {A : Type 0} → Option Refusal → Option A → Option A
unless_some None s = s
unless_some (Some f) s = None

-- the sorts so far, where each had one
abbrev pub kept : Bool → List Sort → Option (List Sort)
kept true ss = Some ss
kept false ss = None

-- a sort as a list
abbrev pub sorts_in : Option Sort → List Sort
sorts_in None = []
sorts_in (Some s) = s ∷ []

-- the arguments; these are the sorts of those that have one
pub record AreRead (x : Arguments) (r : ReadArguments) (own : List Sort) : Type 0 where
  pub terms : map plain r.terms.items ≡ x.terms
  pub sorts : kept r.whole own ≡ x.sorts
  pub failure : r.failure ≡ least x.failures

-- the arguments, whose sorts are on the stack behind those before
pub record AreStacked (x : Arguments) (r : ReadArguments) (before all : List Sort) : Type 0 where
  pub own : List Sort
  pub stack : all ≡ before ++ own
  pub read : AreRead x r own

-- whatever arguments were read before, with their sorts on the stack, this reading's is read behind them
abbrev pub IsAdded : Reading → ReadArguments → List Sort → ReadArguments → List Sort → Type 0
IsAdded y old stack new after = (x : Arguments) (before : List Sort) → AreStacked x old before stack → AreStacked (both_arguments x (argument y)) new before after

-- the same of each reading of a variable with this sort and this failing test
abbrev pub IsVariableAdded : ℕ → Bool → Option Sort → Option Refusal → ReadArguments → List Sort → ReadArguments → List Sort → Type 0
IsVariableAdded v primed sort failure old stack new after =
    (x : Arguments) (y : Reading) (before : List Sort) → AreStacked x old before stack → y.term ≡ variable v primed → sort ≡ y.sort → failure ≡ least y.failures
    → AreStacked (both_arguments x (argument y)) new before after

pub record AreBound (x : Bindings) (r : ReadBindings) : Type 0 where
  pub names : r.names ≡ names_of x.locals
  pub locals : r.locals ≡ x.locals
  pub terms : map plain r.terms.items ≡ x.terms
  pub shape : r.shape ≡ least x.shape
  pub failure : r.failure ≡ least x.failures

-- where a term stands
abbrev pub context_of : Setting → Context
context_of s = record { scope = s.scope.now; variables = s.locals.now; primes = s.primes }

-- the variables, each with its sort
abbrev pub locals_of : List Variable → List Local
locals_of [] = []
locals_of (v ∷ vs) = record { name = v.name; sort = Some v.sort } ∷ locals_of vs

-- the term and the sort that the form spells, where no test fails; else the failing test with the least place
abbrev pub Answers : Reading → Result (Term × Sort) End → Type 0
Answers x (Ok r) = (x.failures ≡ []) × (plain r.0 ≡ x.term) × (x.sort ≡ Some r.1)
Answers x (Err (Bad f)) = IsLeast f x.failures
Answers x (Err NoMemory) = Unit {0}
