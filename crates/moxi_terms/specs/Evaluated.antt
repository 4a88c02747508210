-- What the evaluator keeps: each term is well sorted over the values that it is evaluated with.
use Rattle.std.specs.Prelude.{◌≡◌, ◌≤◌, ℕ, Some, List, length, take, slice_get}
use Rattle.moxi_terms.specs.declared.data.Sort.{Sort}
use Rattle.moxi_terms.specs.declared.data.Datum.{Datum}
use Rattle.moxi_terms.specs.declared.evaluate.Valuation.{Valuation}
use Rattle.moxi_terms.specs.declared.evaluate.Valuation.TheVariants.{Given, Arguments}
use Rattle.moxi_terms.specs.declared.term.Enumeration.{Enumeration}
use Rattle.moxi_terms.specs.Sorts.{Fit}
use Rattle.moxi_terms.specs.Sorted.{HasSort, HaveSorts, AreFunctions}
use Rattle.moxi_terms.specs.Tree.{Tree, Trees, PlainFunction, sorts_of}
use Rattle.moxi_terms.specs.Value.{at, calls_upto, term_value, term_values}

-- the values of the variables
abbrev pub values_in : Valuation → List Datum
values_in (Given env) = env.now
values_in (Arguments args) = args.now

-- the value of a term, and those of terms, where the first functions may be called
abbrev pub value_upto : List PlainFunction → ℕ → Valuation → Valuation → List Datum → Tree → Datum
value_upto fs upto now later bound t = term_value (calls_upto fs upto) (at (values_in now)) (at (values_in later)) bound t

abbrev pub values_upto : List PlainFunction → ℕ → Valuation → Valuation → List Datum → Trees → List Datum
values_upto fs upto now later bound ts = term_values (calls_upto fs upto) (at (values_in now)) (at (values_in later)) bound ts

-- the first functions may be called
pub record CanEvaluate (fs : List PlainFunction) (upto : ℕ) (now later bound : List Datum) (t : Tree) : Type 0 where
  pub enumerations : List Enumeration
  pub vars : List Sort
  pub bounds : List Sort
  pub sort : Sort
  pub within : upto ≤ length fs
  pub functions : AreFunctions enumerations fs
  pub fit_now : Fit enumerations vars now
  pub fit_later : Fit enumerations vars later
  pub fit_bound : Fit enumerations bounds bound
  pub sorted : HasSort enumerations (take upto fs) vars bounds t sort

pub record CanEvaluateAll (fs : List PlainFunction) (upto : ℕ) (now later bound : List Datum) (ts : Trees) : Type 0 where
  pub enumerations : List Enumeration
  pub vars : List Sort
  pub bounds : List Sort
  pub sorts : List Sort
  pub within : upto ≤ length fs
  pub functions : AreFunctions enumerations fs
  pub fit_now : Fit enumerations vars now
  pub fit_later : Fit enumerations vars later
  pub fit_bound : Fit enumerations bounds bound
  pub sorted : HaveSorts enumerations (take upto fs) vars bounds ts sorts

-- the function is one of the first ones, and the arguments are of its parameters' sorts
pub record CanCall (fs : List PlainFunction) (upto n : ℕ) (args : List Datum) : Type 0 where
  pub enumerations : List Enumeration
  pub function : PlainFunction
  pub there : slice_get (take upto fs) n ≡ Some function
  pub within : upto ≤ length fs
  pub functions : AreFunctions enumerations fs
  pub fit : Fit enumerations (sorts_of function.parameters) args
