-- Which terms can appear in a place: each has its sort, and the name of each variable, bound value, constant and function means it
-- there, not something else of the same name.
use Rattle.std.specs.Prelude.{◌≡◌, ℕ, ◌<◌, Bool, false, Some, Ok, List, [], ◌∷◌, ◌++◌, length, slice_get, codes}
use Rattle.std.specs.Str.{bytes_eq}
use Rattle.word_core.specs.Words.{IsWord}
use Rattle.moxi_terms.specs.declared.data.Sort.{Sort}
use Rattle.moxi_terms.specs.declared.data.Sort.TheVariants.{Truth, Bits, Choice}
use Rattle.moxi_terms.specs.declared.data.Datum.{Datum}
use Rattle.moxi_terms.specs.declared.data.Datum.TheVariants as datum
use Rattle.moxi_terms.specs.declared.data.Primes.{Primes}
use Rattle.moxi_terms.specs.declared.data.Primes.TheVariants.{Allowed, Refused}
use Rattle.moxi_terms.specs.declared.data.TermOp.{TermOp}
use Rattle.moxi_terms.specs.declared.data.TermOp.TheVariants as op
use Rattle.moxi_term_reading.specs.declared.locals.Local.{Local}
use Rattle.moxi_terms.specs.declared.names.Meaning.TheVariants as meaning
use Rattle.moxi_terms.specs.declared.names.Head.TheVariants as heads
use Rattle.moxi_term_reading.specs.Reading.{Context, meaning_of, names_of}
use Rattle.moxi_terms.specs.Meanings.{head_named}
use Rattle.moxi_terms.specs.Sorts.{op_sort}
use Rattle.moxi_terms.specs.Tree.{Tree, constant, variable, bound, apply, binding, call, Trees, no_trees, tree, PlainFunction, sorts_of}
use Rattle.moxi_terms.specs.View.{ScopeState}
use Rattle.moxi_term_print.specs.Terms.{name_at, constant_name, operator_word, truth_word}

-- the values of a `let`, by its names and their sorts
abbrev pub bound_locals : List (List ℕ) → List Sort → List Local
bound_locals [] ss = []
bound_locals (name ∷ names) [] = []
bound_locals (name ∷ names) (s ∷ ss) = record { name = name; sort = Some s } ∷ bound_locals names ss

-- a value's name means it
abbrev pub IsWellScopedValue : Context → List Local → Datum → Sort → Type 0
IsWellScopedValue c bounds (datum.Truth b) s = (s ≡ Truth) × (meaning_of c bounds (truth_word b) ≡ Some (meaning.Value (datum.Truth b) Truth))
IsWellScopedValue c bounds (datum.Bits w) s = (s ≡ Bits w.width) × IsWord w
IsWellScopedValue c bounds (datum.Constant n i) s = (s ≡ Choice n) × (meaning_of c bounds (constant_name c.scope n i) ≡ Some (meaning.Value (datum.Constant n i) (Choice n)))

abbrev pub IsAllowedPrime : Primes → Bool → Type 0
IsAllowedPrime Allowed primed = Unit {0}
IsAllowedPrime Refused primed = primed ≡ false

-- an operator's name means it at the head of a list; the indices of one that has some fit 32 bits
abbrev pub IsKnownOperator : ScopeState → TermOp → Type 0
IsKnownOperator s (op.Extract high low) = (high < 4294967296) × (low < 4294967296)
IsKnownOperator s (op.ZeroExtend n) = n < 4294967296
IsKnownOperator s (op.SignExtend n) = n < 4294967296
IsKnownOperator s o = head_named s (operator_word o) ≡ Some (heads.Operator o)

-- a function without parameters is called by its bare name, another at the head of a list, which `let` and `_` begin otherwise
abbrev pub IsWellScopedCall : Context → List Local → ℕ → PlainFunction → List Sort → Type 0
IsWellScopedCall c bounds n f [] = meaning_of c bounds f.name ≡ Some (meaning.Call n f.result)
IsWellScopedCall c bounds n f (s ∷ ss) =
    (head_named c.scope f.name ≡ Some (heads.Function n)) × (bytes_eq f.name (codes "let") ≡ false) × (bytes_eq f.name (codes "_") ≡ false)

abbrev mutual
  pub IsWellScoped : Context → List Local → Tree → Sort → Type 0
  IsWellScoped c bounds (constant d) s = IsWellScopedValue c bounds d s
  IsWellScoped c bounds (variable v primed) s = (meaning_of c bounds (name_at (names_of c.variables) v) ≡ Some (meaning.Variable v (Some s))) × IsAllowedPrime c.primes primed
  IsWellScoped c bounds (bound i) s = meaning_of c bounds (name_at (names_of bounds) i) ≡ Some (meaning.Bound i (Some s))
  IsWellScoped c bounds (apply o ts) s = (ss : List Sort) × AreWellScoped c bounds ts ss × (op_sort o ss ≡ Ok s) × IsKnownOperator c.scope o
  IsWellScoped c bounds (binding names ts t) s =
      (ss : List Sort) × (0 < length names) × (length names ≡ length ss) × AreWellScoped c bounds ts ss × IsWellScoped c (bounds ++ bound_locals names ss) t s
  IsWellScoped c bounds (call n ts) s =
      (f : PlainFunction) × (slice_get c.scope.functions n ≡ Some f) × (s ≡ f.result) × AreWellScoped c bounds ts (sorts_of f.parameters) × IsWellScopedCall c bounds n f (sorts_of f.parameters)

  pub AreWellScoped : Context → List Local → Trees → List Sort → Type 0
  AreWellScoped c bounds no_trees [] = Unit {0}
  AreWellScoped c bounds no_trees (s ∷ ss) = ⊥
  AreWellScoped c bounds (tree t ts) [] = ⊥
  AreWellScoped c bounds (tree t ts) (s ∷ ss) = IsWellScoped c bounds t s × AreWellScoped c bounds ts ss
