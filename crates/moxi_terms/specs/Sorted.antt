-- Which sort a term has.
use Rattle.std.specs.Prelude.{◌≡◌, ℕ, ◌<◌, false, Some, Ok, List, [], ◌∷◌, ◌++◌, take, length, slice_get, Option, None}
use Rattle.std.specs.List.{AllByRecursion}
use Rattle.std.specs.Borrow.{Bor}
use Rattle.moxi_terms.specs.declared.data.Sort.{Sort}
use Rattle.moxi_terms.specs.declared.data.Datum.{Datum}
use Rattle.moxi_terms.specs.declared.term.Enumeration.{Enumeration}
use Rattle.moxi_terms.specs.declared.term.NamedSort.{NamedSort}
use Rattle.moxi_terms.specs.Sorts.{IsSort, IsOf, Fit, op_sort}
use Rattle.moxi_terms.specs.Tree.{Tree, constant, variable, bound, apply, binding, call, Trees, no_trees, tree, PlainFunction, sorts_of}
use Rattle.moxi_terms.specs.View.{ScopeState}

-- over the enumerations and functions, the sorts of the variables and those of the bound values
abbrev mutual
  pub HasSort : List Enumeration → List PlainFunction → List Sort → List Sort → Tree → Sort → Type 0
  HasSort es fs vars bounds (constant d) s = IsOf es s d
  HasSort es fs vars bounds (variable v primed) s = slice_get vars v ≡ Some s
  HasSort es fs vars bounds (bound i) s = slice_get bounds i ≡ Some s
  HasSort es fs vars bounds (apply op ts) s = (ss : List Sort) × HaveSorts es fs vars bounds ts ss × (op_sort op ss ≡ Ok s)
  HasSort es fs vars bounds (binding names ts t) s = (ss : List Sort) × (length names ≡ length ss) × HaveSorts es fs vars bounds ts ss × HasSort es fs vars (bounds ++ ss) t s
  HasSort es fs vars bounds (call n ts) s = (f : PlainFunction) × (slice_get fs n ≡ Some f) × HaveSorts es fs vars bounds ts (sorts_of f.parameters) × (f.result ≡ s)

  pub HaveSorts : List Enumeration → List PlainFunction → List Sort → List Sort → Trees → List Sort → Type 0
  HaveSorts es fs vars bounds no_trees [] = Unit {0}
  HaveSorts es fs vars bounds no_trees (s ∷ ss) = ⊥
  HaveSorts es fs vars bounds (tree t ts) [] = ⊥
  HaveSorts es fs vars bounds (tree t ts) (s ∷ ss) = HasSort es fs vars bounds t s × HaveSorts es fs vars bounds ts ss

-- no variable in it is primed
abbrev mutual
  pub IsUnprimed : Tree → Type 0
  IsUnprimed (constant d) = Unit {0}
  IsUnprimed (variable v primed) = primed ≡ false
  IsUnprimed (bound i) = Unit {0}
  IsUnprimed (apply op ts) = AreUnprimed ts
  IsUnprimed (binding names ts t) = AreUnprimed ts × IsUnprimed t
  IsUnprimed (call n ts) = AreUnprimed ts

  pub AreUnprimed : Trees → Type 0
  AreUnprimed no_trees = Unit {0}
  AreUnprimed (tree t ts) = IsUnprimed t × AreUnprimed ts

-- the sorts of variables are sorts of the scope
abbrev pub AreSorts : List Enumeration → List Sort → Type 0
AreSorts es ss = AllByRecursion (IsSort es) ss

-- a function whose body has the sort of its result, over the functions before it
pub record IsFunction (es : List Enumeration) (fs : List PlainFunction) (f : PlainFunction) : Type 0 where
  pub parameters : AreSorts es (sorts_of f.parameters)
  pub result : IsSort es f.result
  pub unprimed : IsUnprimed f.body
  pub body : HasSort es fs (sorts_of f.parameters) [] f.body f.result

-- each of these calls earlier ones alone
abbrev pub AreFunctions : List Enumeration → List PlainFunction → Type 0
AreFunctions es fs = (n : ℕ) (f : PlainFunction) → slice_get fs n ≡ Some f → IsFunction es (take n fs) f

-- what a scope keeps: each enumeration has a constant, each sort is one of the scope, and each function calls earlier ones alone
pub record IsScope (s : ScopeState) : Type 0 where
  pub enumerations : AllByRecursion (λ (e : Enumeration). 0 < length e.constants) s.enumerations
  pub sorts : AllByRecursion (λ (n : NamedSort). IsSort s.enumerations n.sort) s.sorts
  pub functions : AreFunctions s.enumerations s.functions

-- the later values are of the variables' sorts; without any, no variable is primed
abbrev pub FitLater : List Enumeration → List Sort → Tree → Option (Bor (List Datum)) → Type 0
FitLater es vars t None = IsUnprimed t
FitLater es vars t (Some later) = Fit es vars later.now

-- the term has a sort over some variables, and the values are of their sorts
pub record IsReady (s : ScopeState) (now : List Datum) (later : Option (Bor (List Datum))) (t : Tree) : Type 0 where
  pub vars : List Sort
  pub sort : Sort
  pub sorted : HasSort s.enumerations s.functions vars [] t sort
  pub fit : Fit s.enumerations vars now
  pub fit_later : FitLater s.enumerations vars t later
