-- A renumbered term keeps its sort, and stays unprimed.
use Rattle.std.proofs.Common.{◌≡◌, ℕ, List, [], ◌∷◌, ◌++◌, Some}
use Rattle.std.specs.Prelude.{slice_get}
use Rattle.moxi_terms.specs.declared.data.Primes.TheVariants.{Refused}
use Rattle.moxi_terms.specs.declared.data.Sort.{Sort}
use Rattle.moxi_terms.specs.declared.term.Enumeration.{Enumeration}
use Rattle.moxi_terms.specs.declared.term.Variable.{Variable}
use Rattle.moxi_terms.specs.Sorted.{HasSort, HaveSorts, IsUnprimed, AreUnprimed}
use Rattle.moxi_terms.specs.Tree.{Tree, constant, variable, bound, apply, binding, call, Trees, no_trees, tree, PlainFunction, sorts_of}
use Rattle.moxi_terms.specs.View.{ScopeState}
use Rattle.moxi_term_reading.specs.declared.locals.Local.{Local}
use Rattle.moxi_term_print.specs.WellScoped.{AreWellScoped, IsWellScoped, bound_locals}
use Rattle.moxi_scripts.specs.Valid.{over}
use Rattle.moxi_flat.specs.Renumbering.{renumbered, all_renumbered}

-- the variables have their sorts at these places
abbrev pub Keeps : List Sort → List Sort → (ℕ → ℕ) → Type 0
Keeps vars flat place = (v : ℕ) (s : Sort) → slice_get vars v ≡ Some s → slice_get flat (place v) ≡ Some s

module _ (es : List Enumeration) (fs : List PlainFunction) (vars flat : List Sort) (place : ℕ → ℕ) (keeps : Keeps vars flat place) where
  mutual
    pub sorted_renumbered : (bounds : List Sort) (t : Tree) (s : Sort) → HasSort es fs vars bounds t s → HasSort es fs flat bounds (renumbered place t) s
    sorted_renumbered bounds (constant d) s h = h
    sorted_renumbered bounds (variable v primed) s h = keeps v s h
    sorted_renumbered bounds (bound i) s h = h
    sorted_renumbered bounds (apply o ts) s h = (h.0, all_sorted bounds ts h.0 h.1, h.2)
    sorted_renumbered bounds (binding names ts t) s h = (h.0, h.1, all_sorted bounds ts h.0 h.2, sorted_renumbered (bounds ++ h.0) t s h.3)
    sorted_renumbered bounds (call n ts) s h = (h.0, h.1, all_sorted bounds ts (sorts_of h.0.parameters) h.2, h.3)

    all_sorted : (bounds : List Sort) (ts : Trees) (ss : List Sort) → HaveSorts es fs vars bounds ts ss → HaveSorts es fs flat bounds (all_renumbered place ts) ss
    all_sorted bounds no_trees [] h = tt
    all_sorted bounds no_trees (s ∷ ss) h = absurd h
    all_sorted bounds (tree t ts) [] h = absurd h
    all_sorted bounds (tree t ts) (s ∷ ss) h = (sorted_renumbered bounds t s h.0, all_sorted bounds ts ss h.1)

mutual
  pub unprimed_renumbered : (place : ℕ → ℕ) (t : Tree) → IsUnprimed t → IsUnprimed (renumbered place t)
  unprimed_renumbered place (constant d) h = tt
  unprimed_renumbered place (variable v primed) h = h
  unprimed_renumbered place (bound i) h = tt
  unprimed_renumbered place (apply o ts) h = all_unprimed place ts h
  unprimed_renumbered place (binding names ts t) h = (all_unprimed place ts h.0, unprimed_renumbered place t h.1)
  unprimed_renumbered place (call n ts) h = all_unprimed place ts h

  all_unprimed : (place : ℕ → ℕ) (ts : Trees) → AreUnprimed ts → AreUnprimed (all_renumbered place ts)
  all_unprimed place no_trees h = tt
  all_unprimed place (tree t ts) h = (unprimed_renumbered place t h.0, all_unprimed place ts h.1)

-- a term that can appear where primes are refused has none
module _ (scope : ScopeState) (vs : List Variable) where
  mutual
    pub stands_unprimed : (ls : List Local) (t : Tree) (s : Sort) → IsWellScoped (over scope vs Refused) ls t s → IsUnprimed t
    stands_unprimed ls (constant d) s h = tt
    stands_unprimed ls (variable v primed) s h = h.1
    stands_unprimed ls (bound i) s h = tt
    stands_unprimed ls (apply o ts) s h = each_unprimed ls ts h.0 h.1
    stands_unprimed ls (binding names ts t) s h = (each_unprimed ls ts h.0 h.3, stands_unprimed (ls ++ bound_locals names h.0) t s h.4)
    stands_unprimed ls (call n ts) s h = each_unprimed ls ts (sorts_of h.0.parameters) h.3

    each_unprimed : (ls : List Local) (ts : Trees) (ss : List Sort) → AreWellScoped (over scope vs Refused) ls ts ss → AreUnprimed ts
    each_unprimed ls no_trees ss h = tt
    each_unprimed ls (tree t ts) [] h = absurd h
    each_unprimed ls (tree t ts) (s ∷ ss) h = (stands_unprimed ls t s h.0, each_unprimed ls ts ss h.1)
