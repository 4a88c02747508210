-- The plain form of a term: numbers, names and lists, with nothing of where it lies in memory.
use Rattle.std.specs.Prelude.{ℕ, Bool, List, [], ◌∷◌, map}
use Rattle.moxi_terms.specs.declared.data.Sort.{Sort}
use Rattle.moxi_terms.specs.declared.data.Datum.{Datum}
use Rattle.moxi_terms.specs.declared.data.TermOp.{TermOp}
use Rattle.moxi_terms.specs.declared.term.Variable.{Variable}

mutual
  pub data Tree : Type 0 where
    constant : Datum → Tree
    variable : ℕ → Bool → Tree
    bound : ℕ → Tree
    apply : TermOp → Trees → Tree
    binding : List (List ℕ) → Trees → Tree → Tree
    call : ℕ → Trees → Tree

  pub data Trees : Type 0 where
    no_trees : Trees
    tree : Tree → Trees → Trees

abbrev pub trees_of : List Tree → Trees
trees_of [] = no_trees
trees_of (t ∷ ts) = tree t (trees_of ts)

abbrev pub list_of : Trees → List Tree
list_of no_trees = []
list_of (tree t ts) = t ∷ list_of ts

-- a function: its body is over its parameters as variables
pub record PlainFunction : Type 0 where
  pub name : List ℕ
  pub parameters : List Variable
  pub result : Sort
  pub body : Tree

-- the sorts of variables
abbrev pub sorts_of : List Variable → List Sort
sorts_of vs = map (λ (v : Variable). v.sort) vs
