-- The plain form of a model: places, numbers, names and lists, with nothing of where it lies in memory (NuSMV 2.6 User
-- Manual, chapter 2).
use Rattle.std.specs.Prelude.{ℕ, ℤ, Bool, Option, List, [], ◌∷◌}
use Rattle.text_core.specs.declared.place.Place.{Place}
use Rattle.word_core.specs.Words.{BitVector}
use Rattle.smv_text.specs.declared.tree.Path.{Path}
use Rattle.smv_text.specs.declared.operators.Prefix.{Prefix}
use Rattle.smv_text.specs.declared.operators.Infix.{Infix}
use Rattle.smv_text.specs.declared.operators.Function.{Function}
use Rattle.smv_text.specs.declared.tree.Member.{Member}
use Rattle.smv_text.specs.declared.tree.VarKind.{VarKind}
use Rattle.smv_text.specs.declared.tree.When.{When}
use Rattle.smv_text.specs.declared.tree.Parameter.{Parameter}

-- an expression (manual, 2.2); each shape begins with the place of its first token
mutual
  pub data Tree : Type 0 where
    truth : Place → Bool → Tree  -- TRUE and FALSE
    number : Place → ℕ → Tree
    literal : Place → BitVector → Tree
    name : Place → Path → Tree
    prefix : Place → Prefix → ℕ → Tree → Tree  -- a sign, repeated so many times
    chain : Place → Tree → Links → Tree
    choice : Place → Branches → Tree → Tree
    cases : Place → Branches → Tree
    select : Place → Tree → ℕ → ℕ → Tree  -- the high end, the low end
    call : Place → Function → Trees → Tree
    next : Place → Tree → Tree
    set : Place → Trees → Tree
    range : Place → ℤ → ℤ → Tree

  -- operators, each with the operand behind it
  pub data Links : Type 0 where
    no_links : Links
    link : Infix → Tree → Links → Links

  -- conditions, each with its value
  pub data Branches : Type 0 where
    no_branches : Branches
    branch : Tree → Tree → Branches → Branches

  pub data Trees : Type 0 where
    no_trees : Trees
    tree : Tree → Trees → Trees

abbrev pub links_of : List (Infix × Tree) → Links
links_of [] = no_links
links_of (l ∷ ls) = link l.0 l.1 (links_of ls)

abbrev pub branches_of : List (Tree × Tree) → Branches
branches_of [] = no_branches
branches_of (b ∷ bs) = branch b.0 b.1 (branches_of bs)

abbrev pub trees_of : List Tree → Trees
trees_of [] = no_trees
trees_of (t ∷ ts) = tree t (trees_of ts)

-- what a variable ranges over, or the module and the actuals of an instance (manual, 2.3)
pub data PlainDomain : Type 0 where
  boolean : PlainDomain
  members : List Member → PlainDomain
  between : ℤ → ℤ → PlainDomain
  bits : ℕ → PlainDomain
  instance : List ℕ → Trees → PlainDomain

pub record PlainItem : Type 0 where
  pub name : List ℕ
  pub place : Place
  pub domain : PlainDomain
  pub domain_place : Place

pub record PlainDefinition : Type 0 where
  pub name : List ℕ
  pub place : Place
  pub body : Tree

pub record PlainAssignment : Type 0 where
  pub when : When
  pub target : Path
  pub body : Tree

-- a section of a module's body (manual, 2.3)
pub data PlainElement : Type 0 where
  vars : VarKind → List PlainItem → PlainElement
  defines : List PlainDefinition → PlainElement
  constants : List (List ℕ) → PlainElement
  assigns : List PlainAssignment → PlainElement
  init : Tree → PlainElement
  trans : Tree → PlainElement
  invar : Tree → PlainElement
  spec : Option (List ℕ) → Tree → PlainElement

pub record PlainModule : Type 0 where
  pub name : List ℕ
  pub place : Place
  pub parameters : List Parameter
  pub elements : List PlainElement
  pub tokens : ℕ

-- a model: its modules, and the place of its text's end
pub record PlainSource : Type 0 where
  pub modules : List PlainModule
  pub end : Place
