-- The place of each level among all levels, and of an expression's own level.
use Rattle.std.specs.Prelude.{ℕ}
use Rattle.smv_text.specs.declared.operators.Prefix.TheVariants as prefixes
use Rattle.smv_text.specs.declared.level.OperatorClass.{OperatorClass}
use Rattle.smv_text.specs.declared.level.OperatorClass.TheVariants as classes
use Rattle.smv_text.specs.declared.level.Level.{Level}
use Rattle.smv_text.specs.declared.level.Level.TheVariants.{Chain, Choice, Range, Before, Selection}
use Rattle.smv_text.specs.Levels.{class_of}
use Rattle.smv_text.specs.Tree.{Tree, prefix, chain, choice, select, range, Links, no_links, link}

-- the place among all levels, from the loosest at 0
abbrev pub rank : Level → ℕ
rank (Chain classes.Implications) = 0
rank (Chain classes.Equivalences) = 1
rank Choice = 2
rank (Chain classes.Disjunctions) = 3
rank (Chain classes.Conjunctions) = 4
rank (Chain classes.Comparisons) = 5
rank (Chain classes.Memberships) = 6
rank (Chain classes.Unions) = 7
rank Range = 8
rank (Chain classes.Shifts) = 9
rank (Chain classes.Sums) = 10
rank (Chain classes.Products) = 11
rank (Before prefixes.Minus) = 12
rank (Chain classes.Concatenations) = 13
rank (Before prefixes.Not) = 14
rank Selection = 15

-- the place behind all levels
abbrev pub tightest : ℕ
tightest = 16

-- a chain joins by the level of its operators
abbrev pub chain_class : Links → OperatorClass
chain_class no_links = classes.Implications
chain_class (link op t ls) = class_of op

-- the place of an expression's level; what has none stands below all levels
abbrev pub tree_rank : Tree → ℕ
tree_rank (prefix p sign n t) = rank (Before sign)
tree_rank (chain p t ls) = rank (Chain (chain_class ls))
tree_rank (choice p bs t) = rank Choice
tree_rank (select p t high low) = rank Selection
tree_rank (range p low high) = rank Range
tree_rank t = tightest
