-- What the parts that were read so far are kept as, and what is kept of a chain's and of branches' heights.
use Rattle.std.specs.Prelude.{◌≡◌, ℕ, suc, ◌+◌, max, false, List, [], ◌∷◌, map, length}
use Rattle.text_core.specs.declared.place.Place.{Place}
use Rattle.smv_text.specs.declared.operators.Infix.{Infix}
use Rattle.smv_text.specs.declared.tree.Expr.{roll-Expr}
use Rattle.smv_text.specs.declared.tree.Shape.{Shape}
use Rattle.smv_text.specs.Tree.{Tree, name, links_of}
use Rattle.smv_text.specs.Heights.{height, highest, folded, is_joined, is_implied, joined_number, link_heights}
use Rattle.smv_text.specs.View.{plain, plain_link, plain_branch}
use Rattle.smv_expressions.specs.declared.kept.MeasuredExpr.{MeasuredExpr}
use Rattle.smv_expressions.specs.declared.kept.Members.{Members}
use Rattle.smv_expressions.specs.declared.kept.Cases.{Cases}
use Rattle.smv_expressions.specs.declared.kept.Heights.{Heights}
use Rattle.smv_expressions.specs.declared.kept.Operands.{Operands}
use Rattle.smv_grammar.specs.Kept.{Read, cap, capped}

-- what is kept
abbrev pub read_of : MeasuredExpr → Read
read_of x = record { tree = plain x.expr; height = x.height }

-- the tree of a shape
abbrev pub shaped : Place → Shape → Tree
shaped p shape = plain (roll-Expr (record { place = p; shape = shape }))

-- the expression of a single name
abbrev pub single : Place → List ℕ → Tree
single p n = name p (record { from_self = false; names = n ∷ []; place = p })

-- what stands for an expression in what is kept of its parts
abbrev pub low : Tree → Tree
low t = (cap t).tree

abbrev pub low_link : Infix × Tree → Infix × Tree
low_link l = (l.0, low l.1)

abbrev pub low_branch : Tree × Tree → Tree × Tree
low_branch b = (low b.0, low b.1)

-- These members are kept of these expressions.
pub record AreMembers (ts : List Tree) (m : Members) : Type 0 where
  pub trees : map plain m.exprs.items ≡ map low ts
  pub highest : m.highest ≡ capped (highest (map height ts))

-- the highest of the branches, each under the branches up to it, over so many others
abbrev pub highest_branch : ℕ → List (Tree × Tree) → ℕ
highest_branch n [] = 0
highest_branch n (b ∷ bs) = max (suc n + max (height b.0) (height b.1)) (highest_branch (suc n) bs)

pub record AreCases (bs : List (Tree × Tree)) (c : Cases) : Type 0 where
  pub trees : map plain_branch c.branches.items ≡ map low_branch bs
  pub depth : c.depth ≡ capped (length bs)
  pub highest : c.highest ≡ capped (highest_branch 0 bs)

-- the branches of a choice, and what is kept of what is behind the last colon
abbrev pub IsChoice : Cases → Read → List (Tree × Tree) × Tree → Type 0
IsChoice c r x = AreCases x.0 c × (r ≡ cap x.1)

-- the highest operand of a chain
abbrev pub highest_link : ℕ → List (Infix × ℕ) → ℕ
highest_link n ls = max n (highest (map (λ l. l.1) ls))

-- a chain's first operator by its number
abbrev pub first_number : List (Infix × ℕ) → ℕ
first_number [] = 0
first_number (l ∷ ls) = joined_number l.0

-- the highest of the operands before the last, each under the operators up to the one behind it, over so many others
abbrev pub highest_before : ℕ → ℕ → List (Infix × ℕ) → ℕ
highest_before d n [] = 0
highest_before d n (l ∷ ls) = max (suc d + n) (highest_before (suc d) l.1 ls)

-- the height of the last operand
abbrev pub last_height : ℕ → List (Infix × ℕ) → ℕ
last_height n [] = n
last_height n (l ∷ ls) = last_height l.1 ls

-- These are the heights of a chain of a first operand of this height and these links.
pub record AreHeights (n : ℕ) (ls : List (Infix × ℕ)) (h : Heights) : Type 0 where
  pub number : h.number ≡ first_number ls
  pub joined : h.joined ≡ is_joined ls
  pub implied : h.implied ≡ is_implied ls
  pub depth : h.depth ≡ capped (length ls)
  pub highest : h.highest ≡ capped (highest_link n ls)
  pub folded : h.folded ≡ capped (folded n ls)
  pub before : h.before ≡ capped (highest_before 0 n ls)
  pub last : h.last ≡ capped (last_height n ls)

pub record AreOperands (t : Tree) (ls : List (Infix × Tree)) (o : Operands) : Type 0 where
  pub trees : map plain_link o.links.items ≡ map low_link ls
  pub heights : AreHeights (height t) (link_heights (links_of ls)) o.heights
