-- The widths of the words that are in the term of a line.
use Rattle.std.specs.Prelude.{ℕ, ◌≤◌, List}
use Rattle.word_core.specs.declared.word.TheConstants.{WIDEST}
use Rattle.btor_tree.specs.declared.args.Arg.{Arg}
use Rattle.btor_tree.specs.declared.lines.LineOp.{LineOp}
use Rattle.btor_tree.specs.declared.lines.LineOp.TheVariants as line
use Rattle.btor_import.specs.Operators.{argument}

-- a word may have so many bits
abbrev pub IsWidth : ℕ → Type 0
IsWidth width = (1 ≤ width) × (width ≤ WIDEST)

-- the operand of an operator on one word has a width, given that of each line
abbrev pub HasOperandWidth : (ℕ → ℕ) → LineOp → List Arg → Type 0
HasOperandWidth width (line.Unary o) args = IsWidth (width (argument args 0).line)
HasOperandWidth width o args = Unit {0}
