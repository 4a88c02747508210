-- Whether the numbers of an expression are in the ranges of its term: the amount of a shift and the result of `uwconst` are words, and
-- the width of a joined word and the numbers of functions and selections have at most 32 bits (SMT-LIB 2.6, theory
-- FixedSizeBitVectors). Each number adds by how much it is out of its range, so the sum is 0 where all are in range.
use Rattle.std.specs.Prelude.{ℕ, ◌+◌, ◌-◌, ◌^◌, List, [], ◌∷◌}
use Rattle.word_core.specs.declared.word.TheConstants.{WIDEST}
use Rattle.smv_text.specs.declared.operators.Infix.{Infix}
use Rattle.smv_text.specs.declared.operators.Infix.TheVariants.{ShiftLeft, ShiftRight, Concat}
use Rattle.smv_text.specs.declared.operators.Function.{Function}
use Rattle.smv_text.specs.declared.operators.Function.TheVariants as OfFunction
use Rattle.smv_flat.specs.FlatForms.{Form}
use Rattle.smv_flat.specs.FlatTree.{FlatTree, flat_truth, flat_number, flat_literal, flat_symbol, flat_item, flat_prefix, flat_chain, flat_choice, flat_cases, flat_select, flat_call, flat_set, flat_range, FlatLinks, no_flat_links, flat_link, FlatBranches, no_flat_branches, flat_branch, FlatTrees, no_flat_trees, flat_tree_then}
use Rattle.smv_script.specs.Operators.{Arguments, front_width}
use Rattle.smv_script.specs.Terms.{amount_of, arguments_of, word_width}

-- ---- one number

-- a number of at most 32 bits
abbrev pub number_excess : ℕ → ℕ
number_excess n = n - (2 ^ 32 - 1)

-- a word of this width with these bits
abbrev pub word_excess : ℕ → ℕ → ℕ
word_excess width bits = (1 - width) + (width - WIDEST) + (bits + 1 - 2 ^ width)

-- ---- one operator

-- the amount of a shift, given the width of what is before it
abbrev pub shift_excess : Infix → ℕ → ℕ → ℕ
shift_excess ShiftLeft m amount = word_excess m amount
shift_excess ShiftRight m amount = word_excess m amount
shift_excess o m amount = 0

-- the width of a joined word, given those of what is before and of the operand
abbrev pub joined_excess : Infix → ℕ → ℕ → ℕ
joined_excess Concat m n = number_excess (m + n)
joined_excess o m n = 0

-- the numbers among the arguments of a function
abbrev pub call_excess : Function → Arguments → ℕ
call_excess OfFunction.Uwconst args = word_excess args.second args.first
call_excess OfFunction.Extend args = number_excess args.second
call_excess OfFunction.Resize args = number_excess args.second
call_excess f args = 0

-- the operators of a chain that is read from the left, given the width of what is before
abbrev pub fronts_excess : ℕ → FlatLinks → ℕ
fronts_excess m no_flat_links = 0
fronts_excess m (flat_link o e ls) =
    shift_excess o m (amount_of e) + joined_excess o m (word_width e) + fronts_excess (front_width o m (word_width e)) ls

-- ---- expressions

abbrev mutual
  pub excess : FlatTree → ℕ
  excess (flat_truth t b) = 0
  excess (flat_number t n) = 0
  excess (flat_literal t w) = 0
  excess (flat_symbol t s) = 0
  excess (flat_item t k under) = 0
  excess (flat_prefix t sign n e) = excess e
  excess (flat_chain t e ls) = excess e + links_excess ls + fronts_excess (word_width e) ls
  excess (flat_choice t bs e) = branches_excess bs + excess e
  excess (flat_cases t bs) = branches_excess bs
  excess (flat_select t e high low) = excess e + number_excess high + number_excess low
  excess (flat_call t f es) = trees_excess es + call_excess f (arguments_of es)
  excess (flat_set t es) = trees_excess es
  excess (flat_range t low high) = 0

  -- the operands of a chain
  pub links_excess : FlatLinks → ℕ
  links_excess no_flat_links = 0
  links_excess (flat_link o e ls) = excess e + links_excess ls

  pub branches_excess : FlatBranches → ℕ
  branches_excess no_flat_branches = 0
  branches_excess (flat_branch c e rest) = excess c + excess e + branches_excess rest

  pub trees_excess : FlatTrees → ℕ
  trees_excess no_flat_trees = 0
  trees_excess (flat_tree_then e es) = excess e + trees_excess es

-- the bodies of formulas
abbrev pub forms_excess : List Form → ℕ
forms_excess [] = 0
forms_excess (f ∷ fs) = excess f.body + forms_excess fs
