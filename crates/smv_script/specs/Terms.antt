-- The terms of MoXI that stand for flat expressions (MoXI, SPIN 2024; SMT-LIB 2.6, section 3.6). Which stand for which is this
-- translator's own.
use Rattle.std.specs.Prelude.{ℕ, Bool, true, false, ◌&&◌, if◌then◌else◌, pos, Option, Some, None}
use Rattle.smv_text.specs.declared.operators.Infix.{Infix}
use Rattle.smv_text.specs.declared.operators.Infix.TheVariants.{Implies}
use Rattle.smv_meaning.specs.Expressions.{is_implies}
use Rattle.smv_meaning.specs.Types.{ExprType, is_word_type, is_union, type_width}
use Rattle.smv_flat.specs.FlatTree.{FlatTree, flat_truth, flat_number, flat_literal, flat_symbol, flat_item, flat_prefix, flat_chain, flat_choice, flat_cases, flat_select, flat_call, flat_set, flat_range, FlatLinks, no_flat_links, flat_link, FlatBranches, no_flat_branches, flat_branch, FlatTrees, no_flat_trees, flat_tree_then, flat_are_implies, flat_is_last}
use Rattle.smv_flat.specs.FlatWidth.{flat_number_of, flat_type}
use Rattle.moxi_terms.specs.declared.data.Datum.TheVariants as datum
use Rattle.moxi_terms.specs.Operators.{nothing}
use Rattle.moxi_terms.specs.Tree.{Tree, constant, variable, apply, Trees, no_trees, tree}
use Rattle.smv_script.specs.Codes.{number_or_zero}
use Rattle.smv_script.specs.Operators.{integer_term, any_term, sign_op, repeated, infix_op, joins_with, infix_term, front_width, link_term, selected_term, Arguments, function_term, between_term, among_term}
use Rattle.moxi_terms.specs.Applications.{equal_term, choice_term}

-- ---- operands

abbrev pub is_word_in : Option ExprType → Bool
is_word_in None = false
is_word_in (Some t) = is_word_type t

abbrev pub is_word : FlatTree → Bool
is_word e = is_word_in (flat_type e)

abbrev pub width_in : Option ExprType → ℕ
width_in None = 0
width_in (Some t) = type_width t

abbrev pub word_width : FlatTree → ℕ
word_width e = width_in (flat_type e)

-- a name, also under `next`
abbrev pub is_name : FlatTree → Bool
is_name (flat_item t k under) = true
is_name (flat_symbol t s) = true
is_name e = false

abbrev pub amount_of : FlatTree → ℕ
amount_of e = number_or_zero (flat_number_of e)

-- what the arguments of a function say beside their terms
abbrev pub second_of : FlatTrees → ℕ
second_of no_flat_trees = 0
second_of (flat_tree_then e es) = number_or_zero (flat_number_of e)

abbrev pub arguments_of : FlatTrees → Arguments
arguments_of no_flat_trees = record { width = 0; first = 0; second = 0 }
arguments_of (flat_tree_then e es) = record { width = word_width e; first = number_or_zero (flat_number_of e); second = second_of es }

-- ---- expressions

-- What stands for an expression, given how many names are bound around: the term of its value, and for a term the one that says
-- whether the expression permits that one's value.
pub record Translation : Type 0 where
  pub term : ℕ → Tree
  pub member : ℕ → Tree → Tree

abbrev pub value_translation : (ℕ → Tree) → Translation
value_translation term = record { term = term; member = λ k x. equal_term x (term k) }

abbrev pub set_translation : (ℕ → Tree → Tree) → Translation
set_translation member = record { term = λ k. constant nothing; member = member }

abbrev pub choice_translation : Translation → Translation → Translation → Translation
choice_translation c a b = record {
  term = λ k. choice_term (c.term k) (a.term k) (b.term k);
  member = λ k x. choice_term (c.term k) (a.member k x) (b.member k x);
}

abbrev pub are_flat_unions : FlatLinks → Bool
are_flat_unions no_flat_links = true
are_flat_unions (flat_link o e ls) = is_union o && are_flat_unions ls

abbrev pub all_join_with : Infix → FlatLinks → Bool
all_join_with o no_flat_links = true
all_join_with o (flat_link p e ls) = joins_with o p && all_join_with o ls

-- the width of integers, and the number of each item's variable
pub record Coding : Type 0 where
  pub width : ℕ
  pub place : ℕ → ℕ

abbrev mutual
  pub translation : Coding → FlatTree → Translation
  translation c (flat_truth t b) = value_translation (λ k. constant (datum.Truth b))
  translation c (flat_number t n) = value_translation (λ k. integer_term c.width (pos n))
  translation c (flat_literal t w) = value_translation (λ k. constant (datum.Bits w))
  translation c (flat_symbol t s) = value_translation (λ k. constant (datum.Constant 0 s))
  translation c (flat_item t i under) = value_translation (λ k. variable (c.place i) under)
  translation c (flat_prefix t sign n e) = value_translation (λ k. repeated (sign_op sign (is_word e)) n ((translation c e).term k))
  translation c (flat_chain t e ls) = chain_translation c (is_name e) (word_width e) (translation c e) ls
  translation c (flat_choice t bs e) = chosen_translation c bs (translation c e)
  translation c (flat_cases t bs) = taken_translation c bs
  translation c (flat_select t e high low) = value_translation (λ k. selected_term (word_width e) high low ((translation c e).term k))
  translation c (flat_call t f es) = value_translation (λ k. function_term c.width k f (arguments_of es) (terms c k es))
  translation c (flat_set t es) = set_translation (λ k x. any_term (members c k x es))
  translation c (flat_range t low high) = set_translation (λ k x. between_term c.width low high x)

  -- Given whether the first operand is a name, its width and what stands for it: a chain of `union` is a set, one of `->` is read from
  -- the right, one of an operator that joins is one application, and any other is read from the left.
  pub chain_translation : Coding → Bool → ℕ → Translation → FlatLinks → Translation
  chain_translation c named m d no_flat_links = d
  chain_translation c named m d (flat_link o e ls) =
      if is_union o && are_flat_unions ls then set_translation (λ k x. any_term (tree (d.member k x) (tree ((translation c e).member k x) (link_members c k x ls))))
      else (if is_implies o && flat_are_implies ls then value_translation (λ k. infix_term Implies (is_word e) (d.term k) (implied_term c k ((translation c e).term k) ls))
      else (if joins_with o o && all_join_with o ls then value_translation (λ k. apply (infix_op o (is_word e)) (tree (d.term k) (tree ((translation c e).term k) (link_terms c k ls))))
      else value_translation (λ k. folded_term c k (front_width o m (word_width e))
      (link_term o (is_word e) m (amount_of e) (d.term k) ((translation c e).term k) (among_term named k (d.term k) (translation c e).member)) ls)))

  pub implied_term : Coding → ℕ → Tree → FlatLinks → Tree
  implied_term c k a no_flat_links = a
  implied_term c k a (flat_link o e ls) = infix_term Implies (is_word e) a (implied_term c k ((translation c e).term k) ls)

  pub folded_term : Coding → ℕ → ℕ → Tree → FlatLinks → Tree
  folded_term c k m a no_flat_links = a
  folded_term c k m a (flat_link o e ls) =
      folded_term c k (front_width o m (word_width e)) (link_term o (is_word e) m (amount_of e) a ((translation c e).term k) (among_term false k a (translation c e).member)) ls

  pub link_terms : Coding → ℕ → FlatLinks → Trees
  link_terms c k no_flat_links = no_trees
  link_terms c k (flat_link o e ls) = tree ((translation c e).term k) (link_terms c k ls)

  pub link_members : Coding → ℕ → Tree → FlatLinks → Trees
  link_members c k x no_flat_links = no_trees
  link_members c k x (flat_link o e ls) = tree ((translation c e).member k x) (link_members c k x ls)

  pub chosen_translation : Coding → FlatBranches → Translation → Translation
  chosen_translation c no_flat_branches d = d
  chosen_translation c (flat_branch q e rest) d = choice_translation (translation c q) (translation c e) (chosen_translation c rest d)

  -- the last condition is left out
  pub taken_translation : Coding → FlatBranches → Translation
  taken_translation c no_flat_branches = value_translation (λ k. constant nothing)
  taken_translation c (flat_branch q e rest) =
      if flat_is_last rest then translation c e else choice_translation (translation c q) (translation c e) (taken_translation c rest)

  pub terms : Coding → ℕ → FlatTrees → Trees
  terms c k no_flat_trees = no_trees
  terms c k (flat_tree_then e es) = tree ((translation c e).term k) (terms c k es)

  pub members : Coding → ℕ → Tree → FlatTrees → Trees
  members c k x no_flat_trees = no_trees
  members c k x (flat_tree_then e es) = tree ((translation c e).member k x) (members c k x es)
