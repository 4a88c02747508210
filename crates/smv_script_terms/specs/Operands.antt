-- The parts of expressions as the code collects them, and what they are put together to.
use Rattle.std.specs.Prelude.{◌≡◌, ℕ, ◌+◌, Bool, if◌then◌else◌, is_some, Option, Some, None, List, [], ◌∷◌}
use Rattle.smv_text.specs.declared.operators.Infix.{Infix}
use Rattle.smv_text.specs.declared.operators.Infix.TheVariants.{Implies, Member, ShiftLeft, ShiftRight}
use Rattle.moxi_terms.specs.declared.data.Datum.TheVariants as datum
use Rattle.moxi_terms.specs.declared.data.TermOp.{TermOp}
use Rattle.moxi_terms.specs.Tree.{Tree, constant, bound, apply, binding, Trees, no_trees, tree}
use Rattle.moxi_terms.specs.View.{plain}
use Rattle.smv_flat.specs.FlatTree.{FlatTree, FlatLinks, no_flat_links, flat_link, FlatBranches, no_flat_branches, flat_branch, FlatTrees, no_flat_trees, flat_tree_then}
use Rattle.smv_script.specs.Operators.{infix_term, front_width, word_term, t_alone}
use Rattle.smv_script.specs.Terms.{Coding, Translation, translation, is_word, word_width, amount_of, folded_term}
use Rattle.smv_script_terms.specs.Questions.{answered, subject_tree}
use Rattle.smv_script_terms.specs.declared.coding.Question.{Question}
use Rattle.smv_script_terms.specs.declared.coding.Subject.{Subject}
use Rattle.smv_script_terms.specs.declared.operands.Operand.{Operand}
use Rattle.smv_script_terms.specs.declared.operands.Case.{Case}
use Rattle.moxi_terms.specs.Applications.{one, choice_term}

-- one part is itself
abbrev pub several : TermOp → Bool → Trees → Tree
several o empty no_trees = constant (datum.Truth empty)
several o empty (tree a no_trees) = a
several o empty (tree a (tree b more)) = apply o (tree a (tree b more))

-- ---- chains that are read from the right

-- whether an operand is a word, and its term
abbrev pub operand_plain : Operand → Bool × Tree
operand_plain x = (x.words, plain x.term)

abbrev pub operands_of : Coding → ℕ → FlatLinks → List (Bool × Tree)
operands_of c k no_flat_links = []
operands_of c k (flat_link o e ls) = (is_word e, (translation c e).term k) ∷ operands_of c k ls

abbrev pub implied_parts : Tree → List (Bool × Tree) → Tree
implied_parts a [] = a
implied_parts a (p ∷ ps) = infix_term Implies p.0 a (implied_parts p.1 ps)

-- and behind these the last operand
abbrev pub implied_end : Tree → List (Bool × Tree) → Bool → Tree → Tree
implied_end a [] words b = infix_term Implies words a b
implied_end a (p ∷ ps) words b = infix_term Implies p.0 a (implied_end p.1 ps words b)

-- ---- chains that are read from the left

-- an operand behind an operator, given how many names are bound: behind `in` it says whether it permits a name that is before,
-- or what is bound for that
abbrev pub behind_term : Infix → ℕ → Option Subject → Translation → Tree
behind_term Member k None d = d.member (k + 1) (bound k)
behind_term Member k (Some x) d = d.member k (subject_tree x)
behind_term o k x d = d.term k

-- What is before, of this width, with the next operand, the number that this one is and its term; where a name is before
-- `in`, it is tested as it is.
abbrev pub joined_term : Infix → Bool → Bool → ℕ → ℕ → Tree → Tree → Tree
joined_term Member named words m amount a b = if named then b else binding t_alone (one a) b
joined_term ShiftLeft named words m amount a b = infix_term ShiftLeft words a (word_term m amount)
joined_term ShiftRight named words m amount a b = infix_term ShiftRight words a (word_term m amount)
joined_term o named words m amount a b = infix_term o words a b

abbrev pub folded : Coding → ℕ → Option Subject → ℕ → Tree → FlatLinks → Tree
folded c k x m a no_flat_links = a
folded c k x m a (flat_link o e ls) =
    folded_term c k (front_width o m (word_width e)) (joined_term o (is_some x) (is_word e) m (amount_of e) a (behind_term o k x (translation c e))) ls

-- what is before is that name
abbrev pub IsSubject : Option Subject → Tree → Type 0
IsSubject None a = Unit {0}
IsSubject (Some x) a = a ≡ subject_tree x

-- ---- lists of answers

abbrev pub link_answers : Question → Coding → ℕ → FlatLinks → Trees
link_answers q c k no_flat_links = no_trees
link_answers q c k (flat_link o e ls) = tree (answered q (translation c e) k) (link_answers q c k ls)

-- those of a chain's first operand and of the others
abbrev pub chain_answers : Question → Coding → ℕ → FlatTree → FlatLinks → Trees
chain_answers q c k e ls = tree (answered q (translation c e) k) (link_answers q c k ls)

abbrev pub answers : Question → Coding → ℕ → FlatTrees → Trees
answers q c k no_flat_trees = no_trees
answers q c k (flat_tree_then e es) = tree (answered q (translation c e) k) (answers q c k es)

-- ---- cases

abbrev pub case_plain : Case → Tree × Tree
case_plain x = (plain x.when, plain x.value)

abbrev pub cases_of : Question → Coding → ℕ → FlatBranches → List (Tree × Tree)
cases_of q c k no_flat_branches = []
cases_of q c k (flat_branch p e rest) = ((translation c p).term k, answered q (translation c e) k) ∷ cases_of q c k rest

-- the first case whose condition is true, else this term
abbrev pub chosen_cases : List (Tree × Tree) → Tree → Tree
chosen_cases [] t = t
chosen_cases (x ∷ xs) t = choice_term x.0 x.1 (chosen_cases xs t)
