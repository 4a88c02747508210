-- The terms of functions by how many arguments they look at.
use Rattle.std.specs.Prelude.{ℕ, ◌+◌, ◌-◌, Bool, true, false, pos, Option, Some, None}
use Rattle.word_core.specs.declared.kinds.Unary.TheVariants as OnWord
use Rattle.word_core.specs.declared.kinds.Binary.TheVariants as OnWords
use Rattle.smv_text.specs.declared.operators.Function.{Function}
use Rattle.smv_text.specs.declared.operators.Function.TheVariants as OfFunction
use Rattle.moxi_terms.specs.declared.data.TermOp.TheVariants as op
use Rattle.moxi_terms.specs.Operators.{nothing}
use Rattle.moxi_terms.specs.Tree.{Tree, constant, bound, apply, binding, Trees, no_trees, tree}
use Rattle.smv_script.specs.Operators.{Arguments as Plain, word_term, integer_term, extended_term, resized_term, is_below, t_alone, t_and_u}
use Rattle.smv_script_terms.specs.declared.functions.Arguments.{Arguments}
use Rattle.moxi_terms.specs.Applications.{one, two, words_term, equal_term, choice_term}

abbrev pub arguments_plain : Arguments → Plain
arguments_plain x = record { width = x.width; first = x.first; second = x.second }

abbrev pub first_tree : Trees → Option Tree
first_tree no_trees = None
first_tree (tree a more) = Some a

abbrev pub only_tree : Trees → Option Tree
only_tree no_trees = None
only_tree (tree a no_trees) = Some a
only_tree (tree a (tree b more)) = None

abbrev pub magnitude_term : ℕ → ℕ → Tree
magnitude_term width k = choice_term (words_term OnWords.Slt (bound k) (integer_term width (pos 0))) (apply (op.BvUnary OnWord.Neg) (one (bound k))) (bound k)

-- of one argument and no more
abbrev pub only_term : ℕ → ℕ → Function → ℕ → Tree → Tree
only_term width k OfFunction.Bool before a = equal_term a (word_term 1 1)
only_term width k OfFunction.Word1 before a = choice_term a (word_term 1 1) (word_term 1 0)
only_term width k OfFunction.Toint before a = extended_term (width - before) a
only_term width k OfFunction.Abs before a = binding t_alone (one a) (magnitude_term width k)
only_term width k f before a = constant nothing

-- of the first argument
abbrev pub first_term : Function → ℕ → ℕ → Tree → Tree
first_term OfFunction.Extend before n a = extended_term n a
first_term OfFunction.Resize before n a = resized_term before n a
first_term f before n a = constant nothing

-- the lesser or the greater of two bound operands
abbrev pub pair_body : ℕ → Bool → Tree
pair_body k true = choice_term (is_below k) (bound k) (bound (k + 1))
pair_body k false = choice_term (is_below k) (bound (k + 1)) (bound k)

abbrev pub pair_term : ℕ → Bool → Trees → Tree
pair_term k lesser (tree a (tree b no_trees)) = binding t_and_u (two a b) (pair_body k lesser)
pair_term k lesser ts = constant nothing
