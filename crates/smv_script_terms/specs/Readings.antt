-- How chains are read, and what expressions answer by their kinds.
use Rattle.std.specs.Prelude.{ℕ, false, if◌then◌else◌, ℤ, Option, Some, None}
use Rattle.smv_text.specs.declared.operators.Function.{Function}
use Rattle.moxi_terms.specs.declared.data.TermOp.TheVariants as op
use Rattle.moxi_terms.specs.Operators.{nothing}
use Rattle.moxi_terms.specs.Tree.{Tree, constant, tree}
use Rattle.smv_flat.specs.FlatTree.{FlatTree, flat_item, flat_symbol, FlatLinks, no_flat_links, flat_link, FlatTrees, flat_are_implies}
use Rattle.smv_script.specs.Operators.{between_term, function_term}
use Rattle.smv_script.specs.Terms.{Coding, translation, chain_translation, terms, arguments_of, is_name, is_word, word_width, are_flat_unions, all_join_with}
use Rattle.smv_script_terms.specs.Questions.{answered, subject_tree}
use Rattle.smv_script_terms.specs.Operands.{several, answers, link_answers, folded}
use Rattle.smv_script_terms.specs.declared.coding.Question.{Question}
use Rattle.smv_script_terms.specs.declared.coding.Question.TheVariants.{Value, Permits}
use Rattle.smv_script_terms.specs.declared.coding.Subject.{Subject}
use Rattle.smv_script_terms.specs.declared.coding.Subject.TheVariants as subject
use Rattle.smv_script_terms.specs.declared.readings.Reading.{Reading}
use Rattle.smv_script_terms.specs.declared.readings.Reading.TheVariants as by

abbrev pub reading : FlatLinks → Reading
reading no_flat_links = by.Single
reading (flat_link o e ls) =
    if are_flat_unions (flat_link o e ls) then by.Union else (if flat_are_implies (flat_link o e ls) then by.Implied
    else (if all_join_with o (flat_link o e ls) then by.OneOperator o (is_word e) else by.Left))

-- a name, also under `next`
abbrev pub named_subject : Coding → FlatTree → Option Subject
named_subject c (flat_item t i under) = Some (subject.Variable (c.place i) under)
named_subject c (flat_symbol t s) = Some (subject.Symbol s)
named_subject c e = None

abbrev pub chain_answered : Question → Coding → ℕ → FlatTree → FlatLinks → Tree
chain_answered q c k e ls = answered q (chain_translation c (is_name e) (word_width e) (translation c e) ls) k

-- a set answers nothing of its value
abbrev pub united_answer : Question → Coding → ℕ → FlatTree → FlatLinks → Tree
united_answer Value c k e ls = constant nothing
united_answer (Permits x) c k e ls = several op.Or false (tree (answered (Permits x) (translation c e) k) (link_answers (Permits x) c k ls))

abbrev pub gathered_answer : Question → Coding → ℕ → FlatTrees → Tree
gathered_answer Value c k es = constant nothing
gathered_answer (Permits x) c k es = several op.Or false (answers (Permits x) c k es)

abbrev pub ranged_answer : Question → ℕ → ℤ → ℤ → Tree
ranged_answer Value width low high = constant nothing
ranged_answer (Permits x) width low high = between_term width low high (subject_tree x)

abbrev pub folded_answer : Coding → ℕ → FlatTree → FlatLinks → Tree
folded_answer c k e ls = folded c k (named_subject c e) (word_width e) ((translation c e).term k) ls

abbrev pub called_term : Coding → ℕ → Function → FlatTrees → Tree
called_term c k f es = function_term c.width k f (arguments_of es) (terms c k es)
