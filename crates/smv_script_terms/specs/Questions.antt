-- What the code keeps of codes, and what it asks of expressions.
use Rattle.std.specs.Prelude.{ℕ, List, slice_index_or}
use Rattle.moxi_terms.specs.declared.data.Datum.TheVariants as datum
use Rattle.moxi_terms.specs.Tree.{Tree, constant, variable, bound}
use Rattle.smv_script.specs.Terms.{Coding as Codes, Translation}
use Rattle.smv_script_terms.specs.declared.coding.Coding.{Coding}
use Rattle.smv_script_terms.specs.declared.coding.Subject.{Subject}
use Rattle.smv_script_terms.specs.declared.coding.Subject.TheVariants as subject
use Rattle.smv_script_terms.specs.declared.coding.Question.{Question}
use Rattle.smv_script_terms.specs.declared.coding.Question.TheVariants.{Value, Permits}
use Rattle.moxi_terms.specs.Applications.{equal_term}

-- 0 where the list has no such number
abbrev pub place_at : List ℕ → ℕ → ℕ
place_at places k = slice_index_or places k 0

-- what the code's coding says
abbrev pub codes_of : Coding → Codes
codes_of c = record { width = c.width; place = place_at c.places.items }

abbrev pub subject_tree : Subject → Tree
subject_tree (subject.Variable v primed) = variable v primed
subject_tree (subject.Symbol s) = constant (datum.Constant 0 s)
subject_tree (subject.Bound k) = bound k

-- what a translation answers
abbrev pub answered : Question → Translation → ℕ → Tree
answered Value d k = d.term k
answered (Permits x) d k = d.member k (subject_tree x)

-- of an expression that is no set and has this value
abbrev pub answered_value : Question → Tree → Tree
answered_value Value t = t
answered_value (Permits x) t = equal_term (subject_tree x) t
