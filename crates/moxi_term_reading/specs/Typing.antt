-- The sort of an application, by its head.
use Rattle.std.specs.Prelude.{◌==◌, ℕ, Bool, if◌then◌else◌, Option, None, Some, Result, Ok, Err, List, length, slice_get}
use Rattle.text_core.specs.declared.place.Kind.{Kind}
use Rattle.text_core.specs.declared.place.Kind.TheVariants.{M}
use Rattle.moxi_terms.specs.declared.data.Sort.{Sort}
use Rattle.moxi_terms.specs.declared.names.Head.{Head}
use Rattle.moxi_terms.specs.declared.names.Head.TheVariants as heads
use Rattle.moxi_terms.specs.Tree.{sorts_of, PlainFunction}
use Rattle.moxi_terms.specs.Sorts.{same_sorts, count_fits, op_sort}

-- the sorts of a function's parameters and its result
abbrev pub call_sort : Option PlainFunction → List Sort → Result Sort Kind
call_sort None ss = Err (M 5)
call_sort (Some f) ss = if same_sorts (sorts_of f.parameters) ss then Ok f.result else Err (M 5)

abbrev pub head_sort : List PlainFunction → Head → List Sort → Result Sort Kind
head_sort fs (heads.Operator o) ss = op_sort o ss
head_sort fs (heads.Function n) ss = call_sort (slice_get fs n) ss

abbrev pub parameter_count : Option PlainFunction → ℕ
parameter_count None = 0
parameter_count (Some f) = length f.parameters

abbrev pub head_count_fits : List PlainFunction → Head → ℕ → Bool
head_count_fits fs (heads.Operator o) n = count_fits o n
head_count_fits fs (heads.Function k) n = n == parameter_count (slice_get fs k)
