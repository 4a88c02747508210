use Rattle.std.proofs.Common.{◌≡◌, ◌++◌, [], List, Option, IfSome, cond, is_none, ap, sym, subst, ◌∙◌}
use Rattle.moxi_terms.specs.declared.data.Sort.{Sort}
use Rattle.moxi_terms.specs.Tree.{Tree}
use Rattle.moxi_term_reading.specs.Reading.{prime_failures}
use Rattle.moxi_terms.specs.Sorted.{IsFunction}
use Rattle.moxi_terms.specs.View.{plain}
use Rattle.moxi_scripts.specs.declared.parts.Declared.{Declared}
use Rattle.moxi_scripts.specs.Collecting.{also}
use Rattle.moxi_scripts.specs.Declarations.{body_reading, is_nil, part_failures, result_sort, term_name_tests, typed_function, with_typed}
use Rattle.moxi_scripts.specs.Entries.{entries_of, known_sort, twice_failures}
use Rattle.moxi_declarations.specs.FunctionView.{function_here}
use Rattle.moxi_attributes.specs.laws.Collecting.{also_two}
use Rattle.moxi_scripts.proofs.FunctionLaws.{function_is, nil_is, none_is_nil, least_found, some_each}
use Rattle.moxi_declarations.proofs.functions.define_function.Goals as goal

pub add_whole-requires-clause-function : goal.add_whole-requires-clause-function
add_whole-requires-clause-function c = λ h.
    let a = c.args in
    let s = a.scope.now in
    let f = function_here a.f in
    let pf = part_failures s a.p f in
    let got = c.in_ok-sort.ensures in
    let none : pf ≡ [] = nil_is pf (sym (c.is_nothing-whole.ensures ∙ ap is_none got.finds ∙ none_is_nil pf) ∙ h) in
    let Is : List Declared → Tree → Option Sort → Type 0 = λ ds t o. IfSome o (λ r. IsFunction s.enumerations s.functions (typed_function a.f.name.name.now ds t r)) in
    let known = known_sort (result_sort s a.p f) in
    let whole : Is (entries_of s f.parameters) (body_reading s f).term known =
    some_each (λ r. IsFunction s.enumerations s.functions (typed_function a.f.name.name.now (entries_of s f.parameters) (body_reading s f).term r)) known
    (λ r e. function_is s (λ q t. c.read_sorts_are_of_the_scope.ensures s q t c.functions-functions.ensures.scope) a.p f r c.read_terms_have_sorts.ensures.forms none e) in
    subst (λ o. Is c.read_parts.new.parameters (plain c.in_ok-sort.body) o) (sym got.result)
    (subst (λ t. Is c.read_parts.new.parameters t known) (sym got.body) (subst (λ ds. Is ds (body_reading s f).term known) (sym got.parameters) whole))

pub returns-clause-scope : goal.returns-clause-scope
returns-clause-scope c =
    let a = c.args in
    let s = a.scope.now in
    let f = function_here a.f in
    let name = a.f.name.name.now in
    let pf = part_failures s a.p f in
    let got = c.in_ok-sort.ensures in
    let known = known_sort (result_sort s a.p f) in
    c.in_ok-add_whole.ensures
    ∙ ap (λ b. cond b (with_typed s name c.read_parts.new.parameters (plain c.in_ok-sort.body) c.in_ok-sort.sort) s) (c.is_nothing-whole.ensures ∙ ap is_none got.finds ∙ none_is_nil pf)
    ∙ ap (λ ds. cond (is_nil pf) (with_typed s name ds (plain c.in_ok-sort.body) c.in_ok-sort.sort) s) got.parameters
    ∙ ap (λ t. cond (is_nil pf) (with_typed s name (entries_of s f.parameters) t c.in_ok-sort.sort) s) got.body
    ∙ ap (λ o. cond (is_nil pf) (with_typed s name (entries_of s f.parameters) (body_reading s f).term o) s) got.result

pub returns-clause-finds : goal.returns-clause-finds
returns-clause-finds c =
    let a = c.args in
    let s = a.scope.now in
    let f = function_here a.f in
    let n = a.f.name in
    let pf = part_failures s a.p f in
    let got = c.in_ok-sort.ensures in
    also_two _ _ _ _ _ c.in_ok-test_names.ensures.finds (c.note.ensures pf (least_found _ pf got.finds))
    ∙ ap (λ ds. also a.found.now (((prime_failures n.primed n.place ++ term_name_tests s a.names.now n.name.now n.place) ++ twice_failures [] ds) ++ pf)) got.parameters
