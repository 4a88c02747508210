use Rattle.std.proofs.Common.{◌≡◌, ◌++◌, length, ap, subst, ◌∙◌, arith}
use Rattle.moxi_sexpr.specs.Tree.{plain as plain_form, plain_forms}
use Rattle.moxi_term_reading.specs.Answer.{IsRead}
use Rattle.moxi_scripts.specs.Collecting.{also}
use Rattle.moxi_scripts.specs.Declarations.{body_reading, clash_failures, read_over, result_sort}
use Rattle.moxi_scripts.specs.Entries.{entries_failures, entries_of, known_sort, sort_failures}
use Rattle.moxi_declarations.specs.FunctionView.{function_here}
use Rattle.moxi_attributes.specs.laws.Collecting.{also_two}
use Rattle.moxi_attributes.specs.laws.FormSizes.{entries_few}
use Rattle.moxi_declarations.proofs.functions.read_parts.Goals as goal

pub read_body-requires-clause-parameters : goal.read_body-requires-clause-parameters
read_body-requires-clause-parameters c =
    let s = c.args.scope.now in
    let ps = plain_forms c.args.f.parameters.now in
    let params : c.read_entries.new.all ≡ entries_of s ps = c.in_ok-read_entries.ensures.adds ∙ ap (λ xs. xs ++ entries_of s ps) c.requires.parameters in
    omega (arith, ap length params, entries_few s ps, c.requires.few)

pub returns-clause-finds : goal.returns-clause-finds
returns-clause-finds c =
    let a = c.args in
    let s = a.scope.now in
    let f = function_here a.f in
    let ps = plain_forms a.f.parameters.now in
    let old = a.found.now in
    let params : c.read_entries.new.all ≡ entries_of s ps = c.in_ok-read_entries.ensures.adds ∙ ap (λ xs. xs ++ entries_of s ps) c.requires.parameters in
    let r : IsRead (body_reading s f) c.in_ok-body.body = subst (λ ds. IsRead (read_over s ds (plain_form a.f.body.now)) c.in_ok-body.body) params c.in_ok-body.ensures in
    let front = also_two _ _ _ _ _ c.in_ok-read_entries.ensures.finds c.note_sort.ensures in
    let back = also_two _ _ _ _ _ (c.note.ensures (body_reading s f).failures r.failure) c.test_clash.ensures in
    let es = entries_failures s a.f.place ps in
    let bs = (body_reading s f).failures in
    also_two _ _ _ _ _ front back
    ∙ ap (λ x. also old ((es ++ sort_failures c.sort_of-sort.result) ++ (bs ++ clash_failures x c.in_ok-body.body.sort c.place_of.result))) (c.known_sort-result.ensures ∙ ap known_sort c.sort_of-sort.ensures)
    ∙ ap (λ x. also old ((es ++ sort_failures x) ++ (bs ++ clash_failures (known_sort (result_sort s a.p f)) c.in_ok-body.body.sort c.place_of.result))) c.sort_of-sort.ensures
    ∙ ap (λ x. also old ((es ++ sort_failures (result_sort s a.p f)) ++ (bs ++ clash_failures (known_sort (result_sort s a.p f)) x c.place_of.result))) r.sort
    ∙ ap (λ x. also old ((es ++ sort_failures (result_sort s a.p f)) ++ (bs ++ clash_failures (known_sort (result_sort s a.p f)) (body_reading s f).sort x))) c.place_of.ensures
