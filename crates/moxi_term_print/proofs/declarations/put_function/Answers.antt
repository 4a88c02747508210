use Rattle.std.proofs.Common.{ℕ, false, List, [], ◌∷◌, ◌++◌, ap, ◌∙◌, append_assoc}
use Rattle.std.specs.Prelude.{codes}
use Rattle.moxi_sexpr.specs.declared.form.Atom.TheVariants.{Symbol}
use Rattle.moxi_sexpr.specs.Printing.{printed_atom}
use Rattle.moxi_terms.specs.View.{plain}
use Rattle.moxi_term_print.specs.Shown.{text_of, group}
use Rattle.moxi_term_print.specs.Terms.{shown_sort, shown_term, shown_variables, variable_names}
use Rattle.moxi_term_print.proofs.TextLaws.{ok_same, onto, function_pieces}
use Rattle.moxi_term_print.proofs.declarations.put_function.Goals as goal

pub returns : goal.returns
returns c =
    let old = c.args.out.now in
    let s = c.args.scope.now in
    let f = c.args.function.now in
    let w : List ℕ = codes "define-fun" in
    let name : List ℕ = printed_atom (Symbol f.name false) in
    let variables : List ℕ = text_of (group (shown_variables s f.parameters)) in
    let sort : List ℕ = text_of (shown_sort s f.result) in
    let term : List ℕ = text_of (shown_term s (variable_names f.parameters) [] (plain f.body)) in
    let symbols = onto old _ _ _ name c.in_ok-put.ensures.ok (c.in_ok-put_symbol.ensures ∙ ap (λ n. c.put.new.self ++ printed_atom (Symbol n false)) c.bytes.ensures) in
    let second = onto old _ _ _ (32 ∷ []) symbols c.in_ok-put-2.ensures.ok in
    let listed = onto old _ _ _ variables second c.in_ok-put_variables.ensures in
    let third = onto old _ _ _ (32 ∷ []) listed c.in_ok-put-3.ensures.ok in
    let sorted = onto old _ _ _ sort third c.in_ok-put_sort.ensures in
    let fourth = onto old _ _ _ (32 ∷ []) sorted c.in_ok-put-4.ensures.ok in
    let all = onto old _ _ _ term fourth c.in_ok-put_term.ensures in
    ok_same c.put-5.result _ _ _ (ap (λ x. x ++ 41 ∷ []) all ∙ append_assoc old _ _ ∙ ap (λ x. old ++ x) (function_pieces w name variables sort term)) c.put-5.ensures.ok
