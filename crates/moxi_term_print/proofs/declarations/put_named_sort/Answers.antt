use Rattle.std.proofs.Common.{ℕ, false, List, [], ◌∷◌, ◌++◌, ap, ◌∙◌, append_assoc}
use Rattle.std.specs.Prelude.{codes}
use Rattle.moxi_sexpr.specs.declared.form.Atom.TheVariants.{Symbol}
use Rattle.moxi_sexpr.specs.Printing.{printed_atom}
use Rattle.moxi_term_print.specs.Shown.{text_of}
use Rattle.moxi_term_print.specs.Terms.{shown_sort}
use Rattle.moxi_term_print.proofs.TextLaws.{ok_same, onto, sort_pieces}
use Rattle.moxi_term_print.proofs.declarations.put_named_sort.Goals as goal

pub returns : goal.returns
returns c =
    let old = c.args.out.now in
    let w : List ℕ = codes "define-sort" in
    let name : List ℕ = printed_atom (Symbol c.args.sort.now.name false) in
    let sort : List ℕ = text_of (shown_sort c.args.scope.now c.args.sort.now.sort) in
    let symbols = onto old _ _ _ name c.in_ok-put.ensures.ok (c.in_ok-put_symbol.ensures ∙ ap (λ n. c.put.new.self ++ printed_atom (Symbol n false)) c.bytes.ensures) in
    let opened = onto old _ _ _ (32 ∷ (40 ∷ (41 ∷ (32 ∷ [])))) symbols c.in_ok-put-2.ensures.ok in
    let all = onto old _ _ _ sort opened c.in_ok-put_sort.ensures in
    ok_same c.put-3.result _ _ _ (ap (λ x. x ++ 41 ∷ []) all ∙ append_assoc old _ _ ∙ ap (λ x. old ++ x) (sort_pieces w name sort)) c.put-3.ensures.ok
