use Rattle.std.proofs.Common.{◌<◌, ℕ, false, List, [], ◌∷◌, ◌++◌, map, length, ap, sym, ◌∙◌, append_assoc, arith}
use Rattle.moxi_sexpr.specs.declared.form.Atom.TheVariants.{Symbol}
use Rattle.moxi_sexpr.specs.Printing.{printed_atom}
use Rattle.moxi_terms.specs.Tree.{trees_of}
use Rattle.moxi_terms.specs.View.{plain}
use Rattle.moxi_term_print.specs.Shown.{parts_text}
use Rattle.moxi_term_print.specs.Terms.{shown_terms}
use Rattle.moxi_term_print.proofs.TextLaws.{ok_same, onto, call_text}
use Rattle.moxi_term_print.proofs.terms.+put.Goals as goal
use Rattle.text_core.specs.Bytes.{bytes_behind}

pub put_call-returns-clause-text : goal.put_call-returns-clause-text
put_call-returns-clause-text t c =
    let s = c.args.scene.scope.now in
    let vars = map bytes_behind c.args.scene.variables.now in
    let bounds = map bytes_behind c.args.bound.now.items in
    let ts = c.args.terms.now in
    let some : 0 < length ts = grind (arith, c.is_empty.ensures, c.if-is_empty.false) in
    let name : List ℕ = printed_atom (Symbol c.args.name.now false) in
    let parts : List ℕ = parts_text (32 ∷ []) (shown_terms s vars bounds (trees_of (map plain ts))) in
    let two = onto c.args.out.now _ _ (40 ∷ []) name c.in_ok-put_byte.ensures.ok c.in_ok-put_symbol.ensures in
    let three = onto c.args.out.now _ _ (40 ∷ name) parts two c.in_ok-put_trees.ensures.text in
    ok_same c.put_byte-2.result _ _ _
    (ap (λ x. x ++ 41 ∷ []) three ∙ append_assoc c.args.out.now (40 ∷ (name ++ parts)) (41 ∷ []) ∙ ap (λ x. c.args.out.now ++ x) (sym (call_text s vars bounds c.args.name.now ts some)))
    c.put_byte-2.ensures.ok
