use Rattle.std.proofs.Common.{ℕ, List, [], ◌∷◌, ◌++◌, ap, ◌∙◌, map}
use Rattle.std.specs.Prelude.{codes}
use Rattle.moxi_term_print.specs.Shown.{parts_text, text_of}
use Rattle.moxi_term_print.specs.Terms.{name_at, symbol, variable_names}
use Rattle.moxi_script_print.specs.Printing.{shown_conditions, shown_lists}
use Rattle.moxi_scripts.specs.Script.{plain_check}
use Rattle.moxi_script_print.proofs.Pieces.{check_end}
use Rattle.moxi_script_print.proofs.print_checks.put_check.Goals as goal
use Rattle.moxi_scripts.specs.Valid.{check_variables}
use Rattle.moxi_term_print.proofs.TextLaws.{ok_same, onto}
use Rattle.text_core.specs.Bytes.{bytes_behind}

pub returns : goal.returns
returns c =
    let old = c.args.out.now in
    let s = c.args.scope.now in
    let x = plain_check c.args.check.now in
    let w : List ℕ = codes "check-system" in
    let vars = variable_names (check_variables x) in
    let systems = map bytes_behind c.args.systems.now in
    let lists = shown_lists s x.inputs x.outputs x.locals in
    let names = ap (map bytes_behind) c.deref.ensures.value ∙ c.in_ok-variables.ensures in
    let first = c.in_ok-put_head.ensures ∙ ap (λ n. old ++ 40 ∷ (w ++ 32 ∷ text_of (symbol n))) c.name_in.ensures in
    let second = onto old _ _ _ (parts_text (32 ∷ []) lists) first c.in_ok-put_lists.ensures in
    let third = onto old _ _ _ (parts_text (32 ∷ []) (shown_conditions s vars x)) second
    (c.in_ok-put_conditions.ensures ∙ ap (λ vs. c.put_lists.new.out ++ parts_text (32 ∷ []) (shown_conditions s vs x)) names) in
    ok_same c.put.result _ _ _ (check_end old w (name_at systems x.system) lists (shown_conditions s vars x) c.put_conditions.new.out third) c.put.ensures.ok
