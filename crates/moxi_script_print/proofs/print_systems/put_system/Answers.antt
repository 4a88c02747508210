use Rattle.std.proofs.Common.{ℕ, List, [], ◌∷◌, ◌++◌, ap, ◌∙◌, map}
use Rattle.std.specs.Prelude.{codes}
use Rattle.moxi_terms.specs.View.{plain}
use Rattle.moxi_term_print.specs.Shown.{parts_text, text_of}
use Rattle.moxi_term_print.specs.Terms.{symbol, variable_names}
use Rattle.moxi_script_print.specs.Printing.{shown_lists, shown_formulas, shown_subsystems}
use Rattle.moxi_scripts.specs.Script.{plain_system, variables_in}
use Rattle.moxi_script_print.proofs.Pieces.{system_end}
use Rattle.moxi_script_print.proofs.print_systems.put_system.Goals as goal
use Rattle.moxi_term_print.proofs.TextLaws.{ok_same, onto}
use Rattle.text_core.specs.Bytes.{bytes_behind}

pub returns : goal.returns
returns c =
    let old = c.args.out.now in
    let s = c.args.scope.now in
    let x = c.args.system.now in
    let w : List ℕ = codes "define-system" in
    let vars = variable_names (variables_in (plain_system x)) in
    let systems = map bytes_behind c.args.systems.now in
    let lists = shown_lists s x.inputs x.outputs x.locals in
    let formulas = shown_formulas s vars (plain x.init) (plain x.trans) (plain x.inv) in
    let names = ap (map bytes_behind) c.deref.ensures.value ∙ c.in_ok-variables.ensures in
    let names_again = ap (map bytes_behind) c.deref-2.ensures.value ∙ c.in_ok-variables.ensures in
    let first = c.in_ok-put_head.ensures ∙ ap (λ n. old ++ 40 ∷ (w ++ 32 ∷ text_of (symbol n))) c.bytes.ensures in
    let second = onto old _ _ _ (parts_text (32 ∷ []) lists) first c.in_ok-put_lists.ensures in
    let third = onto old _ _ _ (parts_text (32 ∷ []) formulas) second
    (c.in_ok-put_formulas.ensures ∙ ap (λ vs. c.put_lists.new.out ++ parts_text (32 ∷ []) (shown_formulas s vs (plain x.init) (plain x.trans) (plain x.inv))) names) in
    let fourth = onto old _ _ _ (parts_text (32 ∷ []) (shown_subsystems systems vars x.subsystems)) third
    (c.in_ok-put_subsystems.ensures ∙ ap (λ vs. c.put_formulas.new.out ++ parts_text (32 ∷ []) (shown_subsystems systems vs x.subsystems)) names_again) in
    ok_same c.put.result _ _ _ (system_end old w x.name lists formulas (shown_subsystems systems vars x.subsystems) c.put_subsystems.new.out fourth) c.put.ensures.ok
