use Rattle.std.proofs.Common.{ℕ, List, ◌∷◌, ◌++◌, ap, sym, ◌∙◌}
use Rattle.std.specs.Prelude.{codes}
use Rattle.moxi_term_print.specs.Shown.{text_of, lines_text}
use Rattle.moxi_term_print.specs.Terms.{symbol}
use Rattle.moxi_script_print.specs.Printing.{shown_logic}
use Rattle.moxi_script_print.proofs.Pieces.{logic_end}
use Rattle.moxi_script_print.proofs.print.put_logic.Goals as goal
use Rattle.moxi_term_print.proofs.TextLaws.{ok_same}

pub returns-in_ok-put_head-in-Some : goal.returns-in_ok-put_head-in-Some
returns-in_ok-put_head-in-Some c =
    let old = c.args.out.now in
    let w : List ℕ = codes "set-logic" in
    let name = c.in-Some.name in
    let head = c.in_ok-put_head-in-Some.ensures ∙ ap (λ n. old ++ 40 ∷ (w ++ 32 ∷ text_of (symbol n))) c.bytes.ensures in
    ok_same c.put.result _ _ _ (logic_end old w name c.put_head.new.out head ∙ ap (λ l. old ++ lines_text (shown_logic l)) (sym c.in-Some.is)) c.put.ensures.ok
