use Rattle.std.proofs.Common.{◌≡◌, ℕ, List, [], ◌∷◌, ◌++◌, length, sym, ◌∙◌, subst, arith, append-nil}
use Rattle.std.specs.List.{flat_map}
use Rattle.btor_tree.specs.declared.lines.Line.{Line}
use Rattle.btor_tree.specs.Printing.{line_text, printed}
use Rattle.btor_tree.specs.Texts.{SpellsLines}
use Rattle.btor_tree.proofs.Printed.{printed_spells}
use Rattle.btor_text.proofs.print.print_btor.Goals as goal

none_left : (f : Line → List ℕ) (rest : List Line) (out total : List ℕ) → length rest ≡ 0 → out ++ flat_map f rest ≡ total → out ≡ total
none_left f [] out total h e = sym (append-nil out) ∙ e
none_left f (l ∷ ls) out total h e = absurd (omega (arith, h))

pub returns-clause-spells : goal.returns-clause-spells
returns-clause-spells c =
    let lines = c.args.nodes.now in
    let text : c.loop-line.out ≡ printed lines = none_left (line_text lines) _ c.loop-line.out _ c.in-None.ensures.steps.0 c.loop-line.invariant in
    subst (λ t. SpellsLines t lines) (sym text) (printed_spells lines c.are_well_formed.ensures)
