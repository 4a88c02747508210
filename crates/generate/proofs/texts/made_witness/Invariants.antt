use Rattle.std.proofs.Common.{◌≡◌, ◌∷◌, map}
use Rattle.std.specs.Prelude.{codes}
use Rattle.std.specs.List.{flat_map}
use Rattle.generate.specs.Made.{below, frame_lines, lines_text, true_line}
use Rattle.generate.proofs.texts.made_witness.Given as goal

abbrev pub invariant-loop-i : goal.invariant-loop-i
invariant-loop-i l = record {
  text : l.text ≡ lines_text (codes "sat" ∷ codes "b0" ∷ flat_map (frame_lines l.n) (below l.i));
  cells : l.cells ≡ lines_text (map true_line (below l.i));
}
