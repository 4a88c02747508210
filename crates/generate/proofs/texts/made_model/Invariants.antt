use Rattle.std.proofs.Common.{◌≡◌, ◌∷◌, map}
use Rattle.generate.specs.Made.{below, cell_line, cell_module, lines_text, main_module}
use Rattle.generate.proofs.texts.made_model.Given as goal

abbrev pub invariant-loop-i : goal.invariant-loop-i
invariant-loop-i l = l.text ≡ lines_text (cell_module ∷ main_module ∷ map cell_line (below l.i))
