use Rattle.std.proofs.Common.{◌≡◌, ◌∷◌, ◌++◌, take, map}
use Rattle.std.specs.Prelude.{codes}
use Rattle.btor_witness.specs.Sizes.{sizes_of}
use Rattle.btor_witness.specs.Printing.{number_line, frames_text, rising_frame}
use Rattle.btor_witness.proofs.print.print_witness.Given as goal

abbrev pub invariant-loop-number : goal.invariant-loop-number
invariant-loop-number l =
    l.out ≡ codes "sat" ++ 10 ∷ (number_line 98 l.witness.bad ++ frames_text 0 (map (rising_frame (sizes_of l.nodes)) (take l.number l.witness.frames)))
