use Rattle.std.proofs.Common.{◌≡◌, length}
use Rattle.btor_simplify.specs.Fates.{AreFates, HasContents}
use Rattle.btor_simplify.proofs.fates.fates_of.Given as goal

abbrev pub invariant-loop-line : goal.invariant-loop-line
invariant-loop-line l =
    record { known : AreFates l.nodes l.fates.items; has : HasContents l.nodes l.fates.items l.contents; long : length l.fates.items ≡ l.line-index }
