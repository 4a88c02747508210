use Rattle.std.proofs.Common.{FitsSigned, ◌-ℤ◌, rules}
use Rattle.std.specs.Int.{w64}
use Rattle.std.proofs.lemmas.Int.{to_z-of_z}
use Rattle.smv_intervals.proofs.Ends.{over_kept}
use Rattle.smv_intervals.proofs.intervals.difference_type.Goals as goal

pub returns-in-Integer-u : goal.returns-in-Integer-u
returns-in-Integer-u c =
    let f : FitsSigned w64 c.in-Integer.low = search rules in
    let g : FitsSigned w64 c.in-Integer.high = search rules in
    let h : FitsSigned w64 c.in-Integer-u.less = search rules in
    let k : FitsSigned w64 c.in-Integer-u.more = search rules in
    rw (c.in-Integer.is, c.in-Integer-u.is) (
    over_kept (λ a b. a -ℤ b) c.over_four.result c.in-Integer.low c.in-Integer.high c.in-Integer-u.less c.in-Integer-u.more _ _ _ _
    (simp to_z-of_z at c.difference.ensures) (simp to_z-of_z at c.difference-in-Integer-u.ensures) (simp to_z-of_z at c.difference-in-Integer-u-2.ensures) (simp to_z-of_z at c.difference-in-Integer-u-3.ensures)
    (search rules)
    )
