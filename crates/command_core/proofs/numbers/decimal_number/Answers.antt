use Rattle.std.proofs.Common.{◌∙◌, sym, slice_index_or, arith}
use Rattle.command_core.proofs.Decimals.{low_digit, room}
use Rattle.command_core.proofs.numbers.decimal_number.Goals as goal

pub overflow_mul-number : goal.overflow_mul-number
overflow_mul-number c = omega (arith, room c.loop-b.number c.loop-b.b-index c.loop-b.invariant.bound (omega arith))

pub overflow_add-number : goal.overflow_add-number
overflow_add-number c =
    let few = room c.loop-b.number c.loop-b.b-index c.loop-b.invariant.bound (omega arith) in
    let low = low_digit (slice_index_or c.args.text.now c.loop-b.b-index 0) (sym c.is_digit.ensures ∙ c.if-not-is_digit.false) in
    omega (arith, c.from.ensures)
