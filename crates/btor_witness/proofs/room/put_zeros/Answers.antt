use Rattle.std.proofs.Common.{◌<◌, length, take, map, set, sym, ap, ◌∙◌, subst, arith, ◌≡◌, get_or}
use Rattle.btor_witness.specs.Printing.{IsBelow}
use Rattle.btor_witness.specs.Room.{ArePut, zeroed, zero_of}
use Rattle.btor_witness.proofs.Tables.{all_at}
use Rattle.btor_witness.proofs.Statements.{put_more, one_zero_more}
use Rattle.btor_witness.proofs.room.put_zeros.Goals as goal

pub loop-statement-preserved : goal.loop-statement-preserved
loop-statement-preserved c =
    let stated = c.args.stated.now in
    let s = c.statement-item.result in
    let lt : c.loop-statement.statement-index < length stated = omega (arith, c.loop-statement-test.true, ap length c.as_slice-statement-items.ensures) in
    let at : get_or stated c.loop-statement.statement-index s ≡ s =
    ap (λ xs. get_or xs c.loop-statement.statement-index s) (sym c.as_slice-statement-items.ensures) ∙ sym c.statement-item.is in
    let below : s.index < length c.args.words.now = all_at (IsBelow (length c.args.words.now)) stated c.loop-statement.statement-index s c.requires.below lt at in
    let e = c.set.ensures ∙ ap (λ x. set c.loop-statement.words s.index x) (c.zero_of.ensures ∙ ap zero_of c.width.ensures.value) in
    let more = put_more (map zeroed (take c.loop-statement.statement-index stated)) (zeroed s) c.args.words.now c.loop-statement.words c.set.new.self c.loop-statement.invariant (omega (arith, below, c.loop-statement.invariant.sized)) e in
    subst (λ xs. ArePut xs c.args.words.now c.set.new.self) (sym (one_zero_more stated c.loop-statement.statement-index s lt at)) more
