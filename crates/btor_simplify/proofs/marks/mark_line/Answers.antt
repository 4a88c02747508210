use Rattle.std.proofs.Common.{◌<◌, sym, ◌∙◌, arith, length, length-set}
use Rattle.btor_simplify.proofs.Marking.{can_mark, constant_marked, operator_marked, skipped, left_cases, left_out, fate_read}
use Rattle.btor_simplify.proofs.marks.mark_line.Goals as goal

pub returns-then-is_left_out : goal.returns-then-is_left_out
returns-then-is_left_out c =
    let h = left_out c.at-line.result.now.op _ (sym c.is_left_out.ensures ∙ c.if-is_left_out.true) in
    skipped c.args.nodes.now c.args.fates.now c.args.i c.at-line.result.now c.requires.known c.at-line.ensures c.args.marks.now c.requires.marked h.0 h.1

pub returns-in-Constant : goal.returns-in-Constant
returns-in-Constant c =
    let s = left_cases c.at-line.result.now.op _ (sym c.is_left_out.ensures ∙ c.if-is_left_out.false) in
    let lt : c.args.i < length c.args.fates.now = omega (arith, c.requires.inside, c.requires.known.sized) in
    constant_marked c.args.nodes.now c.args.fates.now c.args.i c.at-line.result.now c.requires.known c.at-line.ensures c.args.marks.now c.requires.marked s c.in-Constant.field-0
    (fate_read c.args.fates.now c.args.i c.index-fates-i.result lt c.index-fates-i.is ∙ c.in-Constant.is)

pub returns-in_default : goal.returns-in_default
returns-in_default c =
    let s = left_cases c.at-line.result.now.op _ (sym c.is_left_out.ensures ∙ c.if-is_left_out.false) in
    let lt : c.args.i < length c.args.fates.now = omega (arith, c.requires.inside, c.requires.known.sized) in
    let fate = fate_read c.args.fates.now c.args.i c.index-fates-i.result lt c.index-fates-i.is in
    operator_marked c.args.nodes.now c.args.fates.now c.args.i c.at-line.result.now c.requires.known c.at-line.ensures c.args.marks.now c.requires.marked s (λ w e. c.in_default.not-Constant w (sym fate ∙ e)) c.mark_args.new.marks c.mark_args.ensures

pub mark_args-requires : goal.mark_args-requires
mark_args-requires c =
    can_mark c.args.nodes.now c.args.fates.now _ c.args.i c.at-line.result.now c.requires.known c.at-line.ensures (length-set c.args.marks.now c.args.i _ ∙ c.requires.marked.sized)
