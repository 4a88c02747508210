use Rattle.std.proofs.Common.{◌∙◌, ap}
use Rattle.moxi_terms.specs.View.{plain}
use Rattle.moxi_instantiate.specs.PlainParts.{plain_part}
use Rattle.moxi_lines.specs.Lines.{with_inv, with_trans}
use Rattle.moxi_to_btor.proofs.Giving.{ok_same}
use Rattle.moxi_to_btor.proofs.PartSteps.{part_init, part_inv, part_trans}
use Rattle.moxi_to_btor.proofs.parts.put_part.Goals as goal

pub put_init-requires : goal.put_init-requires
put_init-requires c = part_init c.args.scope.now c.args.inputs.now c.args.builder.now (plain_part c.args.part.now) c.requires

pub put_trans-requires : goal.put_trans-requires
put_trans-requires c = part_trans c.args.scope.now c.args.inputs.now c.args.builder.now (plain_part c.args.part.now) c.requires c.put_init.new.builder c.in_ok-put_init.ensures

pub put_inv-requires : goal.put_inv-requires
put_inv-requires c =
    let s = c.args.scope.now in
    let i = c.args.inputs.now in
    part_inv s i c.args.builder.now (plain_part c.args.part.now) c.requires c.put_trans.new.builder (c.in_ok-put_trans.ensures ∙ ap (λ ls. with_trans s i ls (plain c.args.part.now.trans)) c.in_ok-put_init.ensures)

pub returns : goal.returns
returns c =
    let s = c.args.scope.now in
    let i = c.args.inputs.now in
    ok_same c.put_inv.result c.put_inv.new.builder _ _ (ap (λ ls. with_inv s i ls (plain c.args.part.now.inv)) (c.in_ok-put_trans.ensures ∙ ap (λ ls. with_trans s i ls (plain c.args.part.now.trans)) c.in_ok-put_init.ensures)) c.put_inv.ensures
