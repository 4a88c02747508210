use Rattle.std.proofs.Common.{◌≡◌, IfOk, sym, subst}
use Rattle.moxi_lines.specs.Lines.{with_free}
use Rattle.moxi_to_btor.specs.Putting.{CanPutFree}
use Rattle.text_core.proofs.Joining.{placed}
use Rattle.moxi_to_btor.proofs.lines.put_free_short.Goals as goal

pub put_free-requires : goal.put_free-requires
put_free-requires c =
    subst (CanPutFree c.args.builder.now c.args.op c.args.width)
    (sym (placed c.args.name.now c.args.more.now c.copy_from_slice.new.self c.copy_from_slice-2.new.self _ _ c.copy_from_slice.ensures.after c.copy_from_slice-2.ensures.after)) c.requires.free

pub returns : goal.returns
returns c =
    subst (λ l. IfOk c.put_free.result (λ p. (c.put_free.new.builder, p) ≡ with_free c.args.builder.now c.args.op c.args.width l))
    (placed c.args.name.now c.args.more.now c.copy_from_slice.new.self c.copy_from_slice-2.new.self _ _ c.copy_from_slice.ensures.after c.copy_from_slice-2.ensures.after) c.put_free.ensures
