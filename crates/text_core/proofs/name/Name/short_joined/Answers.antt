use Rattle.text_core.proofs.Joining.{placed}
use Rattle.text_core.proofs.name.Name.short_joined.Goals as goal

pub returns : goal.returns
returns c =
    placed c.args.first.now c.args.second.now c.copy_from_slice.new.self c.copy_from_slice-2.new.self _ _ c.copy_from_slice.ensures.after c.copy_from_slice-2.ensures.after
