use Rattle.text_core.proofs.Joining.{dotted}
use Rattle.text_core.proofs.name.Name.short_dotted.Goals as goal

pub returns : goal.returns
returns c =
    dotted c.args.path.now c.args.name.now c.copy_from_slice.new.self c.copy_from_slice-2.new.self _ c.requires c.copy_from_slice.ensures.after c.copy_from_slice-2.ensures.after
