use Rattle.smv_text.specs.View.{plain_source}
use Rattle.library_cases.proofs.values.checked.Goals as goal

pub returns : goal.returns
returns c = c.accepted_is_checked.ensures (plain_source c.args.source.now) 0 c.in_ok-flat.ensures.passes
