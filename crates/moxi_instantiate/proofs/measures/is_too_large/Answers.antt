use Rattle.std.proofs.Common.{◌∙◌}
use Rattle.moxi_scripts.specs.ScriptView.{plain_script}
use Rattle.moxi_instantiate.proofs.Measured.{tests_are}
use Rattle.moxi_instantiate.proofs.measures.is_too_large.Goals as goal

pub returns : goal.returns
returns c =
    let m = c.in_ok-measures.measures in
    c.passes.ensures ∙ tests_are (plain_script c.args.script.now) m.size m.height m.nesting c.in_ok-measures.ensures.size c.in_ok-measures.ensures.height c.in_ok-measures.ensures.nesting
