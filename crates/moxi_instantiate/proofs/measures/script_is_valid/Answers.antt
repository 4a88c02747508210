use Rattle.std.proofs.Math.Logic.{∥∥₁_map}
use Rattle.moxi_scripts.specs.Invariant.{IsSpelled}
use Rattle.moxi_scripts.specs.ScriptView.{plain_script}
use Rattle.moxi_instantiate.proofs.measures.script_is_valid.Goals as goal

pub returns : goal.returns
returns c =
    let s = plain_script c.args.script.now in
    ∥∥₁_map c.args.script.now.spelled (λ (i : IsSpelled (plain_script c.args.script.now)). c.spelled_scripts_are_valid.ensures i.forms i.end s i.spelled)
