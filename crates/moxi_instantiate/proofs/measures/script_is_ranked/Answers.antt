use Rattle.std.proofs.Common.{length}
use Rattle.std.proofs.Math.Logic.{∥∥₁_map}
use Rattle.moxi_scripts.specs.Invariant.{IsSpelled}
use Rattle.moxi_scripts.specs.ScriptView.{plain_script}
use Rattle.moxi_instantiate.proofs.Measured.{lt_held, ranked_of}
use Rattle.moxi_flat.proofs.Enough.{nesting_falls_law, systems_bound_nesting_law}
use Rattle.moxi_flat.proofs.Alike.{systems_are_over_variables_law}
use Rattle.moxi_instantiate.proofs.measures.script_is_ranked.Goals as goal

pub returns-clause-ranked : goal.returns-clause-ranked
returns-clause-ranked c =
    let s = plain_script c.args.script.now in
    ∥∥₁_map c.args.script.now.spelled
    (λ (i : IsSpelled (plain_script c.args.script.now)).
    ranked_of nesting_falls_law systems_bound_nesting_law systems_are_over_variables_law s (c.spelled_scripts_are_valid.ensures i.forms i.end s i.spelled))

pub returns-clause-there : goal.returns-clause-there
returns-clause-there c =
    let s = plain_script c.args.script.now in
    lt_held c.args.script.now.check.system (length s.systems)
    (∥∥₁_map c.args.script.now.spelled (λ (i : IsSpelled (plain_script c.args.script.now)). (c.spelled_scripts_are_valid.ensures i.forms i.end s i.spelled).check.there))
