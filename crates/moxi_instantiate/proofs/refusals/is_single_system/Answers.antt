use Rattle.std.proofs.Common.{sym, ◌∙◌}
use Rattle.moxi_scripts.specs.ScriptView.{plain_script}
use Rattle.moxi_instantiate.proofs.Single.{names_apart, tested}
use Rattle.moxi_flat.proofs.Single.{single_systems_are_flat_law}
use Rattle.moxi_instantiate.proofs.refusals.is_single_system.Goals as goal

pub returns-clause-single : goal.returns-clause-single
returns-clause-single c = tested c.args.script.now.systems c.args.script.now.check.system c.len.result c.at-checked.result.now c.script_is_ranked.ensures.there c.at-checked.ensures c.len.ensures

pub returns-clause-names : goal.returns-clause-names
returns-clause-names c e =
    names_apart single_systems_are_flat_law (plain_script c.args.script.now) c.script_is_valid.ensures
    (sym (tested c.args.script.now.systems c.args.script.now.check.system c.len.result c.at-checked.result.now c.script_is_ranked.ensures.there c.at-checked.ensures c.len.ensures) ∙ e)
