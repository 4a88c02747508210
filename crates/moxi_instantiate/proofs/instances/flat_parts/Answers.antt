use Rattle.std.proofs.Common.{◌≡◌, ◌∙◌, ◌++◌, ◌+◌, length, map, ap}
use Rattle.moxi_scripts.specs.Script.{plain_system}
use Rattle.moxi_scripts.specs.ScriptView.{plain_script}
use Rattle.moxi_scripts.specs.Valid.{check_variables}
use Rattle.moxi_flat.specs.FlatSystem.{parts_upto}
use Rattle.moxi_instantiate.specs.Copying.{number_in}
use Rattle.moxi_instantiate.specs.PlainParts.{plain_part}
use Rattle.moxi_instantiate.proofs.Agreeing.{own_parts}
use Rattle.moxi_flat.proofs.Alike.{renumbers_consistently_law}
use Rattle.moxi_instantiate.proofs.instances.flat_parts.Goals as goal

pub returns : goal.returns
returns c =
    let ss = map plain_system c.args.script.now.systems in
    let i = c.args.script.now.check.system in
    let own = length (check_variables (plain_script c.args.script.now).check) in
    let count = c.len.result + c.len-2.result + c.len-3.result in
    let counted : c.len.result + c.len-2.result + c.len-3.result ≡ length (check_variables (plain_script c.args.script.now).check) =
    ap (λ k. k + c.len-2.result + c.len-3.result) c.len.ensures ∙ ap (λ k. length c.args.script.now.check.inputs + k + c.len-3.result) c.len-2.ensures
    ∙ ap (λ k. length c.args.script.now.check.inputs + length c.args.script.now.check.outputs + k) c.len-3.ensures ∙ c.script_is_over_variables.ensures.count in
    c.in_ok-add_parts.ensures.parts
    ∙ ap (λ ps. map plain_part ps ++ parts_upto ss (length ss) (number_in c.deref.result.now) count i) c.new-parts.ensures
    ∙ own_parts ss renumbers_consistently_law c.script_is_over_variables.ensures.over i own count c.new-actuals.result c.deref.result.now c.script_is_ranked.ensures.there c.script_is_over_variables.ensures.long
    c.new-actuals.ensures (λ v l. ap (λ xs. number_in xs v) c.deref.ensures.value ∙ c.in_ok-places.ensures.places v l) counted
