use Rattle.std.proofs.Common.{[], ◌∷◌, map, sym, ap, ◌∙◌}
use Rattle.smv_text.specs.View.{plain_module}
use Rattle.smv_meaning.specs.Instances.{module_named, main_name}
use Rattle.smv_meaning.specs.Checks.{first_failing}
use Rattle.smv_meaning.specs.Phases.{name_checks, main_check}
use Rattle.smv_names.proofs.module_names.modules_checked.Goals as goal
use Rattle.smv_meaning.specs.laws.Composing.{goes}

pub returns : goal.returns
returns c =
    let ms = map plain_module c.args.source.now.modules in
    goes (name_checks [] ms) (main_check c.args.source.now.end (module_named ms main_name) ∷ []) c.in-Ok.ensures
    ∙ ap (λ t. first_failing (main_check c.args.source.now.end (module_named (map plain_module t) main_name) ∷ [])) (sym c.in_ok-table.ensures) ∙ sym c.in-Some.ensures
