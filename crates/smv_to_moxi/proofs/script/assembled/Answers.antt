use Rattle.std.proofs.Common.{◌∙◌, ◌++◌, ◌∷◌, [], ap, Some}
use Rattle.moxi_scripts.specs.Invariant.{script_of}
use Rattle.smv_to_moxi.proofs.script.assembled.Goals as goal
use Rattle.moxi_script_print.proofs.Assembled.{spelled_by}

pub invariant_of-result : goal.invariant_of-result
invariant_of-result c = record {
  spelled = spelled_by _ _
      (ap (λ o. script_of (Some c.args.logic) o c.push.new.self c.args.check) c.replace-scope.ensures.value
      ∙ ap (λ ss. script_of (Some c.args.logic) c.args.scope.now ss c.args.check) (c.in_ok-push.ensures.ok ∙ ap (λ ss. ss ++ c.args.system ∷ []) c.new-systems.ensures))
      c.requires;
}

pub returns : goal.returns
returns c =
    ap (λ o. script_of (Some c.args.logic) o c.push.new.self c.args.check) c.replace-scope.ensures.value
    ∙ ap (λ ss. script_of (Some c.args.logic) c.args.scope.now ss c.args.check) (c.in_ok-push.ensures.ok ∙ ap (λ ss. ss ++ c.args.system ∷ []) c.new-systems.ensures)
