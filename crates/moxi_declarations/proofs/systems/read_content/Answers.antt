use Rattle.moxi_attributes.specs.laws.Collecting.{also_two}
use Rattle.std.proofs.Common.{refl, ap, ◌∙◌}
use Rattle.moxi_sexpr.specs.Tree.{plain_forms}
use Rattle.moxi_scripts.specs.Systems.{content_of}
use Rattle.moxi_declarations.proofs.systems.read_content.Goals as goal

pub returns-in_ok-system-in-Ok-clause-system : goal.returns-in_ok-system-in-Ok-clause-system
returns-in_ok-system-in-Ok-clause-system c = c.in_ok-system-in-Ok.ensures.system ∙ ap (λ n. content_of c.args.scope.now n (plain_forms c.args.forms.now)) c.in_ok-name.ensures

pub returns-in_ok-system-in-Ok-clause-adds : goal.returns-in_ok-system-in-Ok-clause-adds
returns-in_ok-system-in-Ok-clause-adds c = c.in-Ok.ensures.adds

pub returns-in_ok-system-in-Ok-clause-finds : goal.returns-in_ok-system-in-Ok-clause-finds
returns-in_ok-system-in-Ok-clause-finds c = also_two _ _ _ _ _ (also_two _ _ _ _ _ c.in-Ok.ensures.finds refl) c.in_ok-system-in-Ok.ensures.finds
