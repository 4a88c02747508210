use Rattle.std.proofs.Common.{refl, sym, option_map}
use Rattle.smv_text.specs.View.{plain_item, plain_domain}
use Rattle.smv_intervals.specs.View.{seen}
use Rattle.smv_model_types.proofs.DomainLemmas.{typed}
use Rattle.smv_model_types.proofs.Actuals.{variable_adds}
use Rattle.smv_model_types.proofs.building.add_item.Goals as goal

pub returns-in_ok-push-in-Ok-clause-adds : goal.returns-in_ok-push-in-Ok-clause-adds
returns-in_ok-push-in-Ok-clause-adds c = λ t i kind.
    variable_adds t i kind (plain_item c.args.item.now) c.in-Ok.ty c.args.built.now _ (sym c.if-not-is_instance.ensures)
    (typed (plain_domain c.args.item.now.domain) (option_map seen c.in-Ok.ty) c.in-Ok.ensures.0 c.in-Ok.ensures.1) c.in_ok-push-in-Ok.ensures.items refl refl refl refl
