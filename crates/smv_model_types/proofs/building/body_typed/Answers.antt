use Rattle.std.proofs.Common.{rules, ◌≡◌, None, Some, map}
use Rattle.std.specs.Prelude.{slice_index_or}
use Rattle.smv_text.specs.View.{plain}
use Rattle.smv_instances.specs.View.{instance_plain}
use Rattle.smv_model_types.proofs.KeptLemmas.{fewer_kept}
use Rattle.smv_model_types.proofs.building.body_typed.Goals as goal

pub returns-in-Some-clause-typed : goal.returns-in-Some-clause-typed
returns-in-Some-clause-typed c =
    let found : slice_index_or c.args.kept.now.items c.args.item None ≡ Some c.in-Some.x = search (rules, c.in-Some.ensures) in
    c.requires.kept c.args.item c.in-Some.x found c.args.reader (plain c.args.e.now) c.requires.body

pub returns-in-Some-clause-kept : goal.returns-in-Some-clause-kept
returns-in-Some-clause-kept c =
    fewer_kept (map instance_plain c.args.context.now.model.now.table.now) c.args.kept.now.items c.take_at.new.kept.items c.take_at.ensures.others c.requires.kept

pub returns-in-None-clause-kept : goal.returns-in-None-clause-kept
returns-in-None-clause-kept c =
    fewer_kept (map instance_plain c.args.context.now.model.now.table.now) c.args.kept.now.items c.take_at.new.kept.items c.take_at.ensures.others c.requires.kept
