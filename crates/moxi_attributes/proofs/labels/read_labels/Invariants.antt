use Rattle.std.proofs.Common.{◌≡◌, ◌<◌, ◌^◌, drop}
use Rattle.moxi_sexpr.specs.Tree.{all_nodes, plain_forms}
use Rattle.moxi_scripts.specs.declared.parts.Turn.TheVariants.{AtKeyword}
use Rattle.moxi_scripts.specs.Collecting.{also}
use Rattle.moxi_scripts.specs.Labels.{labels_after, labels_failures}
use Rattle.moxi_attributes.specs.Views.{plain_labels}
use Rattle.moxi_attributes.proofs.labels.read_labels.Given as goal

abbrev pub invariant-loop-form : goal.invariant-loop-form
invariant-loop-form l = record {
  few : all_nodes (plain_forms (drop l.form-index l.forms)) < 2 ^ 32;
  labels : labels_after l.scope l.locals (plain_labels l.ls) l.turn (plain_forms (drop l.form-index l.forms)) ≡ labels_after l.scope l.locals (plain_labels l.fn.ls) AtKeyword (plain_forms l.forms);
  finds : also l.found (labels_failures l.scope l.locals (plain_labels l.ls) l.turn (plain_forms (drop l.form-index l.forms))) ≡ also l.fn.found (labels_failures l.scope l.locals (plain_labels l.fn.ls) AtKeyword (plain_forms l.forms));
}
