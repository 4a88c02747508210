use Rattle.std.proofs.Common.{IsTrue, List, map, sym, ap, ◌∙◌, subst}
use Rattle.smv_meaning.specs.declared.value.Given.{Given}
use Rattle.smv_meaning.specs.Values.{given}
use Rattle.smv_meaning.specs.Instances.{instances_of}
use Rattle.smv_meaning.specs.Runs.{label_fits}
use Rattle.smv_items.specs.declared.items.FlatItem.{FlatItem}
use Rattle.smv_items.specs.FlatItemView.{item_plain}
use Rattle.smv_judge.specs.Labels.{first_label}
use Rattle.smv_judge.specs.Models.{AllListed}
use Rattle.smv_judge.proofs.ListedLaws.{run_listed}
use Rattle.smv_judge.proofs.StepLaws.{own_label}
use Rattle.smv_judge.proofs.judge.judge_rows.Goals as goal

pub judge_parts-requires-clause-label : goal.judge_parts-requires-clause-label
judge_parts-requires-clause-label g c = λ source k.
    subst (λ (g : List Given). IsTrue (label_fits (instances_of source) (given g))) (sym c.in_ok-label.ensures) (own_label _ source k)

pub judge_parts-requires-clause-judgeable : goal.judge_parts-requires-clause-judgeable
judge_parts-requires-clause-judgeable g c = λ order same is.
    let items = c.parts-parts.ensures.items in
    subst (λ (ms : List FlatItem). AllListed (map item_plain ms) c.args.run.now.states c.args.run.now.labels c.in_ok-label.label) (sym items)
    (run_listed _ c.requires.model.0 c.requires.model.1 c.args.run.now c.in_ok-label.label (c.in_ok-label.ensures ∙ ap (λ (ms : List FlatItem). first_label (map item_plain ms)) items) (c.requires.listed (sym same ∙ is)))
