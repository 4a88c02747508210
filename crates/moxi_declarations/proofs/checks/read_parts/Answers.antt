use Rattle.std.proofs.Common.{[], refl, ap, ◌∙◌}
use Rattle.moxi_sexpr.specs.Tree.{plain_forms}
use Rattle.moxi_scripts.specs.declared.parts.Turn.TheVariants.{AtKeyword}
use Rattle.moxi_scripts.specs.Collecting.{also}
use Rattle.moxi_scripts.specs.Labels.{labels_after, labels_failures, no_labels}
use Rattle.moxi_scripts.specs.QueryReading.{all_queries_failures, queries_after}
use Rattle.moxi_attributes.specs.laws.Collecting.{also_two}
use Rattle.moxi_declarations.proofs.checks.read_parts.Goals as goal

pub returns-in-Ok-clause-lists : goal.returns-in-Ok-clause-lists
returns-in-Ok-clause-lists c = c.in_ok-v.ensures.lists

pub returns-in-Ok-clause-labels : goal.returns-in-Ok-clause-labels
returns-in-Ok-clause-labels c =
    let ts = plain_forms c.args.forms.now in
    c.in-Ok.ensures.labels ∙ ap (λ ls. labels_after c.args.scope.now ls no_labels AtKeyword ts) c.in_ok-v.ensures.locals

pub returns-in-Ok-clause-queries : goal.returns-in-Ok-clause-queries
returns-in-Ok-clause-queries c =
    let ts = plain_forms c.args.forms.now in
    c.in-Ok.ensures.queries ∙ ap (λ ls. queries_after (labels_after c.args.scope.now ls no_labels AtKeyword ts) AtKeyword ts) c.in_ok-v.ensures.locals

pub returns-in-Ok-clause-adds : goal.returns-in-Ok-clause-adds
returns-in-Ok-clause-adds c = c.in_ok-v.ensures.adds

pub returns-in-Ok-clause-finds : goal.returns-in-Ok-clause-finds
returns-in-Ok-clause-finds c =
    let s = c.args.scope.now in
    let ts = plain_forms c.args.forms.now in
    let found = c.read_variables.new.found in
    also_two _ _ _ _ _ (also_two _ _ _ _ _ c.in_ok-v.ensures.finds refl)
    (c.in-Ok.ensures.finds ∙ ap (λ ls. also (also found (labels_failures s ls no_labels AtKeyword ts)) (all_queries_failures (labels_after s ls no_labels AtKeyword ts) [] AtKeyword ts)) c.in_ok-v.ensures.locals)
