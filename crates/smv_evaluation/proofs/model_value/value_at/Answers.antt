use Rattle.std.proofs.Common.{◌≡◌, map, ap, ◌∙◌, sym, true}
use Rattle.smv_text.specs.View.{plain, plain_source}
use Rattle.smv_meaning.specs.Values.{given}
use Rattle.smv_meaning.specs.Instances.{instances_of}
use Rattle.smv_meaning.specs.Owed.{instance_number}
use Rattle.smv_meaning.specs.Literals.{words_fit}
use Rattle.smv_meaning.specs.Checked.{all_trees}
use Rattle.smv_instances.specs.View.{instance_plain}
use Rattle.smv_evaluation.proofs.ValueAt.{asked_at, asked_in, other_value}
use Rattle.smv_evaluation.proofs.model_value.value_at.Goals as goal

pub value_in_table-requires : goal.value_in_table-requires
value_in_table-requires c =
    let t = instances_of (plain_source c.args.source.now) in
    let ts = c.in_ok-table.table in
    let ep : map instance_plain c.in_ok-parts.parts.items ≡ t = c.in_ok-parts.ensures in
    let et : map instance_plain ts ≡ t = ap (map instance_plain) c.in_ok-table.ensures ∙ ep in
    let k = instance_number t c.args.instance.now in
    let ei : c.number_of-i.result ≡ k = c.number_of-i.ensures ∙ ap (λ u. instance_number u c.bytes.result.now) (ap (map instance_plain) c.as_slice-2.ensures.value ∙ ep) ∙ ap (instance_number t) c.bytes.ensures in
    let words : all_trees words_fit t ≡ true = ap (all_trees words_fit) (sym (ap (map instance_plain) c.as_slice.ensures.value ∙ ep)) ∙ c.literals_are_words.ensures in
    asked_at ts t c.number_of-i.result k (plain c.args.expr.now) (given c.args.now.now) c.args.label c.args.following et ei
    (record { checked = c.requires.checked; words = words; occurs = c.requires.occurs; reach = c.requires.labelled; now_fits = c.requires.now_given; label_fits = c.requires.label_given; next_fits = c.requires.following_given })

pub returns : goal.returns
returns c =
    let t = instances_of (plain_source c.args.source.now) in
    let ts = c.in_ok-table.table in
    let ep : map instance_plain c.in_ok-parts.parts.items ≡ t = c.in_ok-parts.ensures in
    let et : map instance_plain ts ≡ t = ap (map instance_plain) c.in_ok-table.ensures ∙ ep in
    let k = instance_number t c.args.instance.now in
    let ei : c.number_of-i.result ≡ k = c.number_of-i.ensures ∙ ap (λ u. instance_number u c.bytes.result.now) (ap (map instance_plain) c.as_slice-2.ensures.value ∙ ep) ∙ ap (instance_number t) c.bytes.ensures in
    other_value c.value_in_table.result _ _
    (asked_in ts (plain_source c.args.source.now) c.number_of-i.result k (plain c.args.expr.now) (given c.args.now.now) c.args.label c.args.following et ei)
    c.value_in_table.ensures
