use Rattle.std.proofs.Common.{◌<◌, ◌^◌, List, map, refl, sym, ap, ◌∙◌, subst}
use Rattle.std.proofs.lemmas.List.{append-nil}
use Rattle.btor_witness.specs.declared.witness.Frame.{Frame}
use Rattle.btor_witness.specs.declared.witness.Witness.{Witness}
use Rattle.smv_items.specs.FlatItems.{PlainFlatItem}
use Rattle.smv_items.specs.FlatItemView.{item_plain}
use Rattle.smv_flatten.specs.FlatModel.{flat_plain}
use Rattle.smv_numbered.specs.Runs.{run_in}
use Rattle.trace_lower.specs.Stating.{variable_count}
use Rattle.smv_flatten.proofs.Forms.{form_is_flat}
use Rattle.trace_lower.proofs.States.{few_items, taken_are}
use Rattle.trace_lower.proofs.lower.lower_numbered.Goals as goal

pub judge_numbered_rows-requires-clause-model : goal.judge_numbered_rows-requires-clause-model
judge_numbered_rows-requires-clause-model c = (c.requires.model.0, form_is_flat c.requires.model.0 c.args.flat.now c.requires.model.1)

pub judge_numbered_rows-requires-clause-none : goal.judge_numbered_rows-requires-clause-none
judge_numbered_rows-requires-clause-none c =
    let m = c.requires.model in
    let same = ap (map item_plain) (c.as_slice.ensures ∙ c.items.ensures) in
    (subst (λ (ms : List PlainFlatItem). variable_count ms < 2 ^ 32) (sym same) (few_items m.0 (flat_plain c.args.flat.now) (form_is_flat m.0 c.args.flat.now m.1)), refl, refl, sym (append-nil c.in_ok-frames.frames))

pub returns-in-Yes-clause-lowered : goal.returns-in-Yes-clause-lowered
returns-in-Yes-clause-lowered c = λ source m.
    let h = c.in_ok-judge_numbered_rows.ensures.taken c.in-Yes.is in
    ap (λ (fs : List Frame). let w : Witness = record { bad = c.args.j; frames = fs } in w)
    (taken_are source c.args.flat.now c.of.result (run_in (flat_plain c.args.flat.now).items c.args.run.now).states (run_in (flat_plain c.args.flat.now).items c.args.run.now).labels c.in_ok-frames.frames c.judge_numbered_rows.new.taker.frames m c.of.ensures.width c.of.ensures.symbols
    (map item_plain c.as_slice.result.now) (ap (map item_plain) (c.as_slice.ensures ∙ c.items.ensures)) h.rows c.in_ok-frames.ensures h.taken.3 h.are)
