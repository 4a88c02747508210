use Rattle.std.proofs.Common.{◌-◌, List, length, map, take, ap, ◌∙◌}
use Rattle.moxi_terms.specs.declared.data.Datum.{Datum}
use Rattle.smv_to_moxi.specs.declared.lift.Part.TheVariants.{State, Label}
use Rattle.smv_to_moxi.specs.Lifting.{read_of}
use Rattle.smv_to_moxi.proofs.LiftedSteps.{run_read, same_run}
use Rattle.smv_to_moxi.proofs.lift.lift_states.Goals as goal

pub returns : goal.returns
returns c =
    let f = c.args.flat.now in
    let same = c.as_slice-envs.ensures in
    let states = c.in_ok-states.ensures ∙ ap (map (read_of State f)) same in
    let labels = c.in_ok-labels.ensures ∙ ap (λ (envs : List (List Datum)). map (read_of Label f) (take (length envs - 1) envs)) same in
    let envs = c.args.trace.now in
    same_run c.in_ok-states.states (map (read_of State f) envs) c.in_ok-labels.labels (map (read_of Label f) (take (length envs - 1) envs)) states labels ∙ run_read f envs c.requires.some
