use Rattle.std.proofs.Common.{◌∙◌, ap}
use Rattle.moxi_lines.specs.Lines.{with_bad}
use Rattle.moxi_to_btor.proofs.Giving.{ok_same}
use Rattle.moxi_to_btor.proofs.GoalSteps.{query_truth}
use Rattle.moxi_to_btor.proofs.queries.put_query.Goals as goal
use Rattle.moxi_to_btor.proofs.Stepping.{made}

pub put_bad-requires : goal.put_bad-requires
put_bad-requires c = query_truth c.args.system.now c.args.inputs.now c.args.builder.now c.args.query.now c.requires (made c.put_whole_goal.new.builder c.in_ok-place.place) c.in_ok-place.ensures

pub returns : goal.returns
returns c =
    let m = made c.put_whole_goal.new.builder c.in_ok-place.place in
    ok_same c.put_bad.result c.put_bad.new.builder _ _ (ap (λ name. with_bad name m) c.bytes.ensures ∙ ap (with_bad c.args.query.now.name) c.in_ok-place.ensures) c.put_bad.ensures
