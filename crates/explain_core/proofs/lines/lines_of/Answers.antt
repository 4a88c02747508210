use Rattle.std.proofs.Common.{◌≡◌, rules, map, subst}
use Rattle.std.specs.Prelude.{◌==◌, IfOk}
use Rattle.std.specs.List.{slice_split}
use Rattle.std.proofs.lemmas.Iterator.Consumers.{map_from_collect}
use Rattle.std.proofs.lemmas.Iterator.Splits.{YieldsList-from_slice_split}
use Rattle.explain_core.proofs.lines.lines_of.Goals as goal

pub returns-in-Ok : goal.returns-in-Ok
returns-in-Ok c =
    subst (λ r. IfOk r (λ w. map (λ line. line.now) w.items ≡ slice_split (λ b. b == 10) c.args.text.now)) c.in-Ok.is
    (map_from_collect c.collect.result c.collect.ensures.ran
    (YieldsList-from_slice_split _ (λ b. b == 10) c.args.text.now c.split.ensures.rest c.split.ensures.done c.split.ensures.closure (λ x r q k. search rules)))
