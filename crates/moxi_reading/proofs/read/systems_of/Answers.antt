use Rattle.std.proofs.Common.{◌∙◌, ◌++◌, ap, map, option_to_list}
use Rattle.moxi_scripts.specs.Script.{plain_system}
use Rattle.moxi_scripts.specs.Spelling.{system_of}
use Rattle.moxi_declarations.specs.Views.{plain_reading}
use Rattle.moxi_reading.proofs.Building.{taken_step}
use Rattle.moxi_reading.proofs.read.systems_of.Goals as goal

pub systems-preserved : goal.systems-preserved
systems-preserved c =
    let l = c.systems in
    let a = c.args in
    taken_step plain_system (system_of a.names.now) plain_reading l.all c.push.new.self l.systems.items c.pop.new.self.items c.in_ok-system.system c.in-Some.r (map (system_of a.names.now) (map plain_reading a.systems.now.items))
    c.in_ok-push.ensures.ok c.in_ok-system.ensures (c.pop.ensures.items ∙ ap (λ o. c.pop.new.self.items ++ option_to_list o) c.in-Some.is) l.invariant
