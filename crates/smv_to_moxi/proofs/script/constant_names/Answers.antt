use Rattle.std.proofs.Common.{◌++◌, codes, map}
use Rattle.smv_to_moxi.proofs.Scripts.{name_on}
use Rattle.smv_to_moxi.proofs.script.constant_names.Goals as goal

pub loop-i-preserved : goal.loop-i-preserved
loop-i-preserved c =
    name_on (λ x. codes "c." ++ x) c.args.symbols.now c.loop-i.i c.at.result.now c.in_ok-name.name c.loop-i.all c.push.new.self (map (λ x. codes "c." ++ x) c.args.symbols.now)
    c.at.ensures c.in_ok-push.ensures.ok c.in_ok-name.ensures c.loop-i.invariant
