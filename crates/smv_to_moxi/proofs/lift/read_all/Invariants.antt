use Rattle.std.proofs.Common.{◌≡◌, map, take}
use Rattle.smv_to_moxi.specs.Lifting.{read_of}
use Rattle.smv_to_moxi.proofs.lift.read_all.Given as goal

abbrev pub invariant-loop-env : goal.invariant-loop-env
invariant-loop-env l = l.states ≡ map (read_of l.part l.flat) (take l.env-index l.envs)
