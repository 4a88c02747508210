use Rattle.std.proofs.Common.{◌≡◌, ◌++◌, ◌∷◌, ◌+◌, ◌*◌, drop, length, map}
use Rattle.std.specs.Prelude.{sum_by}
use Rattle.moxi_scripts.specs.Script.{plain_system, system_at}
use Rattle.moxi_flat.specs.Systems.{nesting_upto}
use Rattle.moxi_flat.specs.FlatSystem.{count_upto, part_of, parts_each, parts_upto}
use Rattle.moxi_instantiate.specs.Copying.{number_in}
use Rattle.moxi_instantiate.specs.Instances.{count_inside}
use Rattle.moxi_instantiate.specs.PlainParts.{plain_part}
use Rattle.moxi_instantiate.proofs.instances.+parts.Given as goal

abbrev pub decreases-add_parts : goal.decreases-add_parts
decreases-add_parts l = 2 * nesting_upto (map plain_system l.systems.now) (length (map plain_system l.systems.now)) l.i

abbrev pub decreases-add_inside : goal.decreases-add_inside
decreases-add_inside l = 2 * nesting_upto (map plain_system l.systems.now) (length (map plain_system l.systems.now)) l.subsystem.now.system + 1

abbrev pub invariant-add_parts-loop-subsystem : goal.invariant-add_parts-loop-subsystem
invariant-add_parts-loop-subsystem l =
    let ss = map plain_system l.systems in
    let n = length ss in
    let bs = (system_at ss l.i).subsystems in
    let place = number_in l.places in
    record {
      counted : l.next + sum_by (count_inside ss) (drop l.subsystem-index bs) ≡ l.fresh + sum_by (count_inside ss) bs;
      parts : map plain_part l.parts ++ parts_each ss (count_upto ss n) (parts_upto ss n) place l.next (drop l.subsystem-index bs)
          ≡ map plain_part l.fn.parts ++ part_of place (system_at ss l.i) ∷ parts_each ss (count_upto ss n) (parts_upto ss n) place l.fresh bs;
    }
