use Rattle.std.proofs.Common.{◌≡◌, Bool, drop, map}
use Rattle.std.specs.List.{list_all}
use Rattle.moxi_terms.specs.Value.{at}
use Rattle.moxi_scripts.specs.Meeting.{is_true}
use Rattle.moxi_flat.specs.FlatSystem.{PlainPart}
use Rattle.moxi_instantiate.specs.PlainParts.{plain_part}
use Rattle.moxi_judge.specs.FlatTests.{free_script, formula_of}
use Rattle.moxi_judge.proofs.parts.all_true.Given as goal

abbrev pub invariant-loop-part : goal.invariant-loop-part
invariant-loop-part l =
    let holds : PlainPart → Bool = λ p. is_true (free_script l.system) (at l.now) (at l.later) (formula_of l.formula p) in
    list_all holds (map plain_part (drop l.part-index l.parts)) ≡ list_all holds (map plain_part l.parts)
