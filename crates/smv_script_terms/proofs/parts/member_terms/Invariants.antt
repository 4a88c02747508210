use Rattle.std.proofs.Common.{◌≡◌, ◌++◌, drop, map, false}
use Rattle.moxi_terms.specs.Tree.{variable}
use Rattle.moxi_terms.specs.View.{plain}
use Rattle.smv_script.specs.Script.{member_term}
use Rattle.smv_script_terms.specs.Questions.{codes_of}
use Rattle.smv_script_terms.proofs.parts.member_terms.Given as goal

abbrev pub invariant-loop-member : goal.invariant-loop-member
invariant-loop-member l = map plain l.all.items ++ map (member_term l.coding.width l.symbols (variable ((codes_of l.coding).place l.k) false)) (drop l.member-index l.members)
    ≡ map (member_term l.coding.width l.symbols (variable ((codes_of l.coding).place l.k) false)) l.members
