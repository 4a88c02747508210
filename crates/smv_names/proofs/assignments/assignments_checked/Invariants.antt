use Rattle.std.proofs.Common.{◌≡◌, ℕ, Bool, false, List, [], Option, Some, None, drop}
use Rattle.std.specs.List.{list_any}
use Rattle.smv_meaning.specs.Checks.{first_failing}
use Rattle.smv_names.specs.declared.assignments.NumberedAssignment.{NumberedAssignment}
use Rattle.smv_text.specs.declared.tree.When.{When}
use Rattle.smv_names.specs.declared.assignments.Kinds.{Kinds}
use Rattle.smv_names.specs.Assigning.{kinds_at, kinds_clash, numbered_clash, numbered_checks}
use Rattle.smv_names.proofs.assignments.assignments_checked.Given as goal

-- the item, if there is one, has kinds that don't go with this one
abbrev item_clashes : List Kinds → Option ℕ → When → Bool
item_clashes kept (Some k) when = kinds_clash (kinds_at kept k) when
item_clashes kept None when = false

abbrev pub invariant-loop-assignment : goal.invariant-loop-assignment
invariant-loop-assignment l =
    (seen : List NumberedAssignment) × ((a : NumberedAssignment) → list_any (numbered_clash a) seen ≡ item_clashes l.kept.items a.item a.when)
    × (first_failing (numbered_checks seen (drop l.assignment-index l.list)) ≡ first_failing (numbered_checks [] l.list))
