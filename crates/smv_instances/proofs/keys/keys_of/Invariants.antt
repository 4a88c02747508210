use Rattle.std.proofs.Common.{◌≡◌, ◌<◌, ℕ, true, List, map}
use Rattle.std.specs.List.{list_any}
use Rattle.smv_meaning.specs.Names.{local}
use Rattle.smv_instances.specs.Leads.{is_alias, is_key}
use Rattle.smv_instances.specs.View.{instance_plain}
use Rattle.smv_instances.proofs.keys.keys_of.Given as goal

abbrev pub invariant-loop-i : goal.invariant-loop-i
invariant-loop-i l = (j : ℕ) (x : List ℕ) → j < l.i → is_alias (local (map instance_plain l.parts) j x) ≡ true → list_any (is_key j x) l.keys.items ≡ true
