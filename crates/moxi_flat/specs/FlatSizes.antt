-- The size and the height of a flat system are those of the system that the script's check instantiates.
use Rattle.std.specs.Prelude.{◌≡◌, ℕ, ◌+◌, max, length, sum_by}
use Rattle.moxi_scripts.specs.Script.{PlainScript}
use Rattle.moxi_scripts.specs.Valid.{IsValid}
use Rattle.moxi_flat.specs.Terms.{call_heights, call_sizes, term_height, term_size}
use Rattle.moxi_flat.specs.Systems.{check_height, check_size, greatest_by, script_height, script_size}
use Rattle.moxi_flat.specs.FlatSystem.{PlainPart, flat_of}

-- a part counts once, with its three formulas
abbrev pub part_size : (ℕ → ℕ) → PlainPart → ℕ
part_size calls p = 1 + (term_size calls p.init + (term_size calls p.trans + term_size calls p.inv))

abbrev pub part_height : (ℕ → ℕ) → PlainPart → ℕ
part_height calls p = max (term_height calls p.init) (max (term_height calls p.trans) (term_height calls p.inv))

-- the variables, the parts, and the formulas of the check
pub record HasFlatSizes (s : PlainScript) : Type 0 where
  pub size : length (flat_of s).variables + (sum_by (part_size (call_sizes s.scope)) (flat_of s).parts + check_size (call_sizes s.scope) s.check) ≡ script_size s
  pub height : max (greatest_by (part_height (call_heights s.scope)) (flat_of s).parts) (check_height (call_heights s.scope) s.check) ≡ script_height s

abbrev pub FlatSystemsHaveSizes : Type 0
FlatSystemsHaveSizes = (s : PlainScript) → IsValid s → HasFlatSizes s
