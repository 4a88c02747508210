-- How large the script is that stands for a model, by the model's weight.
use Rattle.std.specs.Prelude.{ℕ, ◌+◌, ◌*◌, ◌≤◌, length}
use Rattle.moxi_scripts.specs.Script.{PlainScript, system_at, variables_in}
use Rattle.moxi_term_print.specs.Shown.{shown_depths}
use Rattle.moxi_script_print.specs.Printing.{shown_script}
use Rattle.moxi_flat.specs.Systems.{script_height, script_size}

-- The size of the instantiated system, its variables and queries together, the height of its highest term, and how many brackets of
-- the printed script stand open at most.
pub record IsBounded (weight : ℕ) (s : PlainScript) : Type 0 where
  pub size : script_size s ≤ 5 * weight + 5
  pub counts : length (variables_in (system_at s.systems s.check.system)) + length s.check.queries ≤ weight
  pub height : script_height s ≤ 1146
  pub brackets : shown_depths (shown_script s) ≤ 1145
