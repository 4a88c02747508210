-- How much is declared. No command declares more than its form has nodes.
use Rattle.std.specs.Prelude.{ℕ, ◌+◌, length}
use Rattle.moxi_terms.specs.Names.{all_constants}
use Rattle.moxi_terms.specs.View.{ScopeState}
use Rattle.moxi_scripts.specs.Commands.{Reading}
use Rattle.moxi_scripts.specs.Cycles.{count_uses}

-- how many enumerations, constants, sorts and functions there are
abbrev pub scope_size : ScopeState → ℕ
scope_size s = (length s.enumerations + length (all_constants s.enumerations)) + (length s.sorts + length s.functions)

-- and how many names of systems, systems and subsystems
abbrev pub reading_size : Reading → ℕ
reading_size r = scope_size r.scope + (length r.system_names + (length r.systems + count_uses r.systems))
