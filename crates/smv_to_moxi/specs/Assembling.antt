-- The parts of a script.
use Rattle.std.specs.Prelude.{ℕ, Bool, true, false, Some, List, [], ◌∷◌, ◌++◌, codes, decimal}
use Rattle.smv_flat.specs.declared.forms.Role.{Role}
use Rattle.smv_flat.specs.declared.forms.Role.TheVariants.{Invariant}
use Rattle.smv_flat.specs.FlatForms.{PlainFlat}
use Rattle.smv_flat.specs.FlatTree.{FlatTree}
use Rattle.moxi_terms.specs.View.{ScopeState}
use Rattle.moxi_scripts.specs.Script.{PlainCheck, PlainFormula, PlainScript, PlainSystem}
use Rattle.smv_script.specs.Operators.{not_term}
use Rattle.smv_script.specs.Script.{symbol_sort, check_of, script_of, system_of}
use Rattle.smv_script.specs.Terms.{Coding, translation}

-- the formula that an invariant is broken
abbrev pub reachable_of : Coding → ℕ → FlatTree → PlainFormula
reachable_of c j e = record { name = codes "r." ++ decimal j; term = not_term ((translation c e).term 0) }

abbrev pub is_invariant : Role → Bool
is_invariant Invariant = true
is_invariant r = false

-- a script of one system
abbrev pub script_with : List ℕ → ScopeState → PlainSystem → PlainCheck → PlainScript
script_with logic scope system check = record { logic = Some logic; scope = scope; systems = system ∷ []; check = check }

-- the system of a flat form, of which others need no part
unfoldable pub system_form : PlainFlat → ℕ → PlainSystem
system_form flat width = system_of flat width

-- its check
unfoldable pub check_form : PlainFlat → ℕ → PlainCheck
check_form flat width = check_of flat width

-- its script
unfoldable pub script_form : PlainFlat → ℕ → PlainScript
script_form flat width = script_of flat width

-- its script, with this logic and this scope
abbrev pub script_under : List ℕ → ScopeState → PlainFlat → ℕ → PlainScript
script_under logic scope flat width = script_with logic scope (system_form flat width) (check_form flat width)

-- the scope whose only sort has the symbols as constants
unfoldable pub symbol_scope : List (List ℕ) → ScopeState
symbol_scope symbols = record { enumerations = symbol_sort symbols; sorts = []; functions = [] }
