-- The commands of a script, one after another: what they declare, and the tests that fail. Sorts and functions are used only
-- after they are declared; which systems subsystems name is tested when all commands are read.
use Rattle.std.specs.Prelude.{ℕ, Bool, true, false, if◌then◌else◌, Option, None, Some, List, [], ◌∷◌, ◌++◌, codes}
use Rattle.std.specs.Str.{bytes_eq}
use Rattle.text_core.specs.declared.place.Place.{Place}
use Rattle.text_core.specs.declared.place.Refusal.{Refusal}
use Rattle.moxi_sexpr.specs.Lexing.{refusal}
use Rattle.moxi_sexpr.specs.Tree.{Tree, atom, list, Trees, no_trees, tree}
use Rattle.moxi_term_reading.specs.Forms.{place_in, symbol_of, only_of}
use Rattle.moxi_terms.specs.Names.{no_scope, or_else}
use Rattle.moxi_term_reading.specs.Reading.{prime_failures}
use Rattle.moxi_terms.specs.View.{ScopeState}
use Rattle.moxi_scripts.specs.declared.parts.CommandName.{CommandName}
use Rattle.moxi_scripts.specs.declared.parts.CommandName.TheVariants as name
use Rattle.moxi_scripts.specs.declared.parts.Declared.{Declared}
use Rattle.moxi_scripts.specs.Checks.{CheckReading, check_failures, check_of, variables_in}
use Rattle.moxi_scripts.specs.Collecting.{fails_if}
use Rattle.moxi_scripts.specs.Declarations.{enumeration_failures, function_failures, function_forms, parameters_in, sort_definition_failures, with_enumeration_names, with_function_name, with_read_enumeration, with_read_function, with_read_sort}
use Rattle.moxi_scripts.specs.Shapes.{HeadedForms, headed, named_in}
use Rattle.moxi_scripts.specs.Systems.{SystemReading, names_with_system, system_failures, variables_of_system, with_repeated, with_system}

-- What the commands so far declare. A system whose name is taken is one of `repeated`: no use finds it.
pub record Reading : Type 0 where
  pub logic : Option (List ℕ)
  pub scope : ScopeState
  pub term_names : List (List ℕ)
  pub system_names : List (List ℕ)
  pub variables : List Declared
  pub systems : List SystemReading
  pub repeated : List SystemReading
  pub checked : Bool
  pub check : Option CheckReading

abbrev pub nothing_read : Reading
nothing_read = record { logic = None; scope = no_scope; term_names = []; system_names = []; variables = []; systems = []; repeated = []; checked = false; check = None }

abbrev pub declaring_name : List ℕ → Option CommandName
declaring_name n =
    if bytes_eq n (codes "declare-enum-sort") then Some name.Enumeration else (if bytes_eq n (codes "define-sort") then Some name.Sort
    else (if bytes_eq n (codes "define-fun") then Some name.Function else None))

abbrev pub other_name : List ℕ → Option CommandName
other_name n =
    if bytes_eq n (codes "set-logic") then Some name.Logic else (if bytes_eq n (codes "set-info") then Some name.PassedOver
    else (if bytes_eq n (codes "set-option") then Some name.PassedOver else None))

abbrev pub system_name : List ℕ → Option CommandName
system_name n = if bytes_eq n (codes "define-system") then Some name.System else (if bytes_eq n (codes "check-system") then Some name.Check else None)

-- the command of this name
abbrev pub command_named : List ℕ → Option CommandName
command_named n = or_else (declaring_name n) (or_else (other_name n) (system_name n))

-- LOGIC: of several the last counts

abbrev pub logic_symbol : Option (List ℕ) → Option (List ℕ × Bool) → Option (List ℕ)
logic_symbol old None = old
logic_symbol old (Some x) = Some x.0

abbrev pub logic_of : Option (List ℕ) → Option Tree → Option (List ℕ)
logic_of old None = old
logic_of old (Some t) = logic_symbol old (symbol_of t)

abbrev pub logic_symbol_failures : Place → Place → Option (List ℕ × Bool) → List Refusal
logic_symbol_failures p q None = refusal 12 p ∷ []
logic_symbol_failures p q (Some x) = prime_failures x.1 q

abbrev pub logic_failures : Place → Option Tree → List Refusal
logic_failures p None = refusal 12 p ∷ []
logic_failures p (Some t) = logic_symbol_failures p (place_in t) (symbol_of t)

abbrev pub first_check : Option CheckReading → Bool → Option CheckReading → Option CheckReading
first_check old true new = old
first_check old false new = new

-- what is read behind a command at p
abbrev pub with_command : CommandName → Reading → Place → Trees → Reading
with_command name.Logic r p ts = record r { logic = logic_of r.logic (only_of ts) }
with_command name.PassedOver r p ts = r
with_command name.Enumeration r p ts =
    record r { scope = with_read_enumeration r.scope ts; term_names = with_enumeration_names r.scope r.term_names (named_in (headed ts)) }
with_command name.Sort r p ts = record r { scope = with_read_sort r.scope p ts }
with_command name.Function r p ts =
    record r {
      scope = with_read_function r.scope p ts;
      term_names = with_function_name r.scope r.term_names (function_forms ts);
      variables = r.variables ++ parameters_in r.scope (function_forms ts);
    }
with_command name.System r p ts =
    record r {
      system_names = names_with_system r.system_names (headed ts);
      variables = r.variables ++ variables_of_system r.scope (headed ts);
      systems = with_system r.scope r.system_names r.systems (headed ts);
      repeated = with_repeated r.scope r.system_names r.repeated (headed ts);
    }
with_command name.Check r p ts =
    record r { variables = r.variables ++ variables_in r.scope (headed ts); checked = true; check = first_check r.check r.checked (check_of r.scope p ts) }

-- the tests of a command at p; a second check-system fails
abbrev pub command_failures : CommandName → Reading → Place → Trees → List Refusal
command_failures name.Logic r p ts = logic_failures p (only_of ts)
command_failures name.PassedOver r p ts = []
command_failures name.Enumeration r p ts = enumeration_failures r.scope r.term_names p ts
command_failures name.Sort r p ts = sort_definition_failures r.scope p ts
command_failures name.Function r p ts = function_failures r.scope r.term_names p ts
command_failures name.System r p ts = system_failures r.scope r.system_names p ts
command_failures name.Check r p ts = check_failures r.scope p ts ++ fails_if r.checked 13 p

abbrev pub with_known : Option CommandName → Reading → Place → Trees → Reading
with_known None r p ts = r
with_known (Some c) r p ts = with_command c r p ts

abbrev pub known_failures : Option CommandName → Reading → Place → Trees → List Refusal
known_failures None r p ts = refusal 6 p ∷ []
known_failures (Some c) r p ts = command_failures c r p ts

abbrev pub with_headed : Reading → Place → Option HeadedForms → Reading
with_headed r p None = r
with_headed r p (Some h) = with_known (command_named h.name) r p h.rest

abbrev pub headed_failures : Reading → Place → Option HeadedForms → List Refusal
headed_failures r p None = refusal 12 p ∷ []
headed_failures r p (Some h) = prime_failures h.primed h.place ++ known_failures (command_named h.name) r p h.rest

abbrev pub with_form : Reading → Tree → Reading
with_form r (atom p a) = r
with_form r (list p ts) = with_headed r p (headed ts)

abbrev pub form_failures : Reading → Tree → List Refusal
form_failures r (atom p a) = refusal 12 p ∷ []
form_failures r (list p ts) = headed_failures r p (headed ts)

-- what is read behind all of these forms
abbrev pub reading_after : Reading → Trees → Reading
reading_after r no_trees = r
reading_after r (tree t ts) = reading_after (with_form r t) ts

abbrev pub commands_failures : Reading → Trees → List Refusal
commands_failures r no_trees = []
commands_failures r (tree t ts) = form_failures r t ++ commands_failures (with_form r t) ts
