-- Subsystems as they are written, `(n (S x ..))`.
use Rattle.std.specs.Prelude.{ℕ, Bool, not, is_none, if◌then◌else◌, Option, None, Some, List, [], ◌∷◌, ◌++◌}
use Rattle.text_core.specs.declared.place.Place.{Place}
use Rattle.text_core.specs.declared.place.Refusal.{Refusal}
use Rattle.moxi_sexpr.specs.Lexing.{refusal}
use Rattle.moxi_sexpr.specs.Tree.{Tree, Trees, no_trees, tree}
use Rattle.moxi_term_reading.specs.declared.locals.Local.{Local}
use Rattle.moxi_term_reading.specs.Forms.{place_in, symbol_of}
use Rattle.name_maps.specs.Names.{place_of}
use Rattle.moxi_term_reading.specs.Finding.{Found, first_of}
use Rattle.moxi_term_reading.specs.Reading.{prime_failures}
use Rattle.moxi_scripts.specs.declared.parts.Command.TheVariants.{System}
use Rattle.moxi_scripts.specs.declared.parts.Key.TheVariants.{Subsystem}
use Rattle.moxi_scripts.specs.declared.parts.Turn.{Turn}
use Rattle.moxi_scripts.specs.declared.parts.Actual.{Actual}
use Rattle.moxi_scripts.specs.declared.parts.Use.{Use}
use Rattle.moxi_scripts.specs.Attributes.{is_behind, turn_after}
use Rattle.moxi_scripts.specs.Collecting.{fails_if}
use Rattle.moxi_scripts.specs.Declarations.{are_symbols}
use Rattle.moxi_scripts.specs.Shapes.{HeadedForms, NamedForm, headed, misshapen, named, parts_of}
use Rattle.moxi_scripts.specs.QueryReading.{names_with_named}

abbrev pub actual_at : Option Found → Place → Actual
actual_at None p = record { number = 0; sort = None; place = p }
actual_at (Some f) p = record { number = f.number; sort = f.sort; place = p }

abbrev pub symbol_actual : List Local → Place → Option (List ℕ × Bool) → List Actual
symbol_actual locals p None = []
symbol_actual locals p (Some x) = actual_at (first_of 0 locals x.0) p ∷ []

abbrev pub actual_in : List Local → Tree → List Actual
actual_in locals t = symbol_actual locals (place_in t) (symbol_of t)

abbrev pub actual_tests : List Local → Place → Option (List ℕ × Bool) → List Refusal
actual_tests locals p None = []
actual_tests locals p (Some x) = prime_failures x.1 p ++ fails_if (is_none (first_of 0 locals x.0)) 4 p

-- an actual is a variable of the system in which the subsystem stands
abbrev pub actual_failures : List Local → Tree → List Refusal
actual_failures locals t = actual_tests locals (place_in t) (symbol_of t)

abbrev pub actuals_in : List Local → Trees → List Actual
actuals_in locals no_trees = []
actuals_in locals (tree t ts) = actual_in locals t ++ actuals_in locals ts

abbrev pub actuals_failures : List Local → Trees → List Refusal
actuals_failures locals no_trees = []
actuals_failures locals (tree t ts) = actual_failures locals t ++ actuals_failures locals ts

abbrev pub use_at : List Local → List ℕ → Place → HeadedForms → List Use
use_at locals name q h = if are_symbols h.rest then record { name = name; target = h.name; place = h.place; list = q; actuals = actuals_in locals h.rest } ∷ [] else []

abbrev pub target_failures : List Local → Place → HeadedForms → List Refusal
target_failures locals q h = (prime_failures h.primed h.place ++ actuals_failures locals h.rest) ++ fails_if (not (are_symbols h.rest)) 12 q

abbrev pub use_headed : List Local → List ℕ → Place → Option HeadedForms → List Use
use_headed locals name q None = []
use_headed locals name q (Some h) = use_at locals name q h

abbrev pub use_among : List Local → NamedForm → Option Trees → List Use
use_among locals n None = []
use_among locals n (Some ts) = use_headed locals n.name (place_in n.form) (headed ts)

abbrev pub use_in : List Local → NamedForm → List Use
use_in locals n = use_among locals n (parts_of n.form)

abbrev pub headed_failures : List Local → Place → Option HeadedForms → List Refusal
headed_failures locals q None = refusal 12 q ∷ []
headed_failures locals q (Some h) = target_failures locals q h

abbrev pub among_failures : List Local → Place → NamedForm → Option Trees → List Refusal
among_failures locals p n None = refusal 12 p ∷ []
among_failures locals p n (Some ts) = headed_failures locals (place_in n.form) (headed ts)

abbrev pub use_failures : List Local → Place → NamedForm → List Refusal
use_failures locals p n = among_failures locals p n (parts_of n.form)

abbrev pub use_named : List Local → Option NamedForm → List Use
use_named locals None = []
use_named locals (Some n) = use_in locals n

-- the subsystem that a form spells
abbrev pub use_of : List Local → Tree → List Use
use_of locals t = use_named locals (named t)

abbrev pub names_with_use : List (List ℕ) → Tree → List (List ℕ)
names_with_use names t = names_with_named names (named t)

abbrev pub named_failures : List (List ℕ) → List Local → Tree → Option NamedForm → List Refusal
named_failures names locals t None = misshapen (place_in t) t ∷ []
named_failures names locals t (Some n) =
    (prime_failures n.primed n.place ++ fails_if (not (is_none (place_of names n.name))) 9 n.place) ++ use_failures locals (place_in t) n

-- the tests of a subsystem behind those of these names
abbrev pub use_tests : List (List ℕ) → List Local → Tree → List Refusal
use_tests names locals t = named_failures names locals t (named t)

-- the subsystems among the attributes of a system
abbrev pub uses_in : List Local → Turn → Trees → List Use
uses_in locals turn no_trees = []
uses_in locals turn (tree t ts) = (if is_behind Subsystem turn then use_of locals t else []) ++ uses_in locals (turn_after System turn t) ts

abbrev pub uses_failures : List Local → List (List ℕ) → Turn → Trees → List Refusal
uses_failures locals names turn no_trees = []
uses_failures locals names turn (tree t ts) =
    (if is_behind Subsystem turn then use_tests names locals t else [])
    ++ uses_failures locals (if is_behind Subsystem turn then names_with_use names t else names) (turn_after System turn t) ts
