-- The tests that rest on the whole script: names of variables, the systems that subsystems and the check name, and what is
-- handed to them. The number of actuals is tested where the lists have their shape, and the sorts of two variables where both are
-- known; the lists of a check are tested where none of their own tests fails.
use Rattle.std.specs.Prelude.{◌==◌, ℕ, suc, Bool, true, false, not, ◌&&◌, ◌+◌, if◌then◌else◌, Option, None, Some, List, [], ◌∷◌, ◌++◌, length, slice_get}
use Rattle.std.specs.Option.{option_map}
use Rattle.text_core.specs.declared.place.Place.{Place}
use Rattle.text_core.specs.declared.place.Refusal.{Refusal}
use Rattle.moxi_sexpr.specs.Lexing.{refusal}
use Rattle.moxi_terms.specs.declared.data.Sort.{Sort}
use Rattle.name_maps.specs.Names.{place_of}
use Rattle.moxi_terms.specs.Sorts.{same_sort}
use Rattle.moxi_terms.specs.View.{ScopeState}
use Rattle.moxi_scripts.specs.declared.parts.ListPlaces.{ListPlaces}
use Rattle.moxi_scripts.specs.declared.parts.Declared.{Declared}
use Rattle.moxi_scripts.specs.declared.parts.DeclaredList.{DeclaredList}
use Rattle.moxi_scripts.specs.declared.parts.Lists.{Lists}
use Rattle.moxi_scripts.specs.declared.parts.Actual.{Actual}
use Rattle.moxi_scripts.specs.declared.parts.Use.{Use}
use Rattle.moxi_scripts.specs.Checks.{CheckReading}
use Rattle.moxi_scripts.specs.Collecting.{fails_if}
use Rattle.moxi_scripts.specs.Commands.{Reading}
use Rattle.moxi_scripts.specs.Declarations.{clash_failures, is_taken}
use Rattle.moxi_scripts.specs.Systems.{SystemReading}

-- a variable or a parameter that has the name of a constant or a function, whatever stands first
abbrev pub taken_failures : ScopeState → List (List ℕ) → List Declared → List Refusal
taken_failures s names [] = []
taken_failures s names (d ∷ ds) = fails_if (is_taken s names d.name) 9 d.place ++ taken_failures s names ds

-- the lists of the system of this number
abbrev pub lists_at : List SystemReading → ℕ → Option Lists
lists_at systems j = option_map (λ (r : SystemReading). r.lists) (slice_get systems j)

abbrev pub entry_sort : Option Declared → Option Sort
entry_sort None = None
entry_sort (Some d) = d.sort

-- the sort of an input or an output
abbrev pub sort_at : Lists → ℕ → Option Sort
sort_at l i = entry_sort (slice_get (l.inputs.entries ++ l.outputs.entries) i)

abbrev pub actuals_clash : Lists → ℕ → List Actual → List Refusal
actuals_clash l i [] = []
actuals_clash l i (a ∷ xs) = clash_failures a.sort (sort_at l i) a.place ++ actuals_clash l (suc i) xs

-- as many actuals as inputs and outputs, and their sorts
abbrev pub fit_failures : Use → Lists → List Refusal
fit_failures u l = if length u.actuals == length l.inputs.entries + length l.outputs.entries then actuals_clash l 0 u.actuals else refusal 12 u.list ∷ []

abbrev pub actuals_failures : Use → Option Lists → List Refusal
actuals_failures u None = []
actuals_failures u (Some l) = if l.inputs.shaped && l.outputs.shaped then fit_failures u l else []

abbrev pub target_failures : List SystemReading → Use → Option ℕ → List Refusal
target_failures systems u None = refusal 10 u.place ∷ []
target_failures systems u (Some j) = actuals_failures u (lists_at systems j)

-- the tests of a subsystem among systems of these names
abbrev pub use_failures : List SystemReading → List (List ℕ) → Use → List Refusal
use_failures systems names u = target_failures systems u (place_of names u.target)

abbrev pub uses_failures : List SystemReading → List (List ℕ) → List Use → List Refusal
uses_failures systems names [] = []
uses_failures systems names (u ∷ us) = use_failures systems names u ++ uses_failures systems names us

abbrev pub systems_failures : List SystemReading → List (List ℕ) → List SystemReading → List Refusal
systems_failures systems names [] = []
systems_failures systems names (r ∷ rs) = uses_failures systems names r.uses ++ systems_failures systems names rs

abbrev pub same_known : Option Sort → Option Sort → Bool
same_known (Some a) (Some b) = same_sort a b
same_known None b = false
same_known (Some a) None = false

-- as many entries, each of the same sort
abbrev pub entries_fit : List Declared → List Declared → Bool
entries_fit [] [] = true
entries_fit (a ∷ xs) (b ∷ bs) = same_known a.sort b.sort && entries_fit xs bs
entries_fit [] (b ∷ bs) = false
entries_fit (a ∷ xs) [] = false

-- a list of a check has the sorts of the system's list
abbrev pub list_failures : DeclaredList → DeclaredList → Place → List Refusal
list_failures a b p = fails_if ((a.whole && b.whole) && not (entries_fit a.entries b.entries)) 13 p

abbrev pub lists_failures : Option Lists → Lists → ListPlaces → List Refusal
lists_failures None c p = []
lists_failures (Some l) c p = (list_failures l.inputs c.inputs p.inputs ++ list_failures l.outputs c.outputs p.outputs) ++ list_failures l.locals c.locals p.locals

abbrev pub checked_failures : List SystemReading → CheckReading → Option ℕ → List Refusal
checked_failures systems c None = refusal 10 c.target_place ∷ []
checked_failures systems c (Some j) = lists_failures (lists_at systems j) c.lists c.places

abbrev pub check_failures : List SystemReading → List (List ℕ) → Option CheckReading → List Refusal
check_failures systems names None = []
check_failures systems names (Some c) = checked_failures systems c (place_of names c.target)

abbrev pub all_systems_failures : Reading → List Refusal
all_systems_failures r = systems_failures r.systems r.system_names r.systems ++ systems_failures r.systems r.system_names r.repeated

-- the tests of what is read; a script without a check fails at its end
abbrev pub links_failures : Reading → Place → List Refusal
links_failures r end =
    ((taken_failures r.scope r.term_names r.variables ++ all_systems_failures r) ++ check_failures r.systems r.system_names r.check)
    ++ fails_if (not r.checked) 13 end
