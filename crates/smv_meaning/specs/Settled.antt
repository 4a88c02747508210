-- Where no definition and no actual reaches itself, names, values and types come to an end within their bounds.
use Rattle.std.specs.Prelude.{◌≡◌, ℕ, zero, suc, ◌<◌, max, Bool, true, false, ◌&&◌, nat_lt, List, [], ◌∷◌, IsTrue, sum_by}
use Rattle.std.specs.List.{list_all, list_any}
use Rattle.smv_text.specs.declared.tree.Path.{Path}
use Rattle.smv_meaning.specs.declared.value.Value.{Value}
use Rattle.smv_meaning.specs.Values.{Valuation}
use Rattle.smv_meaning.specs.Instances.{Instance}
use Rattle.smv_meaning.specs.Names.{Local, alias, body_of, local, Found, cyclic, look, landed, found_in, bodies_in, steps_of}
use Rattle.smv_meaning.specs.Meaning.{value_found, reading}
use Rattle.smv_meaning.specs.Checks.{Check, passes, Named}
use Rattle.smv_meaning.specs.Naming.{named_found, naming}
use Rattle.smv_meaning.specs.Phases.{Body, body_same, refers, reaches, over_instances, cycle_checks}

-- no definition and no actual reaches itself
abbrev pub Acyclic : List Instance → Type 0
Acyclic t = (k : Body) → reaches (refers t) (steps_of t) k k ≡ false

-- the checks of phase 5
abbrev pub cycle_checks_of : List Instance → List Check
cycle_checks_of t = over_instances (cycle_checks t) 0 t

-- they hold exactly where nothing reaches itself
abbrev pub CyclesAreChecked : Type 0
CyclesAreChecked = (t : List Instance) → (IsTrue (passes (cycle_checks_of t)) → Acyclic t) × (Acyclic t → IsTrue (passes (cycle_checks_of t)))

-- ---- ranks

-- each definition and actual has a greater number than those to which it refers
abbrev pub IsRank : List Instance → (Body → ℕ) → Type 0
IsRank t rank = (k : Body) → IsTrue (list_all (λ m. nat_lt (rank m) (rank k)) (refers t k))

-- whatever numbers them so, nothing reaches itself
abbrev pub RankedIsAcyclic : Type 0
RankedIsAcyclic = (t : List Instance) (rank : Body → ℕ) → IsRank t rank → Acyclic t

-- the name stands for a definition or an actual
abbrev pub has_body : Local → Bool
has_body (alias j path) = true
has_body (body_of j e) = true
has_body l = false

-- each of a list is after those to which it refers, or these were seen before
abbrev pub is_ordered : (Body → List Body) → List Body → List Body → Bool
is_ordered refers seen [] = true
is_ordered refers seen (k ∷ ks) = list_all (λ m. list_any (body_same m) seen) (refers k) && is_ordered refers (k ∷ seen) ks

-- where all definitions and actuals can be listed so, nothing reaches itself
abbrev pub OrderedIsAcyclic : Type 0
OrderedIsAcyclic = (t : List Instance) (ks : List Body) → IsTrue (is_ordered (refers t) [] ks)
    → ((k : Body) → has_body (local t k.0 k.1) ≡ true → IsTrue (list_any (body_same k) ks)) → Acyclic t

abbrev pub greatest : (Body → ℕ) → List Body → ℕ
greatest f [] = 0
greatest f (k ∷ ks) = max (f k) (greatest f ks)

-- how many definitions and actuals lead into one another from this one on, at most as many as the number tells
unfoldable pub chain_length : (Body → List Body) → ℕ → Body → ℕ
chain_length refers zero k = 0
chain_length refers (suc n) k = suc (greatest (chain_length refers n) (refers k))

abbrev pub rank_of : List Instance → Body → ℕ
rank_of t = chain_length (refers t) (sum_by bodies_in t)

abbrev pub AcyclicIsRanked : Type 0
AcyclicIsRanked = (t : List Instance) → Acyclic t → IsRank t (rank_of t) × ((k : Body) → rank_of t k < steps_of t)

-- ---- what settles

abbrev pub is_cyclic : Found → Bool
is_cyclic cyclic = true
is_cyclic m = false

-- no path is followed without an end, and a name is what its declaration says
abbrev pub NamesSettle : Type 0
NamesSettle = (t : List Instance) → Acyclic t
    → ((i : ℕ) (path : Path) → is_cyclic (found_in t i path) ≡ false) × ((i : ℕ) (x : List ℕ) → look t (steps_of t) i x ≡ landed t (look t (steps_of t)) i x (local t i x))

-- the values of a model's names under a state and a label
abbrev pub values_in : List Instance → Valuation → Valuation → ℕ → Path → Value
values_in t state label i path = reading (found_in t) (steps_of t) state label i path

-- a name's value is that of what it is found to be, under the same values
abbrev pub ValuesSettle : Type 0
ValuesSettle = (t : List Instance) → Acyclic t → (state label : Valuation) (i : ℕ) (path : Path)
    → values_in t state label i path ≡ value_found (values_in t state label) state label (found_in t i path)

-- nothing else meets these equations
abbrev pub ValuesAreOne : Type 0
ValuesAreOne = (t : List Instance) → Acyclic t → (state label : Valuation) (row : ℕ → Path → Value)
    → ((i : ℕ) (path : Path) → row i path ≡ value_found row state label (found_in t i path)) → (i : ℕ) (path : Path) → row i path ≡ values_in t state label i path

-- what names are to the types, where a label is given or none
abbrev pub types_in : Bool → List Instance → ℕ → Path → Named
types_in inputs t i path = naming inputs (found_in t) (steps_of t) i path

abbrev pub TypesSettle : Type 0
TypesSettle = (t : List Instance) → Acyclic t → (inputs : Bool) (i : ℕ) (path : Path) → types_in inputs t i path ≡ named_found inputs (types_in inputs t) (found_in t i path)
