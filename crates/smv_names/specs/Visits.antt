-- The instances of a model as a walk over its modules meets them, with no list of all instances.
use Rattle.std.specs.Prelude.{ℕ, zero, suc, ◌+◌, ◌≡◌, min, not, ◌&&◌, ◌||◌, nat_le, List, [], ◌∷◌, ◌++◌, length, Option, Some, None, Result}
use Rattle.text_core.specs.declared.end.End.{End}
use Rattle.smv_text.specs.Tree.{PlainDomain, instance, PlainItem, PlainModule}
use Rattle.smv_meaning.specs.Instances.{dotted, module_named}
use Rattle.smv_meaning.specs.Checks.{Check, check}
use Rattle.smv_meaning.specs.Phases.{Declared, declared_in, declares_instance, longest_path, most_instances, item_checks, declared_checks, counted_all}
use Rattle.smv_names.specs.Outcome.{Counts}

-- an instance: its module, its path, and the names of its module and of all above it
pub record Visit : Type 0 where
  pub «module» : PlainModule
  pub path : List ℕ
  pub above : List (List ℕ)

-- the number is the path's length, or one above the limit where the path is longer than the limit
abbrev pub IsLength : ℕ → List ℕ → Type 0
IsLength n path = n ≡ min (length path) (suc longest_path)

abbrev pub placed_visits : (List ℕ → PlainModule → List Visit) → List ℕ → Option PlainModule → List Visit
placed_visits f path None = []
placed_visits f path (Some m) = f path m

abbrev pub domain_visits : (List ℕ → PlainModule → List Visit) → List PlainModule → List ℕ → PlainDomain → List Visit
domain_visits f ms path (instance m actuals) = placed_visits f path (module_named ms m)
domain_visits f ms path d = []

-- an item's instance with all below it
abbrev pub item_visits : (List ℕ → PlainModule → List Visit) → List PlainModule → List ℕ → Option PlainItem → List Visit
item_visits f ms path None = []
item_visits f ms path (Some i) = domain_visits f ms (dotted path i.name) i.domain

abbrev pub declared_visits : (List ℕ → PlainModule → List Visit) → List PlainModule → List ℕ → List Declared → List Visit
declared_visits f ms path [] = []
declared_visits f ms path (d ∷ ds) = item_visits f ms path d.item ++ declared_visits f ms path ds

-- an instance of the module and all below it; modules nest at most as deep as the number tells
unfoldable pub visits : ℕ → List PlainModule → List (List ℕ) → List ℕ → PlainModule → List Visit
visits zero ms above path m = []
visits (suc n) ms above path m =
    record { «module» = m; path = path; above = m.name ∷ above }
    ∷ declared_visits (visits n ms (m.name ∷ above)) ms path (declared_in m)

abbrev pub visit_checks : List PlainModule → ℕ → List Visit → List Check
visit_checks ms met [] = []
visit_checks ms met (v ∷ vs) =
    declared_checks ms v.above v.path [] met (declared_in v.module) ++ visit_checks ms (counted_all met (declared_in v.module)) vs

-- how many instances are met
abbrev pub visit_count : ℕ → List Visit → ℕ
visit_count met [] = met
visit_count met (v ∷ vs) = visit_count (counted_all met (declared_in v.module)) vs

-- the checks of these hold, and so many are met; before them so many were
abbrev pub CountsVisits : Result ℕ End → List PlainModule → ℕ → List Visit → Type 0
CountsVisits r ms met vs = Counts r (visit_checks ms met vs) (visit_count met vs)

-- the checks of a declaration but for that of its name
abbrev pub checks_behind_name : List PlainModule → List (List ℕ) → List ℕ → ℕ → Declared → List Check
checks_behind_name ms above path met d =
    item_checks ms above d.item
    ++ check 28 d.place (nat_le (length (dotted path d.name)) longest_path && (not (declares_instance d.item) || nat_le (met + 1) most_instances))
    ∷ []
