-- Where aliases lead, each found once: how deep the aliases on its way lead into one another, and what is at the end.
use Rattle.std.specs.Prelude.{◌≡◌, ◌≤◌, ℕ, suc, ◌+◌, ◌==◌, ◌&&◌, nat_lt, Bool, true, false, List, [], ◌∷◌, if◌then◌else◌, Option, Some, None, is_some, bytes_eq}
use Rattle.std.specs.List.{list_any}
use Rattle.name_maps.specs.declared.instance_rows.InstanceRows.{InstanceRows}
use Rattle.smv_instances.specs.declared.leads.Lead.{Lead}
use Rattle.smv_instances.specs.declared.leads.Key.{Key}
use Rattle.smv_instances.specs.declared.leads.Walk.{Walk}
use Rattle.smv_instances.specs.declared.leads.Walk.TheVariants.{Ends, Waits}
use Rattle.smv_meaning.specs.Instances.{Instance}
use Rattle.smv_meaning.specs.Names.{Local, alias, local, Found, cyclic, look}
use Rattle.name_maps.specs.Rows.{row_in}
use Rattle.smv_instances.specs.View.{found_plain, Declares}

-- cyclic where fewer steps are taken
abbrev pub until : ℕ → ℕ → Found → Found
until r n m = if nat_lt n r then cyclic else m

abbrev pub is_alias : Local → Bool
is_alias (alias j path) = true
is_alias l = false

abbrev pub LeadsTo : List Instance → (ℕ → Found) → Lead → Type 0
LeadsTo t g lead = (n : ℕ) → g n ≡ until lead.depth n (found_plain t lead.target)

abbrev pub NameLeads : List Instance → ℕ → List ℕ → Option Lead → Type 0
NameLeads t i x None = Unit {0}
NameLeads t i x (Some lead) = LeadsTo t (λ n. look t n i x) lead × Declares t lead.target

-- each lead that is kept is right
abbrev pub Right : List Instance → InstanceRows Lead → Type 0
Right t m = (i : ℕ) (x : List ℕ) → NameLeads t i x (row_in m i x)

-- an alias of which no lead is kept
abbrev pub IsOpen : List Instance → InstanceRows Lead → ℕ → List ℕ → Type 0
IsOpen t m i x = (is_alias (local t i x) ≡ true) × (row_in m i x ≡ None)

-- what is open with more leads was open before
abbrev pub StaysClosed : List Instance → InstanceRows Lead → InstanceRows Lead → Type 0
StaysClosed t was now = (i : ℕ) (x : List ℕ) → IsOpen t now i x → IsOpen t was i x

-- a lead is at most one deeper than this
abbrev pub IsShallow : ℕ → Option Lead → Type 0
IsShallow n None = Unit {0}
IsShallow n (Some lead) = lead.depth ≤ n + 1

abbrev pub AreShallow : InstanceRows Lead → ℕ → Type 0
AreShallow m n = (i : ℕ) (x : List ℕ) → IsShallow n (row_in m i x)

-- as deep as one of the leads that are kept, or as one step
abbrev pub IsWithin : InstanceRows Lead → ℕ → Type 0
IsWithin m depth = (n : ℕ) → AreShallow m n → depth ≤ n + 1

abbrev pub LeadAt : List Instance → InstanceRows Lead → ℕ → List ℕ → Option Lead → Type 0
LeadAt t m i x None = IsOpen t m i x
LeadAt t m i x (Some lead) = LeadsTo t (λ n. look t n i x) lead × IsWithin m lead.depth × Declares t lead.target

-- a walk ends, or comes to an open alias
abbrev pub WalkOf : List Instance → InstanceRows Lead → (ℕ → Found) → Walk → Type 0
WalkOf t m g (Ends lead) = LeadsTo t g lead × IsWithin m lead.depth × Declares t lead.target
WalkOf t m g (Waits key) = IsOpen t m key.instance key.name.now × ((n : ℕ) → look t n key.instance key.name.now ≡ cyclic → g n ≡ cyclic)

-- an open alias comes to an open alias
abbrev pub IsWaiting : List Instance → InstanceRows Lead → ℕ → List ℕ → Type 0
IsWaiting t m i x = (j : ℕ) × (y : List ℕ) × IsOpen t m j y × ((n : ℕ) → look t n j y ≡ cyclic → look t (suc n) i x ≡ cyclic)

-- an alias, where it is open, comes to an open alias
abbrev pub WaitsIfOpen : List Instance → InstanceRows Lead → ℕ → List ℕ → Type 0
WaitsIfOpen t m i x = IsOpen t m i x → IsWaiting t m i x

-- each open alias comes to an open alias, so all of them lead into cycles
abbrev pub IsClosed : List Instance → InstanceRows Lead → Type 0
IsClosed t m = (i : ℕ) (x : List ℕ) → WaitsIfOpen t m i x

abbrev pub is_key : ℕ → List ℕ → Key → Bool
is_key i x key = key.instance == i && bytes_eq key.name.now x

-- each alias is among the keys
abbrev pub AreAll : List Instance → List Key → Type 0
AreAll t ks = (i : ℕ) (x : List ℕ) → is_alias (local t i x) ≡ true → list_any (is_key i x) ks ≡ true

-- how many of the parameters have a lead that is kept
abbrev pub led : InstanceRows Lead → List Key → ℕ
led m [] = 0
led m (key ∷ keys) = (if is_some (row_in m key.instance key.name.now) then 1 else 0) + led m keys

-- each lead that is kept is at most one deeper than the parameters that have one are many
abbrev pub AreCounted : InstanceRows Lead → List Key → Type 0
AreCounted m ks = AreShallow m (led m ks)

-- the walk of a parameter that is an open alias
abbrev pub KeyWalk : List Instance → InstanceRows Lead → ℕ → List ℕ → Option Walk → Type 0
KeyWalk t m i x None = ¬ IsOpen t m i x
KeyWalk t m i x (Some (Ends lead)) = ((n : ℕ) → look t n i x ≡ until (lead.depth + 1) n (found_plain t lead.target)) × IsOpen t m i x × IsWithin m lead.depth × Declares t lead.target
KeyWalk t m i x (Some (Waits key)) = IsOpen t m key.instance key.name.now × ((n : ℕ) → look t n key.instance key.name.now ≡ cyclic → look t (suc n) i x ≡ cyclic)

-- each of these parameters that is open comes to an open alias
abbrev pub AllWait : List Instance → InstanceRows Lead → List Key → Type 0
AllWait t m ks = (i : ℕ) (x : List ℕ) → list_any (is_key i x) ks ≡ true → WaitsIfOpen t m i x
