-- What is kept while an expression is evaluated: the values of variables, and of the definitions and actuals that it reaches.
use Rattle.std.specs.Prelude.{◌≡◌, ℕ, Bool, true, false, ◌&&◌, ◌||◌, ◌==◌, if◌then◌else◌, List, map, Option, Some, None, is_some, bytes_eq}
use Rattle.std.specs.Borrow.{Bor}
use Rattle.std.specs.HashMap.{HashMap, get_by}
use Rattle.smv_text.specs.declared.tree.Path.{Path}
use Rattle.smv_text.specs.Tree.{Tree, Links, Branches, Trees}
use Rattle.smv_meaning.specs.declared.value.Value.{Value}
use Rattle.smv_operators.specs.declared.seen.Seen.{Seen}
use Rattle.smv_evaluation.specs.declared.dotted.Dotted.{Dotted}
use Rattle.smv_evaluation.specs.declared.rows.Values.{Values}
use Rattle.smv_evaluation.specs.declared.rows.Row.{Row}
use Rattle.smv_evaluation.specs.declared.evaluate.Scene.{Scene}
use Rattle.smv_evaluation.specs.declared.reached.Reach.{Reach}
use Rattle.smv_meaning.specs.Bodies.{placed_bodies, IsBodyOrder}
use Rattle.smv_instances.specs.declared.instances.Instance.{Instance as PartOf}
use Rattle.smv_meaning.specs.Values.{Valuation, no_value}
use Rattle.smv_meaning.specs.Expressions.{Denotation, denote, chosen, taken}
use Rattle.smv_meaning.specs.Instances.{Instance, dotted}
use Rattle.smv_evaluation.specs.Dotting.{dotted_name}
use Rattle.smv_meaning.specs.Names.{Local, body_of, local, Found, body_at}
use Rattle.smv_meaning.specs.Meaning.{value_found}
use Rattle.name_maps.specs.Maps.{named_in}
use Rattle.smv_meaning.specs.Reached.{leads_to, local_leads_to}
use Rattle.smv_meaning.specs.Safety.{Safe, SafeLinks, SafeOperands, SafeBranches, SafeTrees}
use Rattle.smv_meaning.specs.Settled.{values_in}
use Rattle.smv_operators.specs.View.{seen_value}
use Rattle.smv_evaluation.specs.View.{stated}
use Rattle.smv_instances.specs.View.{instance_plain, found_here}
use Rattle.smv_references.specs.View.{body_plain}

-- ---- values of variables

-- a value by its name, or what stands for it where there is none
abbrev pub found_value : Option (Bor Value) → Value
found_value None = no_value
found_value (Some v) = v.now

-- the value of a dotted name
abbrev pub at_dotted : {X S : Type 0} → HashMap Dotted X S → List ℕ → List ℕ → Option X
at_dotted m p x = get_by (λ k. bytes_eq (dotted p x) (dotted_name k)) m

-- each name has the value that the state gives it
abbrev pub AreGiven : Values → Type 0
AreGiven values = (p : List ℕ) (x : List ℕ) → found_value (at_dotted values.named p x) ≡ stated values.given (dotted p x)

-- ---- values of names

-- what is kept, or what stands for a value where there is none
abbrev pub cached_value : Option Seen → Value
cached_value None = no_value
cached_value (Some s) = seen_value s

-- the values of all names in the state under the label
abbrev pub row_values : List PartOf → Row → Values → ℕ → Path → Value
row_values ts row label = values_in (map instance_plain ts) (stated row.state.given) (stated label.given)

-- the values of the names of an instance: those of what they lead to
unfoldable pub row_reads : List PartOf → ℕ → Row → Values → Path → Value
row_reads ts i row label path = value_found (row_values ts row label) (stated row.state.given) (stated label.given) (found_here ts i path)

-- the value of a definition or an actual is kept
abbrev pub FoundIsCached : List PartOf → Row → Values → Found → Type 0
FoundIsCached ts row label (body_at k x j e) = cached_value (named_in row.bodies k x) ≡ (denote (row_values ts row label j) (row_values ts row label j) e).value
FoundIsCached ts row label m = Unit {0}

-- what is owed of a name, so that its value is read in the row
unfoldable pub IsCached : List PartOf → ℕ → Row → Values → Path → Type 0
IsCached ts i row label path = AreGiven row.state × AreGiven label × FoundIsCached ts row label (found_here ts i path)

-- ---- what an expression reaches

abbrev pub is_marked : {S : Type 0} → HashMap (ℕ × Bor (List ℕ)) Bool S → ℕ → List ℕ → Bool
is_marked marks k x = is_some (named_in marks k x)

-- what the expression leads to is marked
abbrev pub MarksStart : {S : Type 0} → List Instance → ℕ → Tree → HashMap (ℕ × Bor (List ℕ)) Bool S → Type 0
MarksStart t i e marks = (k : ℕ) (x : List ℕ) → leads_to t i e k x ≡ true → is_marked marks k x ≡ true

-- what the bodies of marked ones lead to is marked
abbrev pub MarksClosed : {S : Type 0} → List Instance → HashMap (ℕ × Bor (List ℕ)) Bool S → Type 0
MarksClosed t marks = (k : ℕ) (x : List ℕ) (l : ℕ) (y : List ℕ) → is_marked marks k x ≡ true → local_leads_to t (local t k x) l y ≡ true → is_marked marks l y ≡ true

-- all that is marked passes each test that holds of what the expression leads to, and goes over to what bodies lead to
abbrev pub MarksLeast : {S : Type 0} → List Instance → ℕ → Tree → HashMap (ℕ × Bor (List ℕ)) Bool S → Type 0
MarksLeast t i e marks = (test : ℕ → List ℕ → Bool) → ((k : ℕ) (x : List ℕ) → leads_to t i e k x ≡ true → test k x ≡ true)
    → ((k : ℕ) (x : List ℕ) (l : ℕ) (y : List ℕ) → test k x ≡ true → local_leads_to t (local t k x) l y ≡ true → test l y ≡ true)
    → (k : ℕ) (x : List ℕ) → is_marked marks k x ≡ true → test k x ≡ true

-- all definitions and actuals, and an order in which each is after those to which it refers
pub record IsOrdered (t : List Instance) (reach : Reach) : Type 0 where
  pub bodies : map body_plain reach.bodies.items ≡ placed_bodies t
  pub order : IsBodyOrder t reach.order

-- ---- rows

abbrev pub is_written : Local → Bool
is_written (body_of j e) = true
is_written l = false

-- its body is safely evaluated by what is kept
abbrev pub LocalReady : List PartOf → Row → Values → Local → Type 0
LocalReady ts row label (body_of j e) = Safe (IsCached ts j row label) (IsCached ts j row label) (row_reads ts j row label) (row_reads ts j row label) e
LocalReady ts row label l = Unit {0}

abbrev pub local_value : List PartOf → Row → Values → Local → Value
local_value ts row label (body_of j e) = (denote (row_reads ts j row label) (row_reads ts j row label) e).value
local_value ts row label l = no_value

-- its evaluation under the values of all names is safe
abbrev pub LocalSafe : (ℕ → Path → Value) → Local → Type 0
LocalSafe values (body_of j e) = Safe (λ q. Unit {0}) (λ q. Unit {0}) (values j) (values j) e
LocalSafe values l = Unit {0}

abbrev pub MarkedSafe : {S : Type 0} → List Instance → HashMap (ℕ × Bor (List ℕ)) Bool S → Valuation → Valuation → Type 0
MarkedSafe t marks state label = (k : ℕ) (x : List ℕ) → is_marked marks k x ≡ true → LocalSafe (values_in t state label) (local t k x)

-- the values of all that is marked are kept
abbrev pub MarkedAreCached : {S : Type 0} → List PartOf → HashMap (ℕ × Bor (List ℕ)) Bool S → Row → Values → Type 0
MarkedAreCached ts marks row label = (k : ℕ) (x : List ℕ) (j : ℕ) (e : Tree) → is_marked marks k x ≡ true → local (map instance_plain ts) k x ≡ body_of j e → FoundIsCached ts row label (body_at k x j e)

-- ---- an expression in a scene, by what is kept for this state and for the following one

abbrev pub reads_now : Scene → Path → Value
reads_now s = row_reads s.table.now s.instance s.current.now s.label.now

abbrev pub reads_later : Scene → Path → Value
reads_later s = row_reads s.table.now s.instance s.following.now s.label.now

abbrev pub IsCachedNow : Scene → Path → Type 0
IsCachedNow s = IsCached s.table.now s.instance s.current.now s.label.now

abbrev pub IsCachedLater : Scene → Path → Type 0
IsCachedLater s = IsCached s.table.now s.instance s.following.now s.label.now

abbrev pub CachedSafe : Scene → Tree → Type 0
CachedSafe s e = Safe (IsCachedNow s) (IsCachedLater s) (reads_now s) (reads_later s) e

abbrev pub CachedSafeLinks : Scene → Value → Links → Type 0
CachedSafeLinks s v ls = SafeLinks (IsCachedNow s) (IsCachedLater s) (reads_now s) (reads_later s) v ls

abbrev pub CachedSafeOperands : Scene → Links → Type 0
CachedSafeOperands s ls = SafeOperands (IsCachedNow s) (IsCachedLater s) (reads_now s) (reads_later s) ls

abbrev pub CachedSafeBranches : Scene → Branches → Type 0
CachedSafeBranches s bs = SafeBranches (IsCachedNow s) (IsCachedLater s) (reads_now s) (reads_later s) bs

abbrev pub CachedSafeTrees : Scene → Trees → Type 0
CachedSafeTrees s es = SafeTrees (IsCachedNow s) (IsCachedLater s) (reads_now s) (reads_later s) es

abbrev pub cached_denote : Scene → Tree → Denotation
cached_denote s e = denote (reads_now s) (reads_later s) e

abbrev pub cached_chosen : Scene → Branches → Denotation → Denotation
cached_chosen s bs d = chosen (reads_now s) (reads_later s) bs d

-- the expression is the one that is chosen: the value of the first branch whose condition is true, else the last one
abbrev pub IsChosen : Scene → Branches → (last e : Tree) → Type 0
IsChosen s bs last e = cached_denote s e ≡ cached_chosen s bs (cached_denote s last)

abbrev pub cached_taken : Scene → Branches → Denotation
cached_taken s bs = taken (reads_now s) (reads_later s) bs

-- ---- what an evaluation changes

-- the value of one of the names that are definitions or actuals with a body is kept, and those of all others stay
abbrev pub KeepsLocal : List PartOf → (old new : Row) → Values → ℕ → List ℕ → Type 0
KeepsLocal ts old new label i x = (k : ℕ) (y : List ℕ) → cached_value (named_in new.bodies k y)
    ≡ (if is_written (local (map instance_plain ts) i x) && (i == k && bytes_eq x y) then local_value ts old label (local (map instance_plain ts) i x) else cached_value (named_in old.bodies k y))

-- the same, where the name is marked
abbrev pub KeepsMarked : {S : Type 0} → List PartOf → HashMap (ℕ × Bor (List ℕ)) Bool S → (old new : Row) → Values → ℕ → List ℕ → Type 0
KeepsMarked ts marks old new label i x = (k : ℕ) (y : List ℕ) → cached_value (named_in new.bodies k y)
    ≡ (if is_marked marks i x && (is_written (local (map instance_plain ts) i x) && (i == k && bytes_eq x y)) then local_value ts old label (local (map instance_plain ts) i x) else cached_value (named_in old.bodies k y))

-- what the body of the name leads to is marked too, where the name is marked itself
abbrev pub MarkedOn : {S : Type 0} → List Instance → (old new : HashMap (ℕ × Bor (List ℕ)) Bool S) → ℕ → List ℕ → Type 0
MarkedOn t old new i x = (l : ℕ) (y : List ℕ) → is_marked new l y ≡ (is_marked old l y || (is_marked old i x && local_leads_to t (local t i x) l y))
