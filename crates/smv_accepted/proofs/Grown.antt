-- The paths of a model's instances differ, where the declarations of each module do.
use Rattle.std.proofs.Common.{◌≡◌, ◌≢◌, ℕ, zero, suc, Bool, true, false, if◌then◌else◌, List, [], ◌∷◌, ◌++◌, map, length, Option, Some, None, refl, sym, ap, ◌∙◌, subst, subst₂, append_assoc, append-nil}
use Rattle.std.specs.List.{AllByRecursion, flat_map}
use Rattle.std.proofs.lemmas.List.{map-append}
use Rattle.std.specs.Str.{bytes_eq}
use Rattle.smv_text.specs.declared.tree.Parameter.{Parameter}
use Rattle.smv_text.specs.Tree.{Trees, PlainDomain, boolean, members, between, bits, instance, PlainItem, PlainElement, vars, defines, constants, assigns, init, trans, invar, spec, PlainModule, PlainSource}
use Rattle.smv_meaning.specs.Instances.{Instance, dotted, module_named, placed, child_in, child_of, with_child, grow_items, grow_elements, grow, main_name, main_instance, grown_from, instances_of}
use Rattle.smv_meaning.specs.Phases.{element_declares, declared_in}
use Rattle.smv_items.specs.laws.Declarations.{name_of, declared_names, DiffersInside}
use Rattle.smv_accepted.specs.Names.{IsIdentifier}
use Rattle.smv_items.specs.laws.Differing.{all_weaker, all_unmapped, differ_joined, Within, none_left, kept, passed, within_joined, within_itself, none_within, all_within, differ_within}
use Rattle.smv_accepted.proofs.Dotted.{Tail, ended, onward, identifier_dotless, identifier_some, same_front, dotted_is, IsPath, dotted_path}
use Rattle.smv_accepted.proofs.Spelled.{HasIdentifiers}
use Rattle.name_maps.proofs.FreshNames.{AllDiffer, Lacks, all_back, all_front, all_joined, all_mapped}

-- ---- instances in a module of which all is an identifier

pub record IsWellNamed (at : Instance) : Type 0 where
  pub identifiers : HasIdentifiers at.module
  pub path : IsPath at.path

abbrev pub path_at : Instance → List ℕ
path_at at = at.path

-- ---- below an instance

-- a path that is this one, or goes on behind it with a dot
pub record Under (c q : List ℕ) : Type 0 where
  pub rest : List ℕ
  pub tail : Tail rest
  pub is : q ≡ c ++ rest

-- a path under that of one of these names
pub record Below (p : List ℕ) (names : List (List ℕ)) (q : List ℕ) : Type 0 where
  pub name : List ℕ
  pub among : Within (name ∷ []) names
  pub identifier : IsIdentifier name
  pub under : Under (dotted p name) q

under_named : (p x q : List ℕ) → p ≢ [] → Under (dotted p x) q → Under p q
under_named [] x q n u = absurd (n refl)
under_named (b ∷ p) x q n u =
    record { rest = 46 ∷ (x ++ u.rest); tail = onward (x ++ u.rest); is = u.is ∙ ap (λ l. l ++ u.rest) (dotted_is b p x) ∙ append_assoc (b ∷ p) (46 ∷ x) u.rest }

under_itself : (c : List ℕ) → Under c c
under_itself c = record { rest = []; tail = ended; is = sym (append-nil c) }

-- two names in an instance have no path in common
names_apart : (p x y : List ℕ) (q : List ℕ) → IsIdentifier x → IsIdentifier y → Under (dotted p x) q → Under (dotted p y) q → x ≡ y
names_apart [] x y q h k u v = same_front x y u.rest v.rest (identifier_dotless x h) (identifier_dotless y k) u.tail v.tail (sym u.is ∙ v.is)
names_apart (b ∷ p) x y q h k u v =
    same_front x y u.rest v.rest (identifier_dotless x h) (identifier_dotless y k) u.tail v.tail
    (front_off (b ∷ p) (x ++ u.rest) (y ++ v.rest)
    (sym (split x u.rest) ∙ sym u.is ∙ v.is ∙ split y v.rest))
  where
    split : (z r : List ℕ) → dotted (b ∷ p) z ++ r ≡ (b ∷ p) ++ 46 ∷ (z ++ r)
    split z r = ap (λ l. l ++ r) (dotted_is b p z) ∙ append_assoc (b ∷ p) (46 ∷ z) r

    front_off : (f us vs : List ℕ) → f ++ 46 ∷ us ≡ f ++ 46 ∷ vs → us ≡ vs
    front_off [] us vs e = cc
    front_off (c ∷ f) us vs e = front_off f us vs (let g : f ++ 46 ∷ us ≡ f ++ 46 ∷ vs = cc in g)

-- a name and what is below it, and what is below other names
apart_from : (p : List ℕ) (names : List (List ℕ)) (x : List ℕ) → IsIdentifier x → Lacks names x → (q : List ℕ) → Under (dotted p x) q → (r : List ℕ) → Below p names r → r ≢ q
apart_from p names x h k q u r b e =
    (all_within (λ y. y ≢ x) b.among k).0 (names_apart p b.name x q b.identifier h (subst (Under (dotted p b.name)) e b.under) u)

-- ---- what is grown

-- what is added to the instances so far
pub record Grown (P : List ℕ → Type 0) (t all : List Instance) : Type 0 where
  pub new : List Instance
  pub is : all ≡ t ++ new
  pub well : AllByRecursion IsWellNamed new
  pub differ : AllByRecursion DiffersInside new → AllDiffer (map path_at new)
  pub paths : AllByRecursion P (map path_at new)

nothing_grown : (P : List ℕ → Type 0) (t : List Instance) → Grown P t t
nothing_grown P t = record { new = []; is = sym (append-nil t); well = tt; differ = λ h. tt; paths = tt }

-- one instance and all below it
abbrev Grows : (Instance → List Instance → List Instance) → Type 0
Grows g = (at : Instance) (t : List Instance) → IsWellNamed at → at.path ≢ [] → Grown (Under at.path) t (g at t)

module_identifiers : (ms : List PlainModule) (x : List ℕ) → AllByRecursion HasIdentifiers ms → (m : PlainModule) → module_named ms x ≡ Some m → HasIdentifiers m
module_identifiers [] x h m e = cc
module_identifiers (n ∷ ms) x h m e = by (bytes_eq n.name x) (module_identifiers ms x h.1 m) e
  where
    by : (b : Bool) → (module_named ms x ≡ Some m → HasIdentifiers m) → (if b then Some n else module_named ms x) ≡ Some m → HasIdentifiers m
    by true f e = subst HasIdentifiers (let g : n ≡ m = cc in g) h.0
    by false f e = f e

dotted_some : (p x : List ℕ) → x ≢ [] → dotted p x ≢ []
dotted_some [] x h e = h e
dotted_some (b ∷ p) x h e = cc

child_well : (ms : List PlainModule) (i : ℕ) (p x : List ℕ) (actuals : Trees) (o : Option PlainModule) (m : List ℕ) → module_named ms m ≡ o → AllByRecursion HasIdentifiers ms → IsPath p → IsIdentifier x
    → (g : Instance → List Instance → List Instance) → Grows g → (t : List Instance) → Grown (Under (dotted p x)) t (with_child g (placed i p x actuals o) t)
child_well ms i p x actuals None m e h k l g grows t = nothing_grown (Under (dotted p x)) t
child_well ms i p x actuals (Some n) m e h k l g grows t =
    grows (record { parent = Some i; name = x; path = dotted p x; «module» = n; actuals = actuals }) t
    (record { identifiers = module_identifiers ms m h n e; path = dotted_path p x k l }) (dotted_some p x (identifier_some x l))

domain_grown : (ms : List PlainModule) (i : ℕ) (p x : List ℕ) (d : PlainDomain) → AllByRecursion HasIdentifiers ms → IsPath p → IsIdentifier x
    → (g : Instance → List Instance → List Instance) → Grows g → (t : List Instance) → Grown (Under (dotted p x)) t (with_child g (child_in ms i p x d) t)
domain_grown ms i p x (instance m actuals) h k l g grows t = child_well ms i p x actuals (module_named ms m) m refl h k l g grows t
domain_grown ms i p x boolean h k l g grows t = nothing_grown (Under (dotted p x)) t
domain_grown ms i p x (members es) h k l g grows t = nothing_grown (Under (dotted p x)) t
domain_grown ms i p x (between a b) h k l g grows t = nothing_grown (Under (dotted p x)) t
domain_grown ms i p x (bits n) h k l g grows t = nothing_grown (Under (dotted p x)) t

abbrev item_name : PlainItem → List ℕ
item_name v = v.name

later_below : (p x : List ℕ) (names : List (List ℕ)) (q : List ℕ) → Below p names q → Below p (x ∷ names) q
later_below p x names q b = record { name = b.name; among = passed x (b.name ∷ []) names b.among; identifier = b.identifier; under = b.under }

first_below : (p x : List ℕ) (names : List (List ℕ)) → IsIdentifier x → (q : List ℕ) → Under (dotted p x) q → Below p (x ∷ names) q
first_below p x names h q u = record { name = x; among = kept x [] names (none_within names); identifier = h; under = u }

abbrev IsItemWell : PlainItem → Type 0
IsItemWell v = IsIdentifier v.name

-- what differs where the names of declarations differ
pub record GrownItems (p : List ℕ) (names : List (List ℕ)) (t all : List Instance) : Type 0 where
  pub new : List Instance
  pub is : all ≡ t ++ new
  pub well : AllByRecursion IsWellNamed new
  pub differ : AllByRecursion DiffersInside new → AllDiffer names → AllDiffer (map path_at new)
  pub paths : AllByRecursion (Below p names) (map path_at new)

lacks_all : (p x : List ℕ) (names : List (List ℕ)) → IsIdentifier x → Lacks names x → (rs : List (List ℕ)) → AllByRecursion (Below p names) rs → (q : List ℕ) → Under (dotted p x) q → Lacks rs q
lacks_all p x names h k rs l q u = all_weaker (Below p names) (λ r. r ≢ q) (apart_from p names x h k q u) rs l

items_grown : (ms : List PlainModule) (i : ℕ) (p : List ℕ) → AllByRecursion HasIdentifiers ms → IsPath p → (g : Instance → List Instance → List Instance) → Grows g
    → (items : List PlainItem) → AllByRecursion IsItemWell items → (t : List Instance) → GrownItems p (map item_name items) t (grow_items g ms i p items t)
items_grown ms i p h k g grows [] l t = record { new = []; is = sym (append-nil t); well = tt; differ = λ d n. tt; paths = tt }
items_grown ms i p h k g grows (item ∷ items) l t =
    let x = item.name in
    let names = map item_name items in
    let a = domain_grown ms i p x item.domain h k l.0 g grows t in
    let b = items_grown ms i p h k g grows items l.1 (with_child g (child_of ms i p item) t) in
    let joined : map path_at (a.new ++ b.new) ≡ map path_at a.new ++ map path_at b.new = map-append path_at a.new b.new in
    record {
      new = a.new ++ b.new;
      is = b.is ∙ ap (λ l. l ++ b.new) a.is ∙ append_assoc t a.new b.new;
      well = all_joined IsWellNamed a.new b.new a.well b.well;
      differ = λ d n. subst (λ (l : List (List ℕ)). AllDiffer l) (sym joined)
          (differ_joined (map path_at a.new) (map path_at b.new) (a.differ (all_front DiffersInside a.new b.new d)) (b.differ (all_back DiffersInside a.new b.new d) n.1)
          (all_weaker (Under (dotted p x)) (λ q. Lacks (map path_at b.new) q) (lacks_all p x names l.0 n.0 (map path_at b.new) b.paths) (map path_at a.new) a.paths));
      paths = subst (AllByRecursion (Below p (x ∷ names))) (sym joined)
          (all_joined (Below p (x ∷ names)) (map path_at a.new) (map path_at b.new)
          (all_weaker (Under (dotted p x)) (Below p (x ∷ names)) (first_below p x names l.0) (map path_at a.new) a.paths)
          (all_weaker (Below p names) (Below p (x ∷ names)) (later_below p x names) (map path_at b.new) b.paths));
    }

-- ---- all declarations of a module

abbrev element_items : PlainElement → List PlainItem
element_items (vars kind items) = items
element_items e = []

items_joined : (g : Instance → List Instance → List Instance) (ms : List PlainModule) (i : ℕ) (p : List ℕ) (xs ys : List PlainItem) (t : List Instance)
    → grow_items g ms i p (xs ++ ys) t ≡ grow_items g ms i p ys (grow_items g ms i p xs t)
items_joined g ms i p [] ys t = refl
items_joined g ms i p (x ∷ xs) ys t = items_joined g ms i p xs ys (with_child g (child_of ms i p x) t)

elements_items : (g : Instance → List Instance → List Instance) (ms : List PlainModule) (i : ℕ) (p : List ℕ) (es : List PlainElement) (t : List Instance)
    → grow_elements g ms i p es t ≡ grow_items g ms i p (flat_map element_items es) t
elements_items g ms i p [] t = refl
elements_items g ms i p (vars kind items ∷ es) t =
    elements_items g ms i p es (grow_items g ms i p items t) ∙ sym (items_joined g ms i p items (flat_map element_items es) t)
elements_items g ms i p (defines ds ∷ es) t = elements_items g ms i p es t
elements_items g ms i p (constants cs ∷ es) t = elements_items g ms i p es t
elements_items g ms i p (assigns xs ∷ es) t = elements_items g ms i p es t
elements_items g ms i p (init e ∷ es) t = elements_items g ms i p es t
elements_items g ms i p (trans e ∷ es) t = elements_items g ms i p es t
elements_items g ms i p (invar e ∷ es) t = elements_items g ms i p es t
elements_items g ms i p (spec o e ∷ es) t = elements_items g ms i p es t

-- the items are among the declarations
item_declared : (items : List PlainItem) → map name_of (map (λ (i : PlainItem). record { name = i.name; place = i.place; item = Some i }) items) ≡ map item_name items
item_declared [] = refl
item_declared (i ∷ items) = ap (λ l. i.name ∷ l) (item_declared items)

element_within : (e : PlainElement) → Within (map item_name (element_items e)) (map name_of (element_declares e))
element_within (vars kind items) = subst (Within (map item_name items)) (sym (item_declared items)) (within_itself (map item_name items))
element_within (defines ds) = none_within (map name_of (element_declares (defines ds)))
element_within (constants cs) = none_left
element_within (assigns xs) = none_left
element_within (init e) = none_left
element_within (trans e) = none_left
element_within (invar e) = none_left
element_within (spec o e) = none_left

elements_within : (es : List PlainElement) → Within (map item_name (flat_map element_items es)) (map name_of (flat_map element_declares es))
elements_within [] = none_left
elements_within (e ∷ es) =
    subst₂ Within (sym (map-append item_name (element_items e) (flat_map element_items es))) (sym (map-append name_of (element_declares e) (flat_map element_declares es)))
    (within_joined (element_within e) (elements_within es))

pub items_within : (m : PlainModule) → Within (map item_name (flat_map element_items m.elements)) (declared_names m)
items_within m =
    let ps = map (λ (q : Parameter). record { name = q.name; place = q.place; item = None }) m.parameters in
    subst (Within (map item_name (flat_map element_items m.elements))) (sym (map-append name_of ps (flat_map element_declares m.elements)))
    (within_joined (none_within (map name_of ps)) (elements_within m.elements))

-- ---- whole models

below_under : (p : List ℕ) (names : List (List ℕ)) → p ≢ [] → (q : List ℕ) → Below p names q → Under p q
below_under p names n q b = under_named p b.name q n b.under

-- a path below an instance is longer than its own
below_other : (p : List ℕ) (names : List (List ℕ)) (q : List ℕ) → Below p names q → q ≢ p
below_other [] names q b e = absurd (longer b.name b.under.rest b.identifier (sym b.under.is ∙ e))
  where
    longer : (x r : List ℕ) → IsIdentifier x → x ++ r ≡ [] → ⊥
    longer [] r h e = h
    longer (c ∷ x) r h e = cc
below_other (c ∷ p) names q b e =
    absurd (longer (c ∷ p) (b.name ++ b.under.rest) (sym (append_assoc (c ∷ p) (46 ∷ b.name) b.under.rest) ∙ ap (λ l. l ++ b.under.rest) (sym (dotted_is c p b.name)) ∙ sym b.under.is ∙ e))
  where
    longer : (f r : List ℕ) → f ++ 46 ∷ r ≡ f → ⊥
    longer [] r e = cc
    longer (d ∷ f) r e = longer f r (let g : f ++ 46 ∷ r ≡ f = cc in g)

-- an instance and all below it
pub record GrownComplete (p : List ℕ) (t all : List Instance) : Type 0 where
  pub new : List Instance
  pub is : all ≡ t ++ new
  pub well : AllByRecursion IsWellNamed new
  pub differ : AllByRecursion DiffersInside new → AllDiffer (map path_at new)
  pub under : p ≢ [] → AllByRecursion (Under p) (map path_at new)

items_well : (m : PlainModule) → HasIdentifiers m → AllByRecursion IsItemWell (flat_map element_items m.elements)
items_well m h =
    all_unmapped IsIdentifier item_name (flat_map element_items m.elements) (all_within IsIdentifier (items_within m) (all_mapped IsIdentifier name_of (declared_in m) h.declared))

grows_from : (g : Instance → List Instance → List Instance) → ((at : Instance) (t : List Instance) → IsWellNamed at → GrownComplete at.path t (g at t)) → Grows g
grows_from g f at t w some = let r = f at t w in record { new = r.new; is = r.is; well = r.well; differ = r.differ; paths = r.under some }

pub whole_grown : (ms : List PlainModule) → AllByRecursion HasIdentifiers ms → (n : ℕ) (at : Instance) (t : List Instance) → IsWellNamed at → GrownComplete at.path t (grow n ms at t)
unfolding grow
whole_grown ms h zero at t w = record { new = []; is = sym (append-nil t); well = tt; differ = λ d. tt; under = λ n. tt }
whole_grown ms h (suc n) at t w =
    let items = flat_map element_items at.module.elements in
    let names = map item_name items in
    let r = items_grown ms (length t) at.path h w.path (grow n ms) (grows_from (grow n ms) (whole_grown ms h n)) items (items_well at.module w.identifiers) (t ++ at ∷ []) in
    record {
      new = at ∷ r.new;
      is = elements_items (grow n ms) ms (length t) at.path at.module.elements (t ++ at ∷ []) ∙ r.is ∙ append_assoc t (at ∷ []) r.new;
      well = (w, r.well);
      differ = λ d. (all_weaker (Below at.path names) (λ q. q ≢ at.path) (below_other at.path names) (map path_at r.new) r.paths, r.differ d.1 (differ_within (items_within at.module) d.0));
      under = λ some. (under_itself at.path, all_weaker (Below at.path names) (Under at.path) (below_under at.path names some) (map path_at r.new) r.paths);
    }

-- what is known of the instances of a model
pub record AreInstances (t : List Instance) : Type 0 where
  pub well : AllByRecursion IsWellNamed t
  pub differ : AllByRecursion DiffersInside t → AllDiffer (map path_at t)

from_main : (ms : List PlainModule) → AllByRecursion HasIdentifiers ms → (o : Option PlainModule) → module_named ms main_name ≡ o → AreInstances (grown_from ms o)
from_main ms h None e = record { well = tt; differ = λ d. tt }
from_main ms h (Some m) e =
    let r = whole_grown ms h (length ms) (main_instance m) [] (record { identifiers = module_identifiers ms main_name h m e; path = tt }) in
    record {
      well = subst (AllByRecursion IsWellNamed) (sym r.is) r.well;
      differ = λ d. subst (λ (l : List Instance). AllDiffer (map path_at l)) (sym r.is) (r.differ (subst (AllByRecursion DiffersInside) r.is d));
    }

pub are_instances : (source : PlainSource) → AllByRecursion HasIdentifiers source.modules → AreInstances (instances_of source)
are_instances source h = from_main source.modules h (module_named source.modules main_name) refl
