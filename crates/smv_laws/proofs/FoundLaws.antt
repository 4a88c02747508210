-- What holds of the variables, definitions and actuals of all instances holds of what paths lead to.
use Rattle.std.proofs.Common.{◌≡◌, ℕ, zero, suc, ◌<◌, ◌^◌, Bool, true, false, not, ◌&&◌, ◌==◌, nat_lt, nat_le, if◌then◌else◌, List, [], ◌∷◌, map, position, Option, Some, None, bytes_eq, refl, sym, subst, arith}
use Rattle.std.proofs.lemmas.Bool.{eqb-true, ltb-true}
use Rattle.std.proofs.lemmas.Slice.Eq.{bytes_eq-Decides}
use mathlib.Core.Logic.{inl, inr, ⊎_elim}
use Rattle.std.specs.List.{slice_get, list_all}
use Rattle.smv_text.specs.declared.tree.Path.{Path}
use Rattle.smv_text.specs.declared.tree.Parameter.{Parameter}
use Rattle.smv_text.specs.declared.tree.VarKind.{VarKind}
use Rattle.smv_text.specs.declared.tree.VarKind.TheVariants as OfVarKind
use Rattle.smv_text.specs.declared.tree.Member.{Member}
use Rattle.smv_text.specs.declared.tree.Member.TheVariants as OfMember
use Rattle.smv_text.specs.Tree.{Tree, name, Trees, no_trees, tree, PlainDomain, boolean, members, between, bits, instance, PlainItem, PlainDefinition, PlainElement, vars, defines}
use Rattle.smv_meaning.specs.declared.value.Value.{Value}
use Rattle.smv_meaning.specs.declared.value.Value.TheVariants.{Truth, Bits}
use Rattle.smv_meaning.specs.Values.{Valuation, value_same, member_value, is_among, is_word_of, is_of_type}
use Rattle.smv_meaning.specs.Instances.{Instance, dotted}
use Rattle.smv_meaning.specs.Names.{Local, alias, body_of, variable_of, inner, nothing, of_actual, of_domain, among_items, among_definitions, among_elements, among_parameters, parent_of, local_in, local, Found, variable_at, body_at, instance_at, symbol_of, cyclic, none, at_child, is_child, path_in, onward, is_end, walk, has_symbol, single, through, resolved, landed, look, steps_of, found_in}
use Rattle.smv_meaning.specs.Meaning.{is_input}
use Rattle.smv_meaning.specs.Runs.{domain_fits, is_fit, element_fits, state_fits, label_fits}
use Rattle.smv_meaning.specs.Typed.{LiesIn, Lies, GivesFound, Gives}
use Rattle.std.proofs.lemmas.Int.{ints}
use Rattle.smv_meaning.specs.Operators.{is_width}
use Rattle.smv_meaning.specs.Types.{ExprType, integer_type, word_type, in_limit, are_same, hull_of, member_type}
use Rattle.smv_meaning.specs.Checks.{variable_type}
use Rattle.smv_meaning.specs.Naming.{typed_variable}
use Rattle.smv_laws.proofs.TypeLaws.{same_lies, between_lies}
use Rattle.smv_meaning.specs.laws.Booleans.{or_true, absurd_bool, both_true}
use Rattle.smv_laws.proofs.OperatorLaws.{width_of, LiesInOne, hull_of_holds}

-- ---- for any fact of what is found

-- it holds of instances, symbols, and where nothing is found
pub record Closed (P : Found → Type 0) : Type 0 where
  pub instances : (i : ℕ) → P (instance_at i)
  pub symbols : (x : List ℕ) → P (symbol_of x)
  pub circles : P cyclic
  pub missing : P none

abbrev pub LocalGood : (Found → Type 0) → List ℕ → ℕ → List ℕ → Local → Type 0
LocalGood P path i x (body_of j e) = P (body_at i x j e)
LocalGood P path i x (variable_of kind d) = P (variable_at (dotted path x) kind d)
LocalGood P path i x l = Unit {0}

child_good : (P : Found → Type 0) → Closed P → (o : Option ℕ) → P (at_child o)
child_good P k None = k.missing
child_good P k (Some c) = k.instances c

pick_good : (P : Found → Type 0) (b : Bool) (m n : Found) → P m → P n → P (if b then m else n)
pick_good P true m n h l = h
pick_good P false m n h l = l

onward_good : (P : Found → Type 0) → Closed P → (m : Found) (b : Bool) (go : ℕ → Found) → P m → ((c : ℕ) → P (go c)) → P (onward m b go)
onward_good P k (instance_at c) b go h l = l c
onward_good P k cyclic b go h l = h
onward_good P k (variable_at x kind d) b go h l = pick_good P b (variable_at x kind d) none h k.missing
onward_good P k (body_at i x j e) b go h l = pick_good P b (body_at i x j e) none h k.missing
onward_good P k (symbol_of x) b go h l = pick_good P b (symbol_of x) none h k.missing
onward_good P k none b go h l = pick_good P b none none h k.missing

walk_good : (P : Found → Type 0) → Closed P → (f : ℕ → List ℕ → Found) → ((i : ℕ) (x : List ℕ) → P (f i x)) → (i : ℕ) (xs : List (List ℕ)) → P (walk f i xs)
walk_good P k f h i [] = k.instances i
walk_good P k f h i (x ∷ xs) = onward_good P k (f i x) (is_end xs) (λ c. walk f c xs) (h i x) (λ c. walk_good P k f h c xs)

single_good : (P : Found → Type 0) → Closed P → (t : List Instance) (f : ℕ → List ℕ → Found) → ((i : ℕ) (x : List ℕ) → P (f i x)) → (i : ℕ) (x : List ℕ) (l : Local) → P (single t f i x l)
single_good P k t f h i x nothing = pick_good P (has_symbol t x) (symbol_of x) none (k.symbols x) k.missing
single_good P k t f h i x l = walk_good P k f h i (x ∷ [])

through_good : (P : Found → Type 0) → Closed P → (t : List Instance) (f : ℕ → List ℕ → Found) → ((i : ℕ) (x : List ℕ) → P (f i x)) → (i : ℕ) (xs : List (List ℕ)) → P (through t f i xs)
through_good P k t f h i [] = walk_good P k f h i []
through_good P k t f h i (x ∷ []) = single_good P k t f h i x (local t i x)
through_good P k t f h i (x ∷ y ∷ xs) = walk_good P k f h i (x ∷ y ∷ xs)

resolved_good : (P : Found → Type 0) → Closed P → (t : List Instance) (f : ℕ → List ℕ → Found) → ((i : ℕ) (x : List ℕ) → P (f i x)) → (i : ℕ) (path : Path) → P (resolved t f i path)
resolved_good P k t f h i path = pick_good P path.from_self (walk f i path.names) (through t f i path.names) (walk_good P k f h i path.names) (through_good P k t f h i path.names)

landed_good : (P : Found → Type 0) → Closed P → (t : List Instance) (f : ℕ → List ℕ → Found) → ((i : ℕ) (x : List ℕ) → P (f i x)) → (i : ℕ) (x : List ℕ) (l : Local)
    → LocalGood P (path_in (slice_get t i)) i x l → P (landed t f i x l)
landed_good P k t f h i x (alias j path) g = resolved_good P k t f h j path
landed_good P k t f h i x (body_of j e) g = g
landed_good P k t f h i x (variable_of kind d) g = g
landed_good P k t f h i x inner g = child_good P k (position (is_child i x) t)
landed_good P k t f h i x nothing g = k.missing

look_good : (P : Found → Type 0) → Closed P → (t : List Instance) → ((i : ℕ) (x : List ℕ) → LocalGood P (path_in (slice_get t i)) i x (local t i x)) → (n i : ℕ) (x : List ℕ) → P (look t n i x)
unfolding look
look_good P k t g zero i x = k.circles
look_good P k t g (suc n) i x = landed_good P k t (look t n) (look_good P k t g n) i x (local t i x) (g i x)

pub found_good : (P : Found → Type 0) → Closed P → (t : List Instance) → ((i : ℕ) (x : List ℕ) → LocalGood P (path_in (slice_get t i)) i x (local t i x)) → (i : ℕ) (path : Path) → P (found_in t i path)
found_good P k t g i path = resolved_good P k t (look t (steps_of t)) (look_good P k t g (steps_of t)) i path

-- ---- what one name is in its instance

pub in_place : (P : Found → Type 0) (i : ℕ) (x : List ℕ) (o : Option Instance) → ((at : Instance) → o ≡ Some at → LocalGood P at.path i x (local_in i x (Some at))) → LocalGood P (path_in o) i x (local_in i x o)
in_place P i x None h = tt
in_place P i x (Some at) h = h at refl

some_inj : {X : Type 0} (a b : X) → Some a ≡ Some b → a ≡ b
some_inj a b e = cc

pub there : {X : Type 0} (q : X → Bool) (xs : List X) (i : ℕ) (x : X) → list_all q xs ≡ true → slice_get xs i ≡ Some x → q x ≡ true
there q [] i x h e = cc
there q (y ∷ ys) zero x h e = let same : y ≡ x = some_inj y x e in subst (λ z. q z ≡ true) same (both_true (q y) (list_all q ys) h).0
there q (y ∷ ys) (suc i) x h e = there q ys i x (both_true (q y) (list_all q ys) h).1 e

pub by_name : (P : List ℕ → Local → Type 0) (y x : List ℕ) (l other : Local) → (y ≡ x → P x l) → P x other → P x (if bytes_eq y x then l else other)
by_name P y x l other h k = by (bytes_eq y x) refl
  where
    by : (b : Bool) → bytes_eq y x ≡ b → P x (if b then l else other)
    by true e = h ((bytes_eq-Decides y x).0 e)
    by false e = k

-- ---- states of the declared types

if_lies : (b : Bool) (t : Option ExprType) (v : Value) → (b ≡ true → Lies t v) → Lies (if b then t else None) v
if_lies true t v h = h refl
if_lies false t v h = tt

pub four_true : (a b c d : Bool) → (((a && b) && c) && d) ≡ true → (a ≡ true) × (b ≡ true) × (c ≡ true) × (d ≡ true)
four_true a b c d h =
    let x = both_true ((a && b) && c) d h in let y = both_true (a && b) c x.0 in let z = both_true a b y.0 in (z.0, z.1, y.1, x.1)

member_lies : (m : Member) → LiesIn (member_type m) (member_value m)
member_lies (OfMember.Symbol s) = tt
member_lies (OfMember.Integer z) = (omega (arith, ints), omega (arith, ints))

among_lies : (ms : List Member) (v : Value) → is_among ms v ≡ true → LiesInOne (map member_type ms) v
among_lies [] v h = absurd_bool h
among_lies (m ∷ ms) v h =
    ⊎_elim (λ l. inl (same_lies (member_type m) (member_value m) v l (member_lies m))) (λ l. inr (among_lies ms v l)) (or_true (value_same (member_value m) v) (is_among ms v) h)

word_lies : (n : ℕ) (v : Value) → is_width n ≡ true → is_word_of n v ≡ true → LiesIn (word_type n) v
word_lies n (Bits w) f h =
    let b = both_true (w.width == n) (nat_lt w.bits (2 ^ n)) h in
    let e = eqb-true w.width n b.0 in
    let d = width_of n f in
    (e, (omega (arith, d.0, e), omega (arith, d.1, e), subst (λ m. w.bits < 2 ^ m) (sym e) (ltb-true w.bits (2 ^ n) b.1)))
word_lies n v f h = cc

pub of_type_lies : (d : PlainDomain) (v : Value) → is_of_type d v ≡ true → Lies (variable_type d) v
of_type_lies boolean (Truth b) h = tt
of_type_lies boolean v h = cc
of_type_lies (members ms) v h = if_lies _ (Some (hull_of (map member_type ms))) v
    (λ p.
    let f = four_true (are_same (map member_type ms)) (in_limit (hull_of (map member_type ms))) true true p in
    hull_of_holds (map member_type ms) v f.0 (among_lies ms v h))
of_type_lies (between low high) v h = if_lies _ (Some (integer_type low high)) v (λ p. between_lies low high v h)
of_type_lies (bits n) v h = if_lies _ (Some (word_type n)) v
    (λ p. let f = four_true true true (is_width n) true p in word_lies n v f.2 (both_true (nat_le 1 n) (is_word_of n v) h).1)
of_type_lies (instance m actuals) v h = cc

gives_closed : (inputs : Bool) (s l : Valuation) → Closed (GivesFound inputs s l)
gives_closed inputs s l = record { instances = λ i. tt; symbols = λ x. tt; circles = tt; missing = tt }

-- a variable has a value of its type where it is declared
abbrev pub ItemGood : Bool → Valuation → Valuation → List ℕ → VarKind → PlainItem → Type 0
ItemGood inputs s l path kind item = Lies (typed_variable inputs kind item.domain) (if is_input kind then l (dotted path item.name) else s (dotted path item.name))

domain_good : (inputs : Bool) (s l : Valuation) (path : List ℕ) (i : ℕ) (x : List ℕ) (kind : VarKind) (d : PlainDomain)
    → Lies (typed_variable inputs kind d) (if is_input kind then l (dotted path x) else s (dotted path x)) → LocalGood (GivesFound inputs s l) path i x (of_domain kind d)
domain_good inputs s l path i x kind boolean h = h
domain_good inputs s l path i x kind (members ms) h = h
domain_good inputs s l path i x kind (between low high) h = h
domain_good inputs s l path i x kind (bits n) h = h
domain_good inputs s l path i x kind (instance m actuals) h = tt

gives_items : (inputs : Bool) (s l : Valuation) (path : List ℕ) (i : ℕ) (kind : VarKind) (q : PlainItem → Bool) → ((item : PlainItem) → q item ≡ true → ItemGood inputs s l path kind item)
    → (items : List PlainItem) (x : List ℕ) (other : Local) → list_all q items ≡ true → LocalGood (GivesFound inputs s l) path i x other
    → LocalGood (GivesFound inputs s l) path i x (among_items kind items x other)
gives_items inputs s l path i kind q good [] x other a h = h
gives_items inputs s l path i kind q good (item ∷ items) x other a h =
    let b = both_true (q item) (list_all q items) a in
    by_name (λ y m. LocalGood (GivesFound inputs s l) path i y m) item.name x (of_domain kind item.domain) (among_items kind items x other)
    (λ e. domain_good inputs s l path i x kind item.domain
    (subst (λ y. Lies (typed_variable inputs kind item.domain) (if is_input kind then l (dotted path y) else s (dotted path y))) e (good item b.0)))
    (gives_items inputs s l path i kind q good items x other b.1 h)

fit_lies : (d : PlainDomain) (v : Value) → domain_fits d v ≡ true → Lies (variable_type d) v
fit_lies boolean v h = of_type_lies boolean v h
fit_lies (members ms) v h = of_type_lies (members ms) v h
fit_lies (between low high) v h = of_type_lies (between low high) v h
fit_lies (bits n) v h = of_type_lies (bits n) v h
fit_lies (instance m actuals) v h = tt

all_true : (items : List PlainItem) → list_all (λ item. true) items ≡ true
all_true [] = refl
all_true (item ∷ items) = all_true items

vars_good : (inputs : Bool) (s l : Valuation) (path : List ℕ) (i : ℕ) (kind : VarKind) (items : List PlainItem) (x : List ℕ) (other : Local)
    → element_fits (λ k. not (is_input k)) path s (vars kind items) ≡ true → (inputs ≡ true → element_fits is_input path l (vars kind items) ≡ true) → LocalGood (GivesFound inputs s l) path i x other
    → LocalGood (GivesFound inputs s l) path i x (among_items kind items x other)
vars_good true s l path i OfVarKind.Input items x other a b h =
    gives_items true s l path i OfVarKind.Input (is_fit path l) (λ item f. fit_lies item.domain (l (dotted path item.name)) f) items x other (b refl) h
vars_good false s l path i OfVarKind.Input items x other a b h =
    gives_items false s l path i OfVarKind.Input (λ item. true) (λ item f. tt) items x other (all_true items) h
vars_good inputs s l path i OfVarKind.State items x other a b h =
    gives_items inputs s l path i OfVarKind.State (is_fit path s) (λ item f. fit_lies item.domain (s (dotted path item.name)) f) items x other a h
vars_good inputs s l path i OfVarKind.Frozen items x other a b h =
    gives_items inputs s l path i OfVarKind.Frozen (is_fit path s) (λ item f. fit_lies item.domain (s (dotted path item.name)) f) items x other a h

gives_definitions : (inputs : Bool) (s l : Valuation) (path : List ℕ) (i : ℕ) (ds : List PlainDefinition) (x : List ℕ) (other : Local) → LocalGood (GivesFound inputs s l) path i x other
    → LocalGood (GivesFound inputs s l) path i x (among_definitions i ds x other)
gives_definitions inputs s l path i [] x other h = h
gives_definitions inputs s l path i (d ∷ ds) x other h =
    by_name (λ y m. LocalGood (GivesFound inputs s l) path i y m) d.name x (body_of i d.body) (among_definitions i ds x other) (λ e. tt) (gives_definitions inputs s l path i ds x other h)

gives_elements : (inputs : Bool) (s l : Valuation) (path : List ℕ) (i : ℕ) (es : List PlainElement) (x : List ℕ)
    → list_all (element_fits (λ k. not (is_input k)) path s) es ≡ true → (inputs ≡ true → list_all (element_fits is_input path l) es ≡ true)
    → LocalGood (GivesFound inputs s l) path i x (among_elements i es x)
gives_elements inputs s l path i [] x a b = tt
gives_elements inputs s l path i (vars kind items ∷ es) x a b =
    let c = both_true (element_fits (λ k. not (is_input k)) path s (vars kind items)) (list_all (element_fits (λ k. not (is_input k)) path s) es) a in
    vars_good inputs s l path i kind items x (among_elements i es x) c.0 (λ e. (both_true (element_fits is_input path l (vars kind items)) (list_all (element_fits is_input path l) es) (b e)).0)
    (gives_elements inputs s l path i es x c.1 (λ e. (both_true (element_fits is_input path l (vars kind items)) (list_all (element_fits is_input path l) es) (b e)).1))
gives_elements inputs s l path i (defines ds ∷ es) x a b = gives_definitions inputs s l path i ds x (among_elements i es x) (gives_elements inputs s l path i es x a b)
gives_elements inputs s l path i (e ∷ es) x a b = gives_elements inputs s l path i es x a b

gives_actual : (inputs : Bool) (s l : Valuation) (path : List ℕ) (i j : ℕ) (x : List ℕ) (e : Tree) → LocalGood (GivesFound inputs s l) path i x (of_actual j e)
gives_actual inputs s l path i j x (name p q) = tt
gives_actual inputs s l path i j x e = tt

gives_parameters : (inputs : Bool) (s l : Valuation) (path : List ℕ) (i j : ℕ) (qs : List Parameter) (es : Trees) (x : List ℕ) (other : Local) → LocalGood (GivesFound inputs s l) path i x other
    → LocalGood (GivesFound inputs s l) path i x (among_parameters j qs es x other)
gives_parameters inputs s l path i j [] es x other h = h
gives_parameters inputs s l path i j (q ∷ qs) no_trees x other h = h
gives_parameters inputs s l path i j (q ∷ qs) (tree e es) x other h =
    by_name (λ y m. LocalGood (GivesFound inputs s l) path i y m) q.name x (of_actual j e) (among_parameters j qs es x other) (λ r. gives_actual inputs s l path i j x e) (gives_parameters inputs s l path i j qs es x other h)

pub gives_found : (inputs : Bool) (t : List Instance) (s l : Valuation) → state_fits t s ≡ true → (inputs ≡ true → label_fits t l ≡ true) → Gives inputs (found_in t) s l
gives_found inputs t s l a b i path = found_good (GivesFound inputs s l) (gives_closed inputs s l) t
    (λ i x. in_place (GivesFound inputs s l) i x (slice_get t i)
    (λ at e.
    let c = there (λ at. list_all (element_fits (λ k. not (is_input k)) at.path s) at.module.elements) t i at a e in
    gives_parameters inputs s l at.path i (parent_of at) at.module.parameters at.actuals x (among_elements i at.module.elements x)
    (gives_elements inputs s l at.path i at.module.elements x c (λ f. there (λ at. list_all (element_fits is_input at.path l) at.module.elements) t i at (b f) e))))
    i path
