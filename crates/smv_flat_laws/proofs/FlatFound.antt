-- What a path leads to has an item, or is a symbol.
use Rattle.std.proofs.Common.{◌≡◌, ℕ, zero, suc, ◌+◌, ◌<◌, Bool, true, false, ◌&&◌, ◌||◌, ◌==◌, if◌then◌else◌, List, [], ◌∷◌, ◌++◌, map, position, flat_map, Option, Some, None, bytes_eq, refl, sym, ap, ◌∙◌, subst, arith}
use mathlib.Core.Logic.{◌⊎◌, inl, inr, ⊎_elim}
use Rattle.std.specs.List.{slice_get, list_any}
use Rattle.std.proofs.lemmas.Bool.{eqb-true, eq-eqb}
use Rattle.std.proofs.lemmas.Slice.Eq.{bytes_eq-Decides}
use Rattle.smv_text.specs.declared.tree.Path.{Path}
use Rattle.smv_text.specs.declared.tree.Parameter.{Parameter}
use Rattle.smv_text.specs.declared.tree.VarKind.{VarKind}
use Rattle.smv_text.specs.declared.tree.VarKind.TheVariants as OfVarKind
use Rattle.smv_text.specs.declared.tree.Member.{Member}
use Rattle.smv_text.specs.declared.tree.Member.TheVariants as OfMember
use Rattle.smv_text.specs.Tree.{Tree, truth, number, literal, name, prefix, chain, choice, cases, select, call, next, set, range, Trees, no_trees, tree, PlainDomain, boolean, members, between, bits, instance, PlainItem, PlainDefinition, PlainElement, vars, defines, constants, assigns, init, trans, invar, spec}
use Rattle.smv_meaning.specs.Instances.{Instance, is_one_of}
use Rattle.smv_meaning.specs.Names.{Local, alias, body_of, variable_of, inner, nothing, of_actual, of_domain, among_items, among_definitions, among_elements, among_parameters, parent_of, local_in, local, Found, variable_at, body_at, instance_at, symbol_of, cyclic, none, at_child, is_child, onward, is_end, walk, is_symbol, domain_has, item_has, element_has, instance_has, has_symbol, symbol_or_none, single, through, resolved, landed, look, steps_of, found_in, dotted_at}
use Rattle.smv_meaning.specs.Phases.{over_instances}
use Rattle.smv_items.specs.FlatItems.{Content, variable, definition, actual, Origin, with_content, actual_content, actual_items, domain_content, variable_item, definition_item, element_items, items_here, origins_of, member_symbols, domain_symbols, element_symbols, gathered, symbols_of, is_variable_as, is_body, path_of}
use Rattle.smv_flat_laws.proofs.FlatPlaces.{first, At, first_at, first_left, first_right, any_left, any_right, none_joined, any_first}
use Rattle.smv_laws.proofs.Cycles.{right_true}

pub bytes_self : (x : List ℕ) → bytes_eq x x ≡ true
bytes_self x = (bytes_eq-Decides x x).1 refl

-- ---- bodies

abbrev pub body_in : Content → Option (ℕ × Tree)
body_in (variable kind d) = None
body_in (definition j e) = Some (j, e)
body_in (actual j e) = Some (j, e)

abbrev pub origin_body : Origin → Option (ℕ × Tree)
origin_body m = body_in m.content

abbrev pub pair : ℕ → Tree → ℕ × Tree
pair j e = (j, e)

-- the item is the body of this name in this instance
abbrev pub is_body_of : ℕ → List ℕ → Origin → Bool
is_body_of i x m = is_body m.content && (m.instance == i && bytes_eq m.name x)

pub bytes_is : (x y : List ℕ) → bytes_eq x y ≡ true → x ≡ y
bytes_is x y h = (bytes_eq-Decides x y).0 h

number_self : (i : ℕ) → (i == i) ≡ true
number_self i = eq-eqb i i refl

and_false : (a b : Bool) → b ≡ false → (a && b) ≡ false
and_false true b h = h
and_false false b h = refl

false_and : (a b : Bool) → a ≡ false → (a && b) ≡ false
false_and true b h = cc
false_and false b h = refl

pub both : (a b : Bool) → a && b ≡ true → (a ≡ true) × (b ≡ true)
both true b h = (refl, h)
both false b h = cc

or_none : (a b : Bool) → a ≡ false → b ≡ false → (a || b) ≡ false
or_none true b h k = cc
or_none false b h k = k

-- a body that is one of these is the actual's
actual_body : (i j : ℕ) (x : List ℕ) (y : List ℕ) (e : Tree) (k : ℕ) (b : Tree) (ms : List Origin) → bytes_eq y x ≡ true → of_actual j e ≡ body_of k b
    → first (is_body_of i x) origin_body (with_content i y (actual_content j e) ++ ms) ≡ Some (pair k b)
actual_body i j x y e k b ms h s = by e s
  where
    here : (c : Tree) → body_of j c ≡ body_of k b → (if true && ((i == i) && bytes_eq y x) then Some (pair j c) else first (is_body_of i x) origin_body ms) ≡ Some (pair k b)
    here c s =
        let p : j ≡ k = cc in let q : c ≡ b = cc in
        ap (λ t. if t && bytes_eq y x then Some (pair j c) else first (is_body_of i x) origin_body ms) (number_self i)
        ∙ ap (λ t. if t then Some (pair j c) else first (is_body_of i x) origin_body ms) h ∙ ap (λ n. Some (pair n c)) p ∙ ap (λ d. Some (pair k d)) q

    by : (c : Tree) → of_actual j c ≡ body_of k b → first (is_body_of i x) origin_body (with_content i y (actual_content j c) ++ ms) ≡ Some (pair k b)
    by (name p q) s = cc
    by (truth p c) s = here (truth p c) s
    by (number p n) s = here (number p n) s
    by (literal p w) s = here (literal p w) s
    by (prefix p sign n c) s = here (prefix p sign n c) s
    by (chain p c ls) s = here (chain p c ls) s
    by (choice p bs c) s = here (choice p bs c) s
    by (cases p bs) s = here (cases p bs) s
    by (select p c high low) s = here (select p c high low) s
    by (call p f cs) s = here (call p f cs) s
    by (next p c) s = here (next p c) s
    by (set p cs) s = here (set p cs) s
    by (range p low high) s = here (range p low high) s

-- an actual of another name isn't the one
other_actual : (i j : ℕ) (x y : List ℕ) (e : Tree) → bytes_eq y x ≡ false → list_any (is_body_of i x) (with_content i y (actual_content j e)) ≡ false
other_actual i j x y e h = by (actual_content j e)
  where
    by : (c : Option Content) → list_any (is_body_of i x) (with_content i y c) ≡ false
    by None = refl
    by (Some c) = or_none (is_body c && ((i == i) && bytes_eq y x)) false (and_false (is_body c) ((i == i) && bytes_eq y x) (and_false (i == i) (bytes_eq y x) h)) refl

-- what the actuals give, or else what comes behind them
abbrev pub Gives : ℕ → List ℕ → List Origin → Local → ℕ → Tree → Type 0
Gives i x ms other k b = (first (is_body_of i x) origin_body ms ≡ Some (pair k b)) ⊎ ((list_any (is_body_of i x) ms ≡ false) × (other ≡ body_of k b))

actuals_give : (i j : ℕ) (qs : List Parameter) (es : Trees) (x : List ℕ) (other : Local) (k : ℕ) (b : Tree)
    → among_parameters j qs es x other ≡ body_of k b → Gives i x (actual_items i j qs es) other k b
actuals_give i j [] es x other k b h = inr (refl, h)
actuals_give i j (q ∷ qs) no_trees x other k b h = inr (refl, h)
actuals_give i j (q ∷ qs) (tree e es) x other k b h = by (λ g. actuals_give i j qs es x other k b g) (bytes_eq q.name x) refl h
  where
    by : (among_parameters j qs es x other ≡ body_of k b → Gives i x (actual_items i j qs es) other k b) → (t : Bool) → bytes_eq q.name x ≡ t → (if t then of_actual j e else among_parameters j qs es x other) ≡ body_of k b
        → Gives i x (with_content i q.name (actual_content j e) ++ actual_items i j qs es) other k b
    by ih true s g = inl (actual_body i j x q.name e k b (actual_items i j qs es) s g)
    by ih false s g =
        let n = other_actual i j x q.name e s in
        ⊎_elim (λ a. inl (first_right (is_body_of i x) origin_body (with_content i q.name (actual_content j e)) (actual_items i j qs es) (pair k b) n a))
        (λ a. inr (none_joined (is_body_of i x) (with_content i q.name (actual_content j e)) (actual_items i j qs es) n a.0, a.1))
        (ih g)

-- variables are no bodies
variable_no_body : (i : ℕ) (x : List ℕ) (kind : VarKind) (v : PlainItem) → list_any (is_body_of i x) (variable_item i kind v) ≡ false
variable_no_body i x kind v = by v.domain
  where
    by : (d : PlainDomain) → list_any (is_body_of i x) (with_content i v.name (domain_content kind d)) ≡ false
    by boolean = refl
    by (members ms) = refl
    by (between low high) = refl
    by (bits n) = refl
    by (instance m es) = refl

variables_no_body : (i : ℕ) (x : List ℕ) (kind : VarKind) (vs : List PlainItem) → list_any (is_body_of i x) (flat_map (variable_item i kind) vs) ≡ false
variables_no_body i x kind [] = refl
variables_no_body i x kind (v ∷ vs) = none_joined (is_body_of i x) (variable_item i kind v) (flat_map (variable_item i kind) vs) (variable_no_body i x kind v) (variables_no_body i x kind vs)

-- a variable or an instance is no body
past_variables : (kind : VarKind) (vs : List PlainItem) (x : List ℕ) (other : Local) (k : ℕ) (b : Tree) → among_items kind vs x other ≡ body_of k b → other ≡ body_of k b
past_variables kind [] x other k b h = h
past_variables kind (v ∷ vs) x other k b h = by (λ s. past_variables kind vs x other k b s) (bytes_eq v.name x) h
  where
    here : (d : PlainDomain) → of_domain kind d ≡ body_of k b → other ≡ body_of k b
    here boolean s = cc
    here (members ms) s = cc
    here (between low high) s = cc
    here (bits n) s = cc
    here (instance m es) s = cc

    by : (among_items kind vs x other ≡ body_of k b → other ≡ body_of k b) → (t : Bool) → (if t then of_domain kind v.domain else among_items kind vs x other) ≡ body_of k b → other ≡ body_of k b
    by ih true s = here v.domain s
    by ih false s = ih s

definitions_give : (i : ℕ) (ds : List PlainDefinition) (x : List ℕ) (other : Local) (k : ℕ) (b : Tree)
    → among_definitions i ds x other ≡ body_of k b → Gives i x (map (definition_item i) ds) other k b
definitions_give i [] x other k b h = inr (refl, h)
definitions_give i (d ∷ ds) x other k b h = by (λ g. definitions_give i ds x other k b g) (bytes_eq d.name x) refl h
  where
    by : (among_definitions i ds x other ≡ body_of k b → Gives i x (map (definition_item i) ds) other k b) → (t : Bool) → bytes_eq d.name x ≡ t → (if t then body_of i d.body else among_definitions i ds x other) ≡ body_of k b
        → Gives i x (definition_item i d ∷ map (definition_item i) ds) other k b
    by ih true s g =
        let p : i ≡ k = cc in let q : d.body ≡ b = cc in
        inl (ap (λ t. if t && bytes_eq d.name x then Some (pair i d.body) else first (is_body_of i x) origin_body (map (definition_item i) ds)) (number_self i)
        ∙ ap (λ t. if t then Some (pair i d.body) else first (is_body_of i x) origin_body (map (definition_item i) ds)) s ∙ ap (λ n. Some (pair n d.body)) p ∙ ap (λ c. Some (pair k c)) q)
    by ih false s g =
        let n : is_body_of i x (definition_item i d) ≡ false = and_false (i == i) (bytes_eq d.name x) s in
        ⊎_elim (λ a. inl (ap (λ t. if t then Some (pair i d.body) else first (is_body_of i x) origin_body (map (definition_item i) ds)) n ∙ a))
        (λ a. inr (or_none (is_body_of i x (definition_item i d)) (list_any (is_body_of i x) (map (definition_item i) ds)) n a.0, a.1))
        (ih g)

elements_give : (i : ℕ) (es : List PlainElement) (x : List ℕ) (k : ℕ) (b : Tree) → among_elements i es x ≡ body_of k b → first (is_body_of i x) origin_body (flat_map (element_items i) es) ≡ Some (pair k b)
elements_give i [] x k b h = cc
elements_give i (vars kind items ∷ es) x k b h =
    first_right (is_body_of i x) origin_body (flat_map (variable_item i kind) items) (flat_map (element_items i) es) (pair k b) (variables_no_body i x kind items)
    (elements_give i es x k b (past_variables kind items x (among_elements i es x) k b h))
elements_give i (defines ds ∷ es) x k b h =
    ⊎_elim (λ a. first_left (is_body_of i x) origin_body (map (definition_item i) ds) (flat_map (element_items i) es) (pair k b) a)
    (λ a. first_right (is_body_of i x) origin_body (map (definition_item i) ds) (flat_map (element_items i) es) (pair k b) a.0 (elements_give i es x k b a.1))
    (definitions_give i ds x (among_elements i es x) k b h)
elements_give i (constants cs ∷ es) x k b h = elements_give i es x k b h
elements_give i (assigns xs ∷ es) x k b h = elements_give i es x k b h
elements_give i (init e ∷ es) x k b h = elements_give i es x k b h
elements_give i (trans e ∷ es) x k b h = elements_give i es x k b h
elements_give i (invar e ∷ es) x k b h = elements_give i es x k b h
elements_give i (spec l e ∷ es) x k b h = elements_give i es x k b h

instance_gives : (i : ℕ) (at : Instance) (x : List ℕ) (k : ℕ) (b : Tree) → local_in i x (Some at) ≡ body_of k b → first (is_body_of i x) origin_body (items_here i at) ≡ Some (pair k b)
instance_gives i at x k b h =
    let own = flat_map (element_items i) at.module.elements in
    let outer = actual_items i (parent_of at) at.module.parameters at.actuals in
    ⊎_elim (λ a. first_left (is_body_of i x) origin_body outer own (pair k b) a)
    (λ a. first_right (is_body_of i x) origin_body outer own (pair k b) a.0 (elements_give i at.module.elements x k b a.1))
    (actuals_give i (parent_of at) at.module.parameters at.actuals x (among_elements i at.module.elements x) k b h)

-- ---- items of other instances

apart_content : (n i : ℕ) (x y : List ℕ) (c : Option Content) → (n == i) ≡ false → list_any (is_body_of i x) (with_content n y c) ≡ false
apart_content n i x y None h = refl
apart_content n i x y (Some c) h = or_none (is_body c && ((n == i) && bytes_eq y x)) false (and_false (is_body c) ((n == i) && bytes_eq y x) (false_and (n == i) (bytes_eq y x) h)) refl

apart_actuals : (n i j : ℕ) (x : List ℕ) (qs : List Parameter) (es : Trees) → (n == i) ≡ false → list_any (is_body_of i x) (actual_items n j qs es) ≡ false
apart_actuals n i j x [] es h = refl
apart_actuals n i j x (q ∷ qs) no_trees h = refl
apart_actuals n i j x (q ∷ qs) (tree e es) h =
    none_joined (is_body_of i x) (with_content n q.name (actual_content j e)) (actual_items n j qs es) (apart_content n i x q.name (actual_content j e) h) (apart_actuals n i j x qs es h)

apart_variables : (n i : ℕ) (x : List ℕ) (kind : VarKind) (vs : List PlainItem) → (n == i) ≡ false → list_any (is_body_of i x) (flat_map (variable_item n kind) vs) ≡ false
apart_variables n i x kind [] h = refl
apart_variables n i x kind (v ∷ vs) h =
    none_joined (is_body_of i x) (variable_item n kind v) (flat_map (variable_item n kind) vs) (apart_content n i x v.name (domain_content kind v.domain) h) (apart_variables n i x kind vs h)

apart_definitions : (n i : ℕ) (x : List ℕ) (ds : List PlainDefinition) → (n == i) ≡ false → list_any (is_body_of i x) (map (definition_item n) ds) ≡ false
apart_definitions n i x [] h = refl
apart_definitions n i x (d ∷ ds) h = or_none ((n == i) && bytes_eq d.name x) (list_any (is_body_of i x) (map (definition_item n) ds)) (false_and (n == i) (bytes_eq d.name x) h) (apart_definitions n i x ds h)

apart_element : (n i : ℕ) (x : List ℕ) (e : PlainElement) → (n == i) ≡ false → list_any (is_body_of i x) (element_items n e) ≡ false
apart_element n i x (vars kind items) h = apart_variables n i x kind items h
apart_element n i x (defines ds) h = apart_definitions n i x ds h
apart_element n i x (constants cs) h = refl
apart_element n i x (assigns xs) h = refl
apart_element n i x (init e) h = refl
apart_element n i x (trans e) h = refl
apart_element n i x (invar e) h = refl
apart_element n i x (spec l e) h = refl

apart_elements : (n i : ℕ) (x : List ℕ) (es : List PlainElement) → (n == i) ≡ false → list_any (is_body_of i x) (flat_map (element_items n) es) ≡ false
apart_elements n i x [] h = refl
apart_elements n i x (e ∷ es) h = none_joined (is_body_of i x) (element_items n e) (flat_map (element_items n) es) (apart_element n i x e h) (apart_elements n i x es h)

apart_instance : (n i : ℕ) (x : List ℕ) (at : Instance) → (n == i) ≡ false → list_any (is_body_of i x) (items_here n at) ≡ false
apart_instance n i x at h =
    none_joined (is_body_of i x) (actual_items n (parent_of at) at.module.parameters at.actuals) (flat_map (element_items n) at.module.elements)
    (apart_actuals n i (parent_of at) x at.module.parameters at.actuals h) (apart_elements n i x at.module.elements h)

less_apart : (n i : ℕ) → n < i → (n == i) ≡ false
less_apart n i h = by (n == i) refl
  where
    by : (b : Bool) → (n == i) ≡ b → b ≡ false
    by true e = let s : n ≡ i = eqb-true n i e in absurd (omega arith)
    by false e = refl

bodies_at : (i : ℕ) (x : List ℕ) (k : ℕ) (b : Tree) (rest : List Instance) (from a : ℕ) → i ≡ from + a → local_in i x (slice_get rest a) ≡ body_of k b
    → first (is_body_of i x) origin_body (over_instances items_here from rest) ≡ Some (pair k b)
bodies_at i x k b [] from a s h = cc
bodies_at i x k b (at ∷ rest) from zero s h =
    let e : i ≡ from = omega arith in
    subst (λ n. first (is_body_of i x) origin_body (items_here n at ++ over_instances items_here (from + 1) rest) ≡ Some (pair k b)) e
    (first_left (is_body_of i x) origin_body (items_here i at) (over_instances items_here (from + 1) rest) (pair k b) (instance_gives i at x k b h))
bodies_at i x k b (at ∷ rest) from (suc a) s h =
    first_right (is_body_of i x) origin_body (items_here from at) (over_instances items_here (from + 1) rest) (pair k b)
    (apart_instance from i x at (less_apart from i (omega arith))) (bodies_at i x k b rest (from + 1) a (omega arith) h)

-- a definition or an actual is the first item that has its instance and its name
pub body_at_item : (t : List Instance) (i : ℕ) (x : List ℕ) (j : ℕ) (e : Tree) → local t i x ≡ body_of j e → At (is_body_of i x) origin_body (origins_of t) (pair j e)
body_at_item t i x j e h = first_at (is_body_of i x) origin_body (origins_of t) (pair j e) (bodies_at i x j e t 0 i (omega arith) h)

-- ---- variables

abbrev pub is_variable_of : List Instance → ℕ → List ℕ → VarKind → Origin → Bool
is_variable_of t i x kind m = is_variable_as kind m.content && bytes_eq (path_of t m) (dotted_at t i x)

as_self : (kind : VarKind) (d : PlainDomain) → is_variable_as kind (variable kind d) ≡ true
as_self OfVarKind.State d = refl
as_self OfVarKind.Input d = refl
as_self OfVarKind.Frozen d = refl

two_hold : (a b : Bool) → a ≡ true → b ≡ true → (a && b) ≡ true
two_hold true b h k = k
two_hold false b h k = cc

-- a parameter is no variable
pub past_parameters : (j : ℕ) (qs : List Parameter) (es : Trees) (x : List ℕ) (other : Local) (kind : VarKind) (d : PlainDomain)
    → among_parameters j qs es x other ≡ variable_of kind d → other ≡ variable_of kind d
past_parameters j [] es x other kind d h = h
past_parameters j (q ∷ qs) no_trees x other kind d h = h
past_parameters j (q ∷ qs) (tree e es) x other kind d h = by (λ s. past_parameters j qs es x other kind d s) (bytes_eq q.name x) h
  where
    here : (c : Tree) → of_actual j c ≡ variable_of kind d → other ≡ variable_of kind d
    here (name p q) s = cc
    here (truth p c) s = cc
    here (number p n) s = cc
    here (literal p w) s = cc
    here (prefix p sign n c) s = cc
    here (chain p c ls) s = cc
    here (choice p bs c) s = cc
    here (cases p bs) s = cc
    here (select p c high low) s = cc
    here (call p f cs) s = cc
    here (next p c) s = cc
    here (set p cs) s = cc
    here (range p low high) s = cc

    by : (among_parameters j qs es x other ≡ variable_of kind d → other ≡ variable_of kind d) → (b : Bool)
        → (if b then of_actual j e else among_parameters j qs es x other) ≡ variable_of kind d → other ≡ variable_of kind d
    by ih true s = here e s
    by ih false s = ih s

pub past_definitions : (i : ℕ) (ds : List PlainDefinition) (x : List ℕ) (other : Local) (kind : VarKind) (d : PlainDomain)
    → among_definitions i ds x other ≡ variable_of kind d → other ≡ variable_of kind d
past_definitions i [] x other kind d h = h
past_definitions i (c ∷ ds) x other kind d h = by (λ s. past_definitions i ds x other kind d s) (bytes_eq c.name x) h
  where
    by : (among_definitions i ds x other ≡ variable_of kind d → other ≡ variable_of kind d) → (b : Bool)
        → (if b then body_of i c.body else among_definitions i ds x other) ≡ variable_of kind d → other ≡ variable_of kind d
    by ih true s = cc
    by ih false s = ih s

variable_here : (t : List Instance) (i : ℕ) (y x : List ℕ) (kind k : VarKind) (c d : PlainDomain) → bytes_eq y x ≡ true → of_domain kind c ≡ variable_of k d
    → list_any (is_variable_of t i x k) (with_content i y (domain_content kind c)) ≡ true
variable_here t i y x kind k c d h s = by c s
  where
    here : (c : PlainDomain) → variable_of kind c ≡ variable_of k d → ((is_variable_as k (variable kind c) && bytes_eq (dotted_at t i y) (dotted_at t i x)) || false) ≡ true
    here c s =
        let p : kind ≡ k = cc in
        let w : is_variable_as k (variable kind c) ≡ true = ap (λ z. is_variable_as z (variable kind c)) (sym p) ∙ as_self kind c in
        let v : bytes_eq (dotted_at t i y) (dotted_at t i x) ≡ true = ap (λ z. bytes_eq (dotted_at t i z) (dotted_at t i x)) (bytes_is y x h) ∙ bytes_self (dotted_at t i x) in
        ap (λ b. b || false) (two_hold (is_variable_as k (variable kind c)) (bytes_eq (dotted_at t i y) (dotted_at t i x)) w v)

    by : (c : PlainDomain) → of_domain kind c ≡ variable_of k d → list_any (is_variable_of t i x k) (with_content i y (domain_content kind c)) ≡ true
    by boolean s = here boolean s
    by (members ms) s = here (members ms) s
    by (between low high) s = here (between low high) s
    by (bits n) s = here (bits n) s
    by (instance m es) s = cc

variables_have : (t : List Instance) (i : ℕ) (kind : VarKind) (vs : List PlainItem) (x : List ℕ) (other : Local) (k : VarKind) (d : PlainDomain) → among_items kind vs x other ≡ variable_of k d
    → (list_any (is_variable_of t i x k) (flat_map (variable_item i kind) vs) ≡ true) ⊎ (other ≡ variable_of k d)
variables_have t i kind [] x other k d h = inr h
variables_have t i kind (v ∷ vs) x other k d h = by (λ g. variables_have t i kind vs x other k d g) (bytes_eq v.name x) refl h
  where
    by : (among_items kind vs x other ≡ variable_of k d → (list_any (is_variable_of t i x k) (flat_map (variable_item i kind) vs) ≡ true) ⊎ (other ≡ variable_of k d)) → (b : Bool) → bytes_eq v.name x ≡ b → (if b then of_domain kind v.domain else among_items kind vs x other) ≡ variable_of k d
        → (list_any (is_variable_of t i x k) (variable_item i kind v ++ flat_map (variable_item i kind) vs) ≡ true) ⊎ (other ≡ variable_of k d)
    by ih true s g = inl (any_left (is_variable_of t i x k) (variable_item i kind v) (flat_map (variable_item i kind) vs) (variable_here t i v.name x kind k v.domain d s g))
    by ih false s g =
        ⊎_elim (λ a. inl (any_right (is_variable_of t i x k) (variable_item i kind v) (flat_map (variable_item i kind) vs) a)) (λ a. inr a) (ih g)

elements_have : (t : List Instance) (i : ℕ) (es : List PlainElement) (x : List ℕ) (k : VarKind) (d : PlainDomain) → among_elements i es x ≡ variable_of k d
    → list_any (is_variable_of t i x k) (flat_map (element_items i) es) ≡ true
elements_have t i [] x k d h = cc
elements_have t i (vars kind items ∷ es) x k d h =
    ⊎_elim (λ a. any_left (is_variable_of t i x k) (flat_map (variable_item i kind) items) (flat_map (element_items i) es) a)
    (λ a. any_right (is_variable_of t i x k) (flat_map (variable_item i kind) items) (flat_map (element_items i) es) (elements_have t i es x k d a))
    (variables_have t i kind items x (among_elements i es x) k d h)
elements_have t i (defines ds ∷ es) x k d h =
    any_right (is_variable_of t i x k) (map (definition_item i) ds) (flat_map (element_items i) es) (elements_have t i es x k d (past_definitions i ds x (among_elements i es x) k d h))
elements_have t i (constants cs ∷ es) x k d h = elements_have t i es x k d h
elements_have t i (assigns xs ∷ es) x k d h = elements_have t i es x k d h
elements_have t i (init e ∷ es) x k d h = elements_have t i es x k d h
elements_have t i (trans e ∷ es) x k d h = elements_have t i es x k d h
elements_have t i (invar e ∷ es) x k d h = elements_have t i es x k d h
elements_have t i (spec l e ∷ es) x k d h = elements_have t i es x k d h

variables_at : (t : List Instance) (i : ℕ) (x : List ℕ) (k : VarKind) (d : PlainDomain) (rest : List Instance) (from a : ℕ) → i ≡ from + a → local_in i x (slice_get rest a) ≡ variable_of k d
    → list_any (is_variable_of t i x k) (over_instances items_here from rest) ≡ true
variables_at t i x k d [] from a s h = cc
variables_at t i x k d (at ∷ rest) from zero s h =
    let e : i ≡ from = omega arith in
    subst (λ n. list_any (is_variable_of t i x k) (items_here n at ++ over_instances items_here (from + 1) rest) ≡ true) e
    (any_left (is_variable_of t i x k) (items_here i at) (over_instances items_here (from + 1) rest)
    (any_right (is_variable_of t i x k) (actual_items i (parent_of at) at.module.parameters at.actuals) (flat_map (element_items i) at.module.elements)
    (elements_have t i at.module.elements x k d (past_parameters (parent_of at) at.module.parameters at.actuals x (among_elements i at.module.elements x) k d h))))
variables_at t i x k d (at ∷ rest) from (suc a) s h =
    any_right (is_variable_of t i x k) (items_here from at) (over_instances items_here (from + 1) rest) (variables_at t i x k d rest (from + 1) a (omega arith) h)

-- a variable is an item
pub variable_at_item : (t : List Instance) (i : ℕ) (x : List ℕ) (k : VarKind) (d : PlainDomain) → local t i x ≡ variable_of k d
    → At (is_variable_of t i x k) (λ m. Some true) (origins_of t) true
variable_at_item t i x k d h =
    first_at (is_variable_of t i x k) (λ m. Some true) (origins_of t) true (any_first (is_variable_of t i x k) (origins_of t) (variables_at t i x k d t 0 i (omega arith) h))

-- ---- what a path leads to is what its own instance declares under its name

abbrev pub Home : List Instance → Found → Type 0
Home t (variable_at y k d) = (i : ℕ) × (x : List ℕ) × (y ≡ dotted_at t i x) × (local t i x ≡ variable_of k d)
Home t (body_at i x j e) = local t i x ≡ body_of j e
Home t (symbol_of x) = has_symbol t x ≡ true
Home t f = Unit {0}

home_pick : (t : List Instance) (b : Bool) (m : Found) → Home t m → Home t (if b then m else none)
home_pick t true m h = h
home_pick t false m h = tt

home_onward : (t : List Instance) (m : Found) (b : Bool) (go : ℕ → Found) → Home t m → ((c : ℕ) → Home t (go c)) → Home t (onward m b go)
home_onward t (instance_at c) b go h l = l c
home_onward t cyclic b go h l = h
home_onward t (variable_at x k d) b go h l = home_pick t b (variable_at x k d) h
home_onward t (body_at i x j e) b go h l = home_pick t b (body_at i x j e) h
home_onward t (symbol_of x) b go h l = home_pick t b (symbol_of x) h
home_onward t none b go h l = home_pick t b none h

home_walk : (t : List Instance) (f : ℕ → List ℕ → Found) → ((i : ℕ) (x : List ℕ) → Home t (f i x)) → (i : ℕ) (xs : List (List ℕ)) → Home t (walk f i xs)
home_walk t f h i [] = tt
home_walk t f h i (x ∷ xs) = home_onward t (f i x) (is_end xs) (λ c. walk f c xs) (h i x) (λ c. home_walk t f h c xs)

home_symbol : (t : List Instance) (x : List ℕ) → Home t (symbol_or_none t x)
home_symbol t x = by (has_symbol t x) refl
  where
    by : (b : Bool) → has_symbol t x ≡ b → Home t (if b then symbol_of x else none)
    by true e = e
    by false e = tt

home_single : (t : List Instance) (f : ℕ → List ℕ → Found) → ((i : ℕ) (x : List ℕ) → Home t (f i x)) → (i : ℕ) (x : List ℕ) (l : Local) → Home t (single t f i x l)
home_single t f h i x nothing = home_symbol t x
home_single t f h i x (alias j q) = home_walk t f h i (x ∷ [])
home_single t f h i x (body_of j e) = home_walk t f h i (x ∷ [])
home_single t f h i x (variable_of k d) = home_walk t f h i (x ∷ [])
home_single t f h i x inner = home_walk t f h i (x ∷ [])

home_through : (t : List Instance) (f : ℕ → List ℕ → Found) → ((i : ℕ) (x : List ℕ) → Home t (f i x)) → (i : ℕ) (xs : List (List ℕ)) → Home t (through t f i xs)
home_through t f h i [] = tt
home_through t f h i (x ∷ []) = home_single t f h i x (local t i x)
home_through t f h i (x ∷ y ∷ xs) = home_walk t f h i (x ∷ y ∷ xs)

home_resolved : (t : List Instance) (f : ℕ → List ℕ → Found) → ((i : ℕ) (x : List ℕ) → Home t (f i x)) → (i : ℕ) (q : Path) → Home t (resolved t f i q)
home_resolved t f h i q = by q.from_self
  where
    by : (b : Bool) → Home t (if b then walk f i q.names else through t f i q.names)
    by true = home_walk t f h i q.names
    by false = home_through t f h i q.names

home_child : (t : List Instance) (o : Option ℕ) → Home t (at_child o)
home_child t None = tt
home_child t (Some c) = tt

home_landed : (t : List Instance) (f : ℕ → List ℕ → Found) → ((i : ℕ) (x : List ℕ) → Home t (f i x)) → (i : ℕ) (x : List ℕ) (l : Local) → local t i x ≡ l → Home t (landed t f i x l)
home_landed t f h i x (alias j q) e = home_resolved t f h j q
home_landed t f h i x (body_of j b) e = e
home_landed t f h i x (variable_of k d) e = (i, x, refl, e)
home_landed t f h i x inner e = home_child t (position (is_child i x) t)
home_landed t f h i x nothing e = tt

home_look : (t : List Instance) (n i : ℕ) (x : List ℕ) → Home t (look t n i x)
unfolding look
home_look t zero i x = tt
home_look t (suc n) i x = home_landed t (look t n) (home_look t n) i x (local t i x) refl

pub home_found : (t : List Instance) (i : ℕ) (q : Path) → Home t (found_in t i q)
home_found t i q = home_resolved t (look t (steps_of t)) (home_look t (steps_of t)) i q

-- ---- symbols

or_joined : (a b c : Bool) → (a || (b || c)) ≡ ((a || b) || c)
or_joined true b c = refl
or_joined false b c = refl

any_joined : {Y : Type 0} (p : Y → Bool) (xs ys : List Y) → list_any p (xs ++ ys) ≡ (list_any p xs || list_any p ys)
any_joined p [] ys = refl
any_joined p (x ∷ xs) ys = ap (λ b. p x || b) (any_joined p xs ys) ∙ or_joined (p x) (list_any p xs) (list_any p ys)

any_flat : {X Y : Type 0} (p : Y → Bool) (f : X → List Y) (xs : List X) → list_any p (flat_map f xs) ≡ list_any (λ x. list_any p (f x)) xs
any_flat p f [] = refl
any_flat p f (x ∷ xs) = any_joined p (f x) (flat_map f xs) ∙ ap (λ b. list_any p (f x) || b) (any_flat p f xs)

any_same : {X : Type 0} (p q : X → Bool) (xs : List X) → ((x : X) → p x ≡ q x) → list_any p xs ≡ list_any q xs
any_same p q [] h = refl
any_same p q (x ∷ xs) h = ap (λ b. b || list_any p xs) (h x) ∙ ap (λ b. q x || b) (any_same p q xs h)

abbrev pub named_so : List ℕ → List ℕ → Bool
named_so x y = bytes_eq y x

member_has : (x : List ℕ) (m : Member) → is_symbol x m ≡ list_any (named_so x) (member_symbols m)
member_has x (OfMember.Symbol s) = or_right (bytes_eq s x)
  where
    or_right : (b : Bool) → b ≡ (b || false)
    or_right true = refl
    or_right false = refl
member_has x (OfMember.Integer z) = refl

domain_symbol : (x : List ℕ) (d : PlainDomain) → domain_has x d ≡ list_any (named_so x) (domain_symbols d)
domain_symbol x (members ms) = any_same (is_symbol x) (λ m. list_any (named_so x) (member_symbols m)) ms (member_has x) ∙ sym (any_flat (named_so x) member_symbols ms)
domain_symbol x boolean = refl
domain_symbol x (between low high) = refl
domain_symbol x (bits n) = refl
domain_symbol x (instance m es) = refl

element_symbol : (x : List ℕ) (e : PlainElement) → element_has x e ≡ list_any (named_so x) (element_symbols e)
element_symbol x (vars kind items) =
    any_same (item_has x) (λ v. list_any (named_so x) (domain_symbols v.domain)) items (λ v. domain_symbol x v.domain) ∙ sym (any_flat (named_so x) (λ v. domain_symbols v.domain) items)
element_symbol x (constants names) = refl
element_symbol x (defines ds) = refl
element_symbol x (assigns xs) = refl
element_symbol x (init e) = refl
element_symbol x (trans e) = refl
element_symbol x (invar e) = refl
element_symbol x (spec l e) = refl

abbrev pub instance_symbols : Instance → List (List ℕ)
instance_symbols at = flat_map element_symbols at.module.elements

all_symbols : (t : List Instance) (x : List ℕ) → has_symbol t x ≡ list_any (named_so x) (flat_map instance_symbols t)
all_symbols t x =
    any_same (instance_has x) (λ at. list_any (named_so x) (instance_symbols at)) t
    (λ at. any_same (element_has x) (λ e. list_any (named_so x) (element_symbols e)) at.module.elements (element_symbol x) ∙ sym (any_flat (named_so x) element_symbols at.module.elements))
    ∙ sym (any_flat (named_so x) instance_symbols t)

-- what is seen or comes is kept
abbrev Seen : List ℕ → List (List ℕ) → List (List ℕ) → Type 0
Seen x seen xs = (list_any (named_so x) seen ≡ true) ⊎ (list_any (named_so x) xs ≡ true)

first_or : (x y : List ℕ) (ys : List (List ℕ)) (b : Bool) → bytes_eq y x ≡ b → (b || list_any (named_so x) ys) ≡ true → (bytes_eq y x ≡ true) ⊎ (list_any (named_so x) ys ≡ true)
first_or x y ys true e g = inl e
first_or x y ys false e g = inr g

seen_on : (x y : List ℕ) (seen ys : List (List ℕ)) (b : Bool) → is_one_of seen y ≡ b → Seen x seen (y ∷ ys) → Seen x (if b then seen else seen ++ y ∷ []) ys
seen_on x y seen ys true e h =
    ⊎_elim (λ g. inl g) (λ g. ⊎_elim (λ s. inl (subst (λ z. list_any (named_so z) seen ≡ true) (bytes_is y x s) e)) (λ r. inr r) (first_or x y ys (bytes_eq y x) refl g)) h
seen_on x y seen ys false e h =
    ⊎_elim (λ g. inl (any_left (named_so x) seen (y ∷ []) g))
    (λ g. ⊎_elim (λ s. inl (any_right (named_so x) seen (y ∷ []) (ap (λ b. b || false) s))) (λ r. inr r) (first_or x y ys (bytes_eq y x) refl g)) h

kept : (x : List ℕ) (seen xs : List (List ℕ)) → Seen x seen xs → list_any (named_so x) (gathered seen xs) ≡ true
kept x seen [] (inl h) = h
kept x seen [] (inr h) = cc
kept x seen (y ∷ ys) h = kept x (if is_one_of seen y then seen else seen ++ y ∷ []) ys (seen_on x y seen ys (is_one_of seen y) refl h)

bytes_swap : (x y : List ℕ) → bytes_eq y x ≡ true → bytes_eq x y ≡ true
bytes_swap x y h = (bytes_eq-Decides x y).1 (sym ((bytes_eq-Decides y x).0 h))

pub left_true : (a b : Bool) → a ≡ true → (a || b) ≡ true
left_true true b h = refl
left_true false b h = cc

any_swapped : (x : List ℕ) (ys : List (List ℕ)) → list_any (named_so x) ys ≡ true → list_any (bytes_eq x) ys ≡ true
any_swapped x [] h = cc
any_swapped x (y ∷ ys) h =
    ⊎_elim (λ e. left_true (bytes_eq x y) (list_any (bytes_eq x) ys) (bytes_swap x y e)) (λ g. right_true (bytes_eq x y) (list_any (bytes_eq x) ys) (any_swapped x ys g))
    (first_or x y ys (bytes_eq y x) refl h)

-- a symbol has a number
pub symbol_at : (t : List Instance) (x : List ℕ) → has_symbol t x ≡ true → At (bytes_eq x) (λ y. Some true) (symbols_of t) true
symbol_at t x h =
    first_at (bytes_eq x) (λ y. Some true) (symbols_of t) true
    (any_first (bytes_eq x) (symbols_of t) (any_swapped x (symbols_of t) (kept x [] (flat_map instance_symbols t) (inr (sym (all_symbols t x) ∙ h)))))
