-- Where a variable that a name stands for is declared, and that its symbols are the model's.
use Rattle.std.proofs.Common.{◌≡◌, ℕ, zero, suc, ◌+◌, Bool, true, false, if◌then◌else◌, List, [], ◌∷◌, flat_map, Option, Some, None, bytes_eq, refl, sym, ap, ◌∙◌, subst, arith, inl, inr, ◌⊎◌}
use Rattle.std.specs.List.{slice_get}
use Rattle.std.proofs.lemmas.Slice.Eq.{bytes_eq-Decides}
use Rattle.smv_text.specs.declared.tree.VarKind.{VarKind}
use Rattle.smv_text.specs.declared.tree.Member.{Member}
use Rattle.smv_text.specs.declared.tree.Member.TheVariants as OfMember
use Rattle.smv_text.specs.Tree.{PlainDomain, boolean, members, between, bits, instance, PlainItem, PlainElement, vars, defines, constants, assigns, init, trans, invar, spec}
use Rattle.smv_meaning.specs.Instances.{Instance}
use Rattle.smv_meaning.specs.Names.{Local, variable_of, of_domain, among_items, among_elements, parent_of, local_in, local, has_symbol, instance_has, element_has, item_has, domain_has, is_symbol}
use Rattle.name_maps.specs.Names.{place_of}
use Rattle.smv_laws.proofs.Cycles.{In, in_any, in_right, flat_in}
use Rattle.smv_laws.proofs.Ranked.{over_in}
use Rattle.smv_items.specs.FlatItems.{variable, Origin, with_content, domain_content, variable_item, element_items, actual_items, items_here, origins_of, symbols_of}
use Rattle.smv_flat_laws.proofs.FlatFound.{symbol_at, bytes_is, past_definitions, past_parameters}

-- an item of this name and domain, among variables of this kind
pub record IsDeclared (es : List PlainElement) (x : List ℕ) (kind : VarKind) (d : PlainDomain) : Type 0 where
  pub items : List PlainItem
  pub element : In (vars kind items) es
  pub item : PlainItem
  pub there : In item items
  pub named : item.name ≡ x
  pub domain : item.domain ≡ d

domain_is : (kind k : VarKind) (c d : PlainDomain) → of_domain kind c ≡ variable_of k d → (kind ≡ k) × (c ≡ d)
domain_is kind k boolean d h = (cc, cc)
domain_is kind k (members ms) d h = (cc, cc)
domain_is kind k (between low high) d h = (cc, cc)
domain_is kind k (bits n) d h = (cc, cc)
domain_is kind k (instance m es) d h = cc

-- the item, or what comes behind these
items_give : (kind : VarKind) (vs : List PlainItem) (x : List ℕ) (other : Local) (k : VarKind) (d : PlainDomain) → among_items kind vs x other ≡ variable_of k d
    → ((v : PlainItem) × In v vs × (v.name ≡ x) × (v.domain ≡ d) × (kind ≡ k)) ⊎ (other ≡ variable_of k d)
items_give kind [] x other k d h = inr h
items_give kind (v ∷ vs) x other k d h = by (λ g. items_give kind vs x other k d g) (bytes_eq v.name x) refl h
  where
    or_later : ((w : PlainItem) × In w vs × (w.name ≡ x) × (w.domain ≡ d) × (kind ≡ k)) ⊎ (other ≡ variable_of k d) → ((w : PlainItem) × In w (v ∷ vs) × (w.name ≡ x) × (w.domain ≡ d) × (kind ≡ k)) ⊎ (other ≡ variable_of k d)
    or_later (inl a) = inl (a.0, inr a.1, a.2, a.3, a.4)
    or_later (inr a) = inr a

    by : (among_items kind vs x other ≡ variable_of k d → ((w : PlainItem) × In w vs × (w.name ≡ x) × (w.domain ≡ d) × (kind ≡ k)) ⊎ (other ≡ variable_of k d)) → (b : Bool) → bytes_eq v.name x ≡ b
        → (if b then of_domain kind v.domain else among_items kind vs x other) ≡ variable_of k d → ((w : PlainItem) × In w (v ∷ vs) × (w.name ≡ x) × (w.domain ≡ d) × (kind ≡ k)) ⊎ (other ≡ variable_of k d)
    by ih true s g = let e = domain_is kind k v.domain d g in inl (v, inl refl, bytes_is v.name x s, e.1, e.0)
    by ih false s g = or_later (ih g)

later : (e : PlainElement) (es : List PlainElement) (x : List ℕ) (kind : VarKind) (d : PlainDomain) → IsDeclared es x kind d → IsDeclared (e ∷ es) x kind d
later e es x kind d h = record { items = h.items; element = inr h.element; item = h.item; there = h.there; named = h.named; domain = h.domain }

elements_give : (i : ℕ) (es : List PlainElement) (x : List ℕ) (k : VarKind) (d : PlainDomain) → among_elements i es x ≡ variable_of k d → IsDeclared es x k d
elements_give i [] x k d h = cc
elements_give i (vars kind items ∷ es) x k d h = by (λ g. elements_give i es x k d g) (items_give kind items x (among_elements i es x) k d h)
  where
    by : (among_elements i es x ≡ variable_of k d → IsDeclared es x k d) → ((v : PlainItem) × In v items × (v.name ≡ x) × (v.domain ≡ d) × (kind ≡ k)) ⊎ (among_elements i es x ≡ variable_of k d) → IsDeclared (vars kind items ∷ es) x k d
    by ih (inl a) = subst (λ z. IsDeclared (vars kind items ∷ es) x z d) a.4 (record { items = items; element = inl refl; item = a.0; there = a.1; named = a.2; domain = a.3 })
    by ih (inr a) = later (vars kind items) es x k d (ih a)
elements_give i (defines ds ∷ es) x k d h = later (defines ds) es x k d (elements_give i es x k d (past_definitions i ds x (among_elements i es x) k d h))
elements_give i (constants cs ∷ es) x k d h = later (constants cs) es x k d (elements_give i es x k d h)
elements_give i (assigns xs ∷ es) x k d h = later (assigns xs) es x k d (elements_give i es x k d h)
elements_give i (init e ∷ es) x k d h = later (init e) es x k d (elements_give i es x k d h)
elements_give i (trans e ∷ es) x k d h = later (trans e) es x k d (elements_give i es x k d h)
elements_give i (invar e ∷ es) x k d h = later (invar e) es x k d (elements_give i es x k d h)
elements_give i (spec l e ∷ es) x k d h = later (spec l e) es x k d (elements_give i es x k d h)

-- the instance in which it is declared
pub declared : (t : List Instance) (i : ℕ) (x : List ℕ) (kind : VarKind) (d : PlainDomain) → local t i x ≡ variable_of kind d → (at : Instance) × (slice_get t i ≡ Some at) × IsDeclared at.module.elements x kind d
declared t i x kind d h = by (slice_get t i) refl h
  where
    by : (o : Option Instance) → slice_get t i ≡ o → local_in i x o ≡ variable_of kind d → (at : Instance) × (slice_get t i ≡ Some at) × IsDeclared at.module.elements x kind d
    by None e g = cc
    by (Some at) e g = (at, e, elements_give i at.module.elements x kind d (past_parameters (parent_of at) at.module.parameters at.actuals x (among_elements i at.module.elements x) kind d g))

-- ---- the item of a declared variable

abbrev pub origin_at : ℕ → List ℕ → VarKind → PlainDomain → Origin
origin_at i x kind d = record { instance = i; name = x; content = variable kind d }

variable_in : (i : ℕ) (x : List ℕ) (kind k : VarKind) (c d : PlainDomain) → of_domain k c ≡ variable_of kind d → In (origin_at i x k c) (with_content i x (domain_content k c))
variable_in i x kind k boolean d h = inl refl
variable_in i x kind k (members ms) d h = inl refl
variable_in i x kind k (between low high) d h = inl refl
variable_in i x kind k (bits n) d h = inl refl
variable_in i x kind k (instance m es) d h = cc

items_domain : (kind : VarKind) (vs : List PlainItem) (x : List ℕ) (other : Local) (k : VarKind) (d : PlainDomain) → (other ≡ variable_of k d → of_domain k d ≡ variable_of k d) → among_items kind vs x other ≡ variable_of k d → of_domain k d ≡ variable_of k d
items_domain kind [] x other k d o h = o h
items_domain kind (v ∷ vs) x other k d o h = by (λ g. items_domain kind vs x other k d o g) (bytes_eq v.name x) h
  where
    by : (among_items kind vs x other ≡ variable_of k d → of_domain k d ≡ variable_of k d) → (b : Bool) → (if b then of_domain kind v.domain else among_items kind vs x other) ≡ variable_of k d → of_domain k d ≡ variable_of k d
    by ih true g = let e = domain_is kind k v.domain d g in subst (λ z. of_domain k z ≡ variable_of k d) e.1 (subst (λ z. of_domain z v.domain ≡ variable_of k d) e.0 g)
    by ih false g = ih g

elements_domain : (i : ℕ) (es : List PlainElement) (x : List ℕ) (k : VarKind) (d : PlainDomain) → among_elements i es x ≡ variable_of k d → of_domain k d ≡ variable_of k d
elements_domain i [] x k d h = cc
elements_domain i (vars kind items ∷ es) x k d h = items_domain kind items x (among_elements i es x) k d (λ g. elements_domain i es x k d g) h
elements_domain i (defines ds ∷ es) x k d h = elements_domain i es x k d (past_definitions i ds x (among_elements i es x) k d h)
elements_domain i (constants cs ∷ es) x k d h = elements_domain i es x k d h
elements_domain i (assigns xs ∷ es) x k d h = elements_domain i es x k d h
elements_domain i (init e ∷ es) x k d h = elements_domain i es x k d h
elements_domain i (trans e ∷ es) x k d h = elements_domain i es x k d h
elements_domain i (invar e ∷ es) x k d h = elements_domain i es x k d h
elements_domain i (spec l e ∷ es) x k d h = elements_domain i es x k d h

local_domain : (t : List Instance) (i : ℕ) (x : List ℕ) (kind : VarKind) (d : PlainDomain) → local t i x ≡ variable_of kind d → of_domain kind d ≡ variable_of kind d
local_domain t i x kind d h = by (slice_get t i) h
  where
    by : (o : Option Instance) → local_in i x o ≡ variable_of kind d → of_domain kind d ≡ variable_of kind d
    by None g = cc
    by (Some at) g = elements_domain i at.module.elements x kind d (past_parameters (parent_of at) at.module.parameters at.actuals x (among_elements i at.module.elements x) kind d g)

pub origin_in : (t : List Instance) (i : ℕ) (x : List ℕ) (kind : VarKind) (d : PlainDomain) → local t i x ≡ variable_of kind d → In (origin_at i x kind d) (origins_of t)
origin_in t i x kind d h =
    let a = declared t i x kind d h in
    let s = a.2 in
    let own : In (origin_at i s.item.name kind s.item.domain) (variable_item i kind s.item) =
    variable_in i s.item.name kind kind s.item.domain d (subst (λ z. of_domain kind z ≡ variable_of kind d) (sym s.domain) (local_domain t i x kind d h)) in
    let here : In (origin_at i x kind d) (variable_item i kind s.item) = subst (λ z. In (origin_at i x kind z) (variable_item i kind s.item)) s.domain (subst (λ z. In (origin_at i z kind s.item.domain) (variable_item i kind s.item)) s.named own) in
    let element : In (origin_at i x kind d) (element_items i (vars kind s.items)) = flat_in (variable_item i kind) (origin_at i x kind d) s.item s.items s.there here in
    let instance : In (origin_at i x kind d) (items_here i a.0) =
    in_right (origin_at i x kind d) (actual_items i (parent_of a.0) a.0.module.parameters a.0.actuals) (flat_map (element_items i) a.0.module.elements)
    (flat_in (element_items i) (origin_at i x kind d) (vars kind s.items) a.0.module.elements s.element element) in
    over_in items_here (origin_at i x kind d) 0 t i a.0 a.1 (let e : 0 + i ≡ i = omega arith in subst (λ n. In (origin_at i x kind d) (items_here n a.0)) (sym e) instance)

-- ---- symbols

-- a symbol that some enumeration or CONSTANTS has is among the model's
pub symbol_placed : (t : List Instance) (s : List ℕ) → has_symbol t s ≡ true → (k : ℕ) × (place_of (symbols_of t) s ≡ Some k)
symbol_placed t s h = let a = symbol_at t s h in (a.k, a.placed)

instance_in : (t : List Instance) (i : ℕ) (at : Instance) → slice_get t i ≡ Some at → In at t
instance_in [] i at h = cc
instance_in (a ∷ t) zero at h = let e : at ≡ a = cc in inl e
instance_in (a ∷ t) (suc i) at h = inr (instance_in t i at h)

pub member_placed : (t : List Instance) (i : ℕ) (x : List ℕ) (kind : VarKind) (ms : List Member) (s : List ℕ) → local t i x ≡ variable_of kind (members ms) → In (OfMember.Symbol s) ms → (k : ℕ) × (place_of (symbols_of t) s ≡ Some k)
member_placed t i x kind ms s h m =
    let a = declared t i x kind (members ms) h in
    let d = a.2 in
    let own : domain_has s d.item.domain ≡ true = ap (domain_has s) d.domain ∙ in_any (is_symbol s) (OfMember.Symbol s) ms m ((bytes_eq-Decides s s).1 refl) in
    let element : element_has s (vars kind d.items) ≡ true = in_any (item_has s) d.item d.items d.there own in
    let instance : instance_has s a.0 ≡ true = in_any (element_has s) (vars kind d.items) a.0.module.elements d.element element in
    symbol_placed t s (in_any (instance_has s) a.0 t (instance_in t i a.0 a.1) instance)
