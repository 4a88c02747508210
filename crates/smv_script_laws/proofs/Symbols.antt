-- The symbols of the values of a model's variables are the model's.
use Rattle.std.proofs.Common.{◌≡◌, ℕ, zero, suc, ◌+◌, Bool, true, false, ◌||◌, nat_le, List, [], ◌∷◌, ◌++◌, map, flat_map, Some, refl, sym, ap, ◌∙◌}
use mathlib.Core.Logic.{◌⊎◌, inl, inr, ⊎_elim}
use Rattle.std.specs.List.{slice_get, list_any}
use Rattle.name_maps.specs.Names.{place_of}
use Rattle.smv_text.specs.declared.tree.Parameter.{Parameter}
use Rattle.smv_text.specs.declared.tree.Member.{Member}
use Rattle.smv_text.specs.declared.tree.Member.TheVariants as OfMember
use Rattle.smv_text.specs.declared.tree.VarKind.{VarKind}
use Rattle.smv_text.specs.Tree.{Tree, truth, number, literal, name, prefix, chain, choice, cases, select, call, next, set, range, Trees, no_trees, tree, PlainDomain, boolean, members, between, bits, instance, PlainItem, PlainDefinition, PlainElement, vars, defines, constants, assigns, init, trans, invar, spec}
use Rattle.smv_meaning.specs.declared.value.Value.{Value}
use Rattle.smv_meaning.specs.declared.value.Value.TheVariants.{Truth, Integer, Symbol, Bits}
use Rattle.smv_meaning.specs.Values.{value_same, member_value, is_among, is_of_type}
use Rattle.smv_meaning.specs.Instances.{Instance}
use Rattle.smv_meaning.specs.Names.{parent_of, is_symbol, domain_has, item_has, element_has, instance_has}
use Rattle.smv_meaning.specs.Phases.{over_instances}
use Rattle.smv_meaning.specs.laws.Booleans.{both_true, or_true, absurd_bool}
use Rattle.smv_items.specs.FlatItems.{Content, variable, Origin, with_content, actual_content, actual_items, domain_content, variable_item, definition_item, element_items, items_here, origins_of, symbols_of}
use Rattle.smv_flat_laws.proofs.FlatFound.{symbol_at}
use Rattle.smv_script_laws.specs.Kinds.{IsKnown}

-- ---- an enumeration among the items is one of an instance

abbrev content_has : List ℕ → Content → Bool
content_has x (variable kind d) = domain_has x d
content_has x c = false

abbrev pub origin_has : List ℕ → Origin → Bool
origin_has x m = content_has x m.content

module _ (x : List ℕ) where
  any_of_two : {X : Type 0} (p : X → Bool) (xs ys : List X) → list_any p (xs ++ ys) ≡ true → (list_any p xs ≡ true) ⊎ (list_any p ys ≡ true)
  any_of_two p [] ys h = inr h
  any_of_two p (y ∷ xs) ys h = ⊎_elim (λ e. inl (ap (λ b. b || list_any p xs) e)) (λ e. ⊎_elim (λ s. inl (right (p y) (list_any p xs) s)) (λ s. inr s) (any_of_two p xs ys e)) (or_true (p y) (list_any p (xs ++ ys)) h)
    where
      right : (a b : Bool) → b ≡ true → (a || b) ≡ true
      right true b e = refl
      right false b e = e

  right_side : (a b : Bool) → b ≡ true → (a || b) ≡ true
  right_side true b e = refl
  right_side false b e = e

  no_actual : (i j : ℕ) (y : List ℕ) (e : Tree) → list_any (origin_has x) (with_content i y (actual_content j e)) ≡ false
  no_actual i j y (name p q) = refl
  no_actual i j y (truth p c) = refl
  no_actual i j y (number p n) = refl
  no_actual i j y (literal p w) = refl
  no_actual i j y (prefix p sign n c) = refl
  no_actual i j y (chain p c ls) = refl
  no_actual i j y (choice p bs c) = refl
  no_actual i j y (cases p bs) = refl
  no_actual i j y (select p c high low) = refl
  no_actual i j y (call p f cs) = refl
  no_actual i j y (next p c) = refl
  no_actual i j y (set p cs) = refl
  no_actual i j y (range p low high) = refl

  no_actuals : (i j : ℕ) (qs : List Parameter) (es : Trees) → list_any (origin_has x) (actual_items i j qs es) ≡ true → ⊥
  no_actuals i j [] es h = cc
  no_actuals i j (q ∷ qs) no_trees h = cc
  no_actuals i j (q ∷ qs) (tree e es) h =
      ⊎_elim (λ s. absurd_bool (sym (no_actual i j q.name e) ∙ s)) (λ s. no_actuals i j qs es s)
      (any_of_two (origin_has x) (with_content i q.name (actual_content j e)) (actual_items i j qs es) h)

  no_definition : (i : ℕ) (ds : List PlainDefinition) → list_any (origin_has x) (map (definition_item i) ds) ≡ true → ⊥
  no_definition i [] h = cc
  no_definition i (d ∷ ds) h = no_definition i ds h

  variable_has : (i : ℕ) (kind : VarKind) (y : List ℕ) (d : PlainDomain) → list_any (origin_has x) (with_content i y (domain_content kind d)) ≡ true → domain_has x d ≡ true
  variable_has i kind y (members ms) h = ⊎_elim (λ e. e) (λ e. absurd_bool e) (or_true (domain_has x (members ms)) false h)
  variable_has i kind y boolean h = cc
  variable_has i kind y (between low high) h = cc
  variable_has i kind y (bits n) h = cc
  variable_has i kind y (instance m es) h = cc

  variables_have : (i : ℕ) (kind : VarKind) (vs : List PlainItem) → list_any (origin_has x) (flat_map (variable_item i kind) vs) ≡ true → list_any (item_has x) vs ≡ true
  variables_have i kind [] h = h
  variables_have i kind (v ∷ vs) h =
      ⊎_elim (λ e. ap (λ b. b || list_any (item_has x) vs) (variable_has i kind v.name v.domain e)) (λ e. right_side (item_has x v) (list_any (item_has x) vs) (variables_have i kind vs e))
      (any_of_two (origin_has x) (variable_item i kind v) (flat_map (variable_item i kind) vs) h)

  element_has_it : (i : ℕ) (el : PlainElement) → list_any (origin_has x) (element_items i el) ≡ true → element_has x el ≡ true
  element_has_it i (vars kind items) h = variables_have i kind items h
  element_has_it i (defines ds) h = absurd (no_definition i ds h)
  element_has_it i (constants cs) h = cc
  element_has_it i (assigns xs) h = cc
  element_has_it i (init c) h = cc
  element_has_it i (trans c) h = cc
  element_has_it i (invar c) h = cc
  element_has_it i (spec l c) h = cc

  elements_have : (i : ℕ) (es : List PlainElement) → list_any (origin_has x) (flat_map (element_items i) es) ≡ true → list_any (element_has x) es ≡ true
  elements_have i [] h = h
  elements_have i (el ∷ es) h =
      ⊎_elim (λ e. ap (λ b. b || list_any (element_has x) es) (element_has_it i el e)) (λ e. right_side (element_has x el) (list_any (element_has x) es) (elements_have i es e))
      (any_of_two (origin_has x) (element_items i el) (flat_map (element_items i) es) h)

  instances_have : (i : ℕ) (rest : List Instance) → list_any (origin_has x) (over_instances items_here i rest) ≡ true → list_any (instance_has x) rest ≡ true
  instances_have i [] h = h
  instances_have i (at ∷ rest) h =
      ⊎_elim
      (λ e. ap (λ b. b || list_any (instance_has x) rest)
      (⊎_elim (λ s. absurd (no_actuals i (parent_of at) at.module.parameters at.actuals s)) (λ s. elements_have i at.module.elements s)
      (any_of_two (origin_has x) (actual_items i (parent_of at) at.module.parameters at.actuals) (flat_map (element_items i) at.module.elements) e)))
      (λ e. right_side (instance_has x at) (list_any (instance_has x) rest) (instances_have (i + 1) rest e))
      (any_of_two (origin_has x) (items_here i at) (over_instances items_here (i + 1) rest) h)

  any_there : (ms : List Origin) (k : ℕ) (m : Origin) → slice_get ms k ≡ Some m → origin_has x m ≡ true → list_any (origin_has x) ms ≡ true
  any_there [] k m h e = cc
  any_there (o ∷ ms) zero m h e = let s : o ≡ m = cc in ap (λ b. b || list_any (origin_has x) ms) (ap (origin_has x) s ∙ e)
  any_there (o ∷ ms) (suc k) m h e = right_side (origin_has x o) (list_any (origin_has x) ms) (any_there ms k m h e)

-- ---- a value of an enumeration

same_symbol : (x : List ℕ) (m : Member) → value_same (member_value m) (Symbol x) ≡ true → is_symbol x m ≡ true
same_symbol x (OfMember.Symbol s) h = h
same_symbol x (OfMember.Integer z) h = cc

among_has : (x : List ℕ) (ms : List Member) → is_among ms (Symbol x) ≡ true → list_any (is_symbol x) ms ≡ true
among_has x [] h = h
among_has x (m ∷ ms) h =
    ⊎_elim (λ e. ap (λ b. b || list_any (is_symbol x) ms) (same_symbol x m e)) (λ e. right_side x (is_symbol x m) (list_any (is_symbol x) ms) (among_has x ms e))
    (or_true (value_same (member_value m) (Symbol x)) (is_among ms (Symbol x)) h)

type_has : (x : List ℕ) (d : PlainDomain) → is_of_type d (Symbol x) ≡ true → domain_has x d ≡ true
type_has x (members ms) h = among_has x ms h
type_has x boolean h = cc
type_has x (between low high) h = cc
type_has x (bits n) h = absurd_bool (both_true (nat_le 1 n) false h).1
type_has x (instance m es) h = cc

-- the symbol of an item's enumeration
pub symbol_there : (t : List Instance) (k : ℕ) (m : Origin) (kind : VarKind) (d : PlainDomain) (x : List ℕ) → slice_get (origins_of t) k ≡ Some m → m.content ≡ variable kind d → domain_has x d ≡ true
    → (i : ℕ) × (place_of (symbols_of t) x ≡ Some i)
symbol_there t k m kind d x h c e =
    let a = symbol_at t x (instances_have x 0 t (any_there x (origins_of t) k m h (ap (content_has x) c ∙ e))) in (a.k, a.placed)

pub variable_known : (t : List Instance) (k : ℕ) (m : Origin) (kind : VarKind) (d : PlainDomain) (v : Value) → slice_get (origins_of t) k ≡ Some m → m.content ≡ variable kind d → is_of_type d v ≡ true
    → IsKnown (symbols_of t) v
variable_known t k m kind d (Symbol x) h c e = symbol_there t k m kind d x h c (type_has x d e)
variable_known t k m kind d (Truth b) h c e = tt
variable_known t k m kind d (Integer z) h c e = tt
variable_known t k m kind d (Bits w) h c e = tt
