-- An alias is a parameter.
use Rattle.std.proofs.Common.{◌≡◌, ℕ, ◌+◌, ◌<◌, ◌≤◌, Bool, true, false, ◌&&◌, ◌||◌, ◌==◌, if◌then◌else◌, List, [], ◌∷◌, map, length, Some, None, bytes_eq, refl, sym, ap, ◌∙◌, arith}
use mathlib.Core.Logic.{⊎_elim}
use Rattle.std.specs.Prelude.{slice_get, slice_index_or}
use Rattle.std.specs.Option.{option_map}
use Rattle.std.specs.List.{list_any}
use Rattle.std.proofs.lemmas.Bool.{cases_lt}
use Rattle.std.proofs.lemmas.List.{length-map}
use Rattle.std.proofs.lemmas.Option.{slice_get-map, slice_get_read, slice_get_past}
use Rattle.smv_text.specs.declared.tree.Parameter.{Parameter}
use Rattle.smv_text.specs.declared.tree.VarKind.{VarKind}
use Rattle.smv_text.specs.Tree.{Trees, no_trees, tree, PlainDomain, boolean, members, between, bits, instance, PlainItem, PlainDefinition, PlainElement, vars, defines}
use Rattle.smv_instances.specs.declared.instances.Instance.{Instance as PartOf}
use Rattle.smv_instances.specs.declared.leads.Key.{Key}
use Rattle.smv_meaning.specs.Names.{Local, of_actual, of_domain, among_items, among_definitions, among_elements, among_parameters, body_of, parent_of, local_in, local}
use Rattle.smv_instances.specs.Leads.{is_alias, is_key}
use Rattle.smv_instances.specs.View.{instance_plain}

either : (b : Bool) (l m : Local) → is_alias l ≡ false → is_alias m ≡ false → is_alias (if b then l else m) ≡ false
either true l m h k = h
either false l m h k = k

domain_apart : (kind : VarKind) (d : PlainDomain) → is_alias (of_domain kind d) ≡ false
domain_apart kind boolean = refl
domain_apart kind (members ms) = refl
domain_apart kind (between low high) = refl
domain_apart kind (bits n) = refl
domain_apart kind (instance m actuals) = refl

items_apart : (kind : VarKind) (items : List PlainItem) (x : List ℕ) (other : Local) → is_alias other ≡ false → is_alias (among_items kind items x other) ≡ false
items_apart kind [] x other h = h
items_apart kind (item ∷ items) x other h =
    either (bytes_eq item.name x) (of_domain kind item.domain) (among_items kind items x other) (domain_apart kind item.domain) (items_apart kind items x other h)

definitions_apart : (i : ℕ) (ds : List PlainDefinition) (x : List ℕ) (other : Local) → is_alias other ≡ false → is_alias (among_definitions i ds x other) ≡ false
definitions_apart i [] x other h = h
definitions_apart i (d ∷ ds) x other h = either (bytes_eq d.name x) (body_of i d.body) (among_definitions i ds x other) refl (definitions_apart i ds x other h)

elements_apart : (i : ℕ) (es : List PlainElement) (x : List ℕ) → is_alias (among_elements i es x) ≡ false
elements_apart i [] x = refl
elements_apart i (vars kind items ∷ es) x = items_apart kind items x (among_elements i es x) (elements_apart i es x)
elements_apart i (defines ds ∷ es) x = definitions_apart i ds x (among_elements i es x) (elements_apart i es x)
elements_apart i (e ∷ es) x = elements_apart i es x

pick : (b c : Bool) (l m : Local) → is_alias (if b then l else m) ≡ true → (is_alias m ≡ true → c ≡ true) → (b || c) ≡ true
pick true c l m h k = refl
pick false c l m h k = k h

is_parameter : (j : ℕ) (qs : List Parameter) (es : Trees) (x : List ℕ) (other : Local) → is_alias other ≡ false → is_alias (among_parameters j qs es x other) ≡ true → list_any (λ q. bytes_eq q.name x) qs ≡ true
is_parameter j [] es x other h k = cc
is_parameter j (q ∷ qs) no_trees x other h k = cc
is_parameter j (q ∷ qs) (tree e es) x other h k =
    pick (bytes_eq q.name x) (list_any (λ q. bytes_eq q.name x) qs) (of_actual j e) (among_parameters j qs es x other) k (is_parameter j qs es x other h)

here : (a b c : Bool) → c ≡ true → b ≡ true → (a || (b && c)) ≡ true
here true b c h k = refl
here false true c h k = h
here false false c h k = cc

there : (a b : Bool) → a ≡ true → (a || b) ≡ true
there true b h = refl
there false b h = cc

same_number : (i : ℕ) → (i == i) ≡ true
same_number i = grind arith

pub more_keys : (ts : List PartOf) (old new : List Key) (i n : ℕ) (p : PartOf) → n ≡ length ts → i < n → p ≡ slice_index_or ts i p
    → ((j : ℕ) (x : List ℕ) → list_any (is_key j x) new ≡ (list_any (is_key j x) old || (i == j && list_any (λ q. bytes_eq q.name x) p.module.now.parameters)))
    → ((j : ℕ) (x : List ℕ) → j < i → is_alias (local (map instance_plain ts) j x) ≡ true → list_any (is_key j x) old ≡ true)
    → (j : ℕ) (x : List ℕ) → j < i + 1 → is_alias (local (map instance_plain ts) j x) ≡ true → list_any (is_key j x) new ≡ true
more_keys ts old new i n p e h is k before j x l a = k j x ∙ ⊎_elim earlier last (cases_lt j i)
  where
    earlier : j < i → (list_any (is_key j x) old || (i == j && list_any (λ q. bytes_eq q.name x) p.module.now.parameters)) ≡ true
    earlier b = there (list_any (is_key j x) old) _ (before j x b a)

    last : i ≤ j → (list_any (is_key j x) old || (i == j && list_any (λ q. bytes_eq q.name x) p.module.now.parameters)) ≡ true
    last b =
        let s : j ≡ i = omega (arith, b, l) in
        let g : slice_get (map instance_plain ts) i ≡ Some (instance_plain p) = slice_get-map instance_plain ts i ∙ ap (option_map instance_plain) (slice_get_read ts n i p e h is) in
        let c : is_alias (local_in i x (Some (instance_plain p))) ≡ true = ap (λ o. is_alias (local_in i x o)) (sym g) ∙ ap (λ m. is_alias (local (map instance_plain ts) m x)) (sym s) ∙ a in
        here (list_any (is_key j x) old) (i == j) (list_any (λ q. bytes_eq q.name x) p.module.now.parameters)
        (is_parameter (parent_of (instance_plain p)) p.module.now.parameters (instance_plain p).actuals x (among_elements i (instance_plain p).module.elements x) (elements_apart i (instance_plain p).module.elements x) c)
        (ap (λ m. i == m) s ∙ same_number i)

pub all_keys : (ts : List PartOf) (ks : List Key) (i n : ℕ) → n ≡ length ts → n ≤ i → ((j : ℕ) (x : List ℕ) → j < i → is_alias (local (map instance_plain ts) j x) ≡ true → list_any (is_key j x) ks ≡ true)
    → (j : ℕ) (x : List ℕ) → is_alias (local (map instance_plain ts) j x) ≡ true → list_any (is_key j x) ks ≡ true
all_keys ts ks i n e h before j x a = ⊎_elim (λ b. before j x b a) past (cases_lt j i)
  where
    past : i ≤ j → list_any (is_key j x) ks ≡ true
    past b =
        let g : slice_get (map instance_plain ts) j ≡ None = slice_get_past (map instance_plain ts) j (omega (arith, b, e, h, length-map ts instance_plain)) in
        let c : is_alias (local_in j x None) ≡ true = ap (λ o. is_alias (local_in j x o)) (sym g) ∙ a in
        cc
