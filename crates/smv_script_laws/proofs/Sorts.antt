-- The sorts of a script's variables are sorts of its scope.
use Rattle.std.proofs.Common.{◌≡◌, ℕ, ◌+◌, ◌≤◌, ◌<◌, Bool, true, false, ◌||◌, if◌then◌else◌, List, [], ◌∷◌, ◌++◌, map, flat_map, length, Option, Some, None, refl, sym, ap, ◌∙◌, subst, arith, inl, inr, ◌⊎◌}
use Rattle.std.specs.List.{AllByRecursion, list_any}
use Rattle.std.proofs.lemmas.Slice.Eq.{bytes_eq-Decides}
use Rattle.word_core.specs.declared.word.TheConstants.{WIDEST}
use Rattle.smv_text.specs.declared.tree.Parameter.{Parameter}
use Rattle.smv_text.specs.declared.tree.VarKind.{VarKind}
use Rattle.smv_text.specs.declared.tree.Member.{Member}
use Rattle.smv_text.specs.declared.tree.Member.TheVariants as OfMember
use Rattle.smv_text.specs.Tree.{Tree, truth, number, literal, name, prefix, chain, choice, cases, select, call, next, set, range, Trees, no_trees, tree, PlainDomain, boolean, members, between, bits, instance, PlainDefinition, PlainElement, vars, defines, constants, assigns, init, trans, invar, spec}
use Rattle.smv_meaning.specs.declared.value.Value.{Value}
use Rattle.smv_meaning.specs.declared.value.Value.TheVariants.{Symbol, Bits}
use Rattle.smv_meaning.specs.Instances.{Instance}
use Rattle.smv_meaning.specs.Names.{parent_of, has_symbol, instance_has, element_has, item_has, domain_has, is_symbol}
use Rattle.smv_meaning.specs.Types.{ExprType, truth_type, integer_type, symbol_type, word_type}
use Rattle.smv_meaning.specs.Naming.{in_body}
use Rattle.smv_meaning.specs.Phases.{over_instances}
use Rattle.smv_meaning.specs.Settled.{types_in}
use Rattle.smv_meaning.specs.Typed.{LiesIn}
use Rattle.smv_laws.proofs.Cycles.{In, in_any, in_either, in_flat}
use Rattle.smv_items.specs.FlatItems.{Content, variable, definition, actual, Origin, with_content, actual_content, actual_items, domain_content, variable_item, definition_item, element_items, items_here, origins_of, symbols_of, content_type, type_or_truth, PlainFlatItem, flat_item_of}
use Rattle.name_maps.specs.Names.{place_of}
use Rattle.moxi_terms.specs.declared.term.Variable.{Variable}
use Rattle.moxi_terms.specs.Sorts.{IsSort}
use Rattle.moxi_terms.specs.Sorted.{AreSorts}
use Rattle.moxi_terms.specs.Tree.{sorts_of}
use Rattle.smv_script.specs.Codes.{sort_of}
use Rattle.smv_script.specs.Script.{Group, inputs, outputs, locals, items_in, same_group, group_of, variable_of, variables_in, symbol_sort}
use Rattle.smv_script_laws.specs.Kinds.{IsKnown}
use Rattle.smv_script_laws.specs.PlaceLaws.{all_variables}
use Rattle.smv_script_laws.proofs.Declared.{symbol_placed}
use Rattle.smv_script_laws.proofs.Inhabited.{HasValue, domain_value, expression_value, names_have}
use Rattle.name_maps.proofs.FreshNames.{all_joined, all_mapped}

-- ---- a symbol of a variable's enumeration is one of the model's

content_in : (i : ℕ) (x : List ℕ) (o : Option Content) (m : Origin) → In m (with_content i x o) → o ≡ Some m.content
content_in i x None m h = absurd h
content_in i x (Some c) m (inl e) = ap (λ (z : Origin). Some z.content) (sym e)
content_in i x (Some c) m (inr h) = absurd h

no_actual : (j : ℕ) (e : Tree) (kind : VarKind) (d : PlainDomain) → actual_content j e ≡ Some (variable kind d) → ⊥
no_actual j (name p x) kind d h = cc
no_actual j (truth p b) kind d h = cc
no_actual j (number p n) kind d h = cc
no_actual j (literal p w) kind d h = cc
no_actual j (prefix p sign n e) kind d h = cc
no_actual j (chain p e ls) kind d h = cc
no_actual j (choice p bs e) kind d h = cc
no_actual j (cases p bs) kind d h = cc
no_actual j (select p e high low) kind d h = cc
no_actual j (call p f es) kind d h = cc
no_actual j (next p e) kind d h = cc
no_actual j (set p es) kind d h = cc
no_actual j (range p low high) kind d h = cc

no_actuals : (i j : ℕ) (qs : List Parameter) (es : Trees) (m : Origin) (kind : VarKind) (d : PlainDomain) → In m (actual_items i j qs es) → m.content ≡ variable kind d → ⊥
no_actuals i j [] es m kind d h e = h
no_actuals i j (q ∷ qs) no_trees m kind d h e = h
no_actuals i j (q ∷ qs) (tree x es) m kind d h e = by (in_either m (with_content i q.name (actual_content j x)) (actual_items i j qs es) h) (λ g. no_actuals i j qs es m kind d g e)
  where
    by : In m (with_content i q.name (actual_content j x)) ⊎ In m (actual_items i j qs es) → (In m (actual_items i j qs es) → ⊥) → ⊥
    by (inl g) ih = no_actual j x kind d (content_in i q.name (actual_content j x) m g ∙ ap Some e)
    by (inr g) ih = ih g

no_definition : (i : ℕ) (ds : List PlainDefinition) (m : Origin) (kind : VarKind) (d : PlainDomain) → In m (map (definition_item i) ds) → m.content ≡ variable kind d → ⊥
no_definition i [] m kind d h e = h
no_definition i (c ∷ ds) m kind d (inl g) e = let s : definition i c.body ≡ variable kind d = ap (λ (z : Origin). z.content) (sym g) ∙ e in cc
no_definition i (c ∷ ds) m kind d (inr g) e = no_definition i ds m kind d g e

domain_is : (k kind : VarKind) (c d : PlainDomain) → domain_content k c ≡ Some (variable kind d) → c ≡ d
domain_is k kind boolean d h = cc
domain_is k kind (members ms) d h = cc
domain_is k kind (between low high) d h = cc
domain_is k kind (bits n) d h = cc
domain_is k kind (instance m es) d h = cc

module _ (s : List ℕ) (ms : List Member) (there : In (OfMember.Symbol s) ms) where
  element_symbol : (i : ℕ) (x : PlainElement) (m : Origin) (kind : VarKind) → In m (element_items i x) → m.content ≡ variable kind (members ms) → element_has s x ≡ true
  element_symbol i (vars k items) m kind h e =
      let v = in_flat (variable_item i k) m items h in
      let d : v.0.domain ≡ members ms = domain_is k kind v.0.domain (members ms) (content_in i v.0.name (domain_content k v.0.domain) m v.2 ∙ ap Some e) in
      in_any (item_has s) v.0 items v.1 (ap (domain_has s) d ∙ in_any (is_symbol s) (OfMember.Symbol s) ms there ((bytes_eq-Decides s s).1 refl))
  element_symbol i (defines ds) m kind h e = absurd (no_definition i ds m kind (members ms) h e)
  element_symbol i (constants cs) m kind h e = absurd h
  element_symbol i (assigns xs) m kind h e = absurd h
  element_symbol i (init x) m kind h e = absurd h
  element_symbol i (trans x) m kind h e = absurd h
  element_symbol i (invar x) m kind h e = absurd h
  element_symbol i (spec l x) m kind h e = absurd h

  instance_symbol : (i : ℕ) (at : Instance) (m : Origin) (kind : VarKind) → In m (items_here i at) → m.content ≡ variable kind (members ms) → instance_has s at ≡ true
  instance_symbol i at m kind h e = by (in_either m (actual_items i (parent_of at) at.module.parameters at.actuals) (flat_map (element_items i) at.module.elements) h)
    where
      by : In m (actual_items i (parent_of at) at.module.parameters at.actuals) ⊎ In m (flat_map (element_items i) at.module.elements) → instance_has s at ≡ true
      by (inl g) = absurd (no_actuals i (parent_of at) at.module.parameters at.actuals m kind (members ms) g e)
      by (inr g) = let x = in_flat (element_items i) m at.module.elements g in in_any (element_has s) x.0 at.module.elements x.1 (element_symbol i x.0 m kind x.2 e)

  pub instances_symbol : (n : ℕ) (t : List Instance) (m : Origin) (kind : VarKind) → In m (over_instances items_here n t) → m.content ≡ variable kind (members ms) → has_symbol t s ≡ true
  instances_symbol n [] m kind h e = absurd h
  instances_symbol n (at ∷ t) m kind h e = by (in_either m (items_here n at) (over_instances items_here (n + 1) t) h) (λ g. instances_symbol (n + 1) t m kind g e)
    where
      or_left : (a b : Bool) → a ≡ true → (a || b) ≡ true
      or_left a b h = ap (λ c. c || b) h

      or_right : (a b : Bool) → b ≡ true → (a || b) ≡ true
      or_right true b h = refl
      or_right false b h = h

      by : In m (items_here n at) ⊎ In m (over_instances items_here (n + 1) t) → (In m (over_instances items_here (n + 1) t) → has_symbol t s ≡ true) → has_symbol (at ∷ t) s ≡ true
      by (inl g) ih = or_left (instance_has s at) (list_any (instance_has s) t) (instance_symbol n at m kind g e)
      by (inr g) ih = or_right (instance_has s at) (list_any (instance_has s) t) (ih g)

-- ---- each item's type has a value

pub content_value : (t : List Instance) (m : Origin) → In m (origins_of t) → HasValue (symbols_of t) (content_type t m.content)
content_value t m h = by m.content refl
  where
    by : (c : Content) → m.content ≡ c → HasValue (symbols_of t) (content_type t c)
    by (variable kind d) e =
        domain_value (symbols_of t) d (λ ms s f g. symbol_placed t s (instances_symbol s ms g 0 t m kind h (e ∙ ap (variable kind) f)))
    by (definition j e) f = expression_value t (types_in true t j) (names_have t j) in_body refl e
    by (actual j e) f = expression_value t (types_in true t j) (names_have t j) in_body refl e

some_symbols : (symbols : List (List ℕ)) (s : List ℕ) (i : ℕ) → place_of symbols s ≡ Some i → 0 < length (symbol_sort symbols)
some_symbols [] s i h = cc
some_symbols (x ∷ xs) s i h = omega arith

pub value_sort : (symbols : List (List ℕ)) (w : ℕ) → 1 ≤ w → w ≤ WIDEST → (o : Option ExprType) → HasValue symbols o → IsSort (symbol_sort symbols) (sort_of w (type_or_truth o))
value_sort symbols w some most None h = tt
value_sort symbols w some most (Some u) h = by u h.value h.lies h.known
  where
    by : (u : ExprType) (v : Value) → LiesIn u v → IsKnown symbols v → IsSort (symbol_sort symbols) (sort_of w u)
    by truth_type v l k = tt
    by (integer_type low high) v l k = (some, most)
    by symbol_type (Symbol s) l k = some_symbols symbols s k.0 k.1
    by symbol_type v l k = absurd l
    by (word_type n) (Bits x) l k = (subst (λ m. 1 ≤ m) l.0 l.1.0, subst (λ m. m ≤ WIDEST) l.0 l.1.1)
    by (word_type n) v l k = absurd l

-- ---- the variables

module _ (t : List Instance) (w : ℕ) (some : 1 ≤ w) (most : w ≤ WIDEST) where
  abbrev Good : PlainFlatItem → Type 0
  Good m = IsSort (symbol_sort (symbols_of t)) (sort_of w m.type)

  items_good : (ms : List Origin) → ((m : Origin) → In m ms → In m (origins_of t)) → AllByRecursion Good (map (flat_item_of t) ms)
  items_good [] h = tt
  items_good (m ∷ ms) h = (value_sort (symbols_of t) w some most (content_type t m.content) (content_value t m (h m (inl refl))), items_good ms (λ n g. h n (inr g)))

  picked_good : (g : Group) (ms : List PlainFlatItem) → AllByRecursion Good ms → AllByRecursion Good (items_in g ms)
  picked_good g [] h = tt
  picked_good g (m ∷ ms) h = by (same_group g (group_of m.kind)) (picked_good g ms h.1)
    where
      by : (b : Bool) → AllByRecursion Good (items_in g ms) → AllByRecursion Good (if b then m ∷ items_in g ms else items_in g ms)
      by true ih = (h.0, ih)
      by false ih = ih

  group_sorts : (g : Group) → AllByRecursion (λ (v : Variable). IsSort (symbol_sort (symbols_of t)) v.sort) (variables_in w g (map (flat_item_of t) (origins_of t)))
  group_sorts g = all_mapped (λ (v : Variable). IsSort (symbol_sort (symbols_of t)) v.sort) (variable_of w) (items_in g (map (flat_item_of t) (origins_of t))) (picked_good g (map (flat_item_of t) (origins_of t)) (items_good (origins_of t) (λ m h. h)))

  pub variables_sorts : AreSorts (symbol_sort (symbols_of t)) (sorts_of (all_variables w (map (flat_item_of t) (origins_of t))))
  variables_sorts =
      let items = map (flat_item_of t) (origins_of t) in
      all_mapped (IsSort (symbol_sort (symbols_of t))) (λ (v : Variable). v.sort) (all_variables w items)
      (all_joined (λ (v : Variable). IsSort (symbol_sort (symbols_of t)) v.sort) (variables_in w inputs items) (variables_in w outputs items ++ variables_in w locals items) (group_sorts inputs)
      (all_joined (λ (v : Variable). IsSort (symbol_sort (symbols_of t)) v.sort) (variables_in w outputs items) (variables_in w locals items) (group_sorts outputs) (group_sorts locals)))
