-- Each formula of a flat form is that of a typed expression, and each item's type is that of its declaration or its body.
use Rattle.std.proofs.Common.{◌≡◌, ℕ, zero, suc, ◌+◌, Bool, true, false, ◌&&◌, if◌then◌else◌, List, [], ◌∷◌, ◌++◌, map, flat_map, length, Option, Some, None, refl, sym, ap, ◌∙◌, subst, arith, inl, inr}
use Rattle.std.specs.List.{slice_get, list_all, AllByRecursion}
use Rattle.std.proofs.lemmas.List.Folds.{list_all-append}
use Rattle.text_core.specs.declared.place.Place.{Place}
use Rattle.smv_text.specs.declared.tree.Path.{Path}
use Rattle.smv_text.specs.declared.tree.Parameter.{Parameter}
use Rattle.smv_text.specs.declared.tree.VarKind.{VarKind}
use Rattle.smv_text.specs.declared.tree.When.{When}
use Rattle.smv_text.specs.Heights.{list_of, of_definitions, of_assignments}
use Rattle.smv_text.specs.Tree.{Tree, truth, number, literal, name, prefix, chain, choice, cases, select, call, next, set, range, Trees, no_trees, tree, PlainDomain, boolean, members, between, bits, instance, PlainItem, PlainDefinition, PlainAssignment, PlainElement, vars, defines, constants, assigns, init, trans, invar, spec}
use Rattle.smv_meaning.specs.Expressions.{paths_of, tree_paths}
use Rattle.smv_meaning.specs.Instances.{Instance}
use Rattle.smv_meaning.specs.Names.{parent_of, Found, variable_at, body_at, instance_at, symbol_of, cyclic, none, found_in}
use Rattle.smv_meaning.specs.Types.{ExprType, truth_type, is_truth_type, type_same, in_limit, is_unmixed, has_width, has_order, domain_type}
use Rattle.smv_meaning.specs.Checks.{check, passes, Position, Named, typing, on_type, on_types, domain_checks, variable_type}
use Rattle.smv_meaning.specs.Naming.{in_body, named_found}
use Rattle.smv_meaning.specs.Phases.{over_instances, element_paths, element_assigns, is_something, is_assignable, in_state, in_step, in_assignment, actual_typing, actuals_typing, formula_typing, assigned_typing, element_typing, place_of}
use Rattle.smv_meaning.specs.Owed.{HasType}
use Rattle.smv_meaning.specs.Literals.{words_fit}
use Rattle.smv_meaning.specs.Parts.{expressions_in}
use Rattle.smv_meaning.specs.Settled.{Acyclic, types_in}
use Rattle.smv_meaning.specs.Checked.{instance_all}
use Rattle.smv_meaning.specs.laws.Booleans.{both_true, absurd_bool}
use Rattle.smv_laws.proofs.Typable.{split, has_type}
use Rattle.smv_laws.proofs.CheckedLaws.{Lead, Checked, AllTyped, left_lead, more_lead, right_lead}
use Rattle.smv_laws.proofs.Settling.{types_settle_law}
use Rattle.smv_items.specs.FlatItems.{of_item, Content, variable, definition, actual, Origin, with_content, actual_content, actual_items, domain_content, variable_item, definition_item, element_items, items_here, origins_of, leaf_in, content_type}
use Rattle.smv_flat.specs.declared.forms.Role.{Role}
use Rattle.smv_flat.specs.declared.forms.Role.TheVariants.{Body, Assign, Init, Trans, Invar, Invariant}
use Rattle.smv_flat.specs.FlatTree.{FlatTree}
use Rattle.smv_flat.specs.FlatForms.{Form, flat_in, content_form, body_forms, number_or_first, assignment_form, element_forms, forms_here, forms_from}
use Rattle.smv_flat_laws.proofs.FlatFound.{home_found}
use Rattle.smv_flat_laws.proofs.FlatTruths.{leaf_placed, all_parts, assignable, assigned_here}
use Rattle.smv_width.specs.SourceWidth.{has_operators}
use Rattle.smv_script_laws.proofs.SortedRows.{truth_case}
use Rattle.smv_script_laws.proofs.Leaves.{ItemsDiffer, IsTypedLeaf, typed_leaf}
use Rattle.name_maps.proofs.FreshNames.{all_joined}

-- ---- what is known of an expression

-- it has operators in its chains, its checks hold and it has this type
pub record IsSound (t : List Instance) (i : ℕ) (at : Position) (e : Tree) (u : ExprType) : Type 0 where
  pub operators : has_operators e ≡ true
  pub checks : passes (typing (types_in true t i) at e).checks ≡ true
  pub typed : (typing (types_in true t i) at e).type ≡ Some u

-- the flat expression is that of a sound one
pub record IsOfSound (t : List Instance) (at : Position) (b : FlatTree) (u : ExprType) : Type 0 where
  pub instance : ℕ
  pub expression : Tree
  pub same : b ≡ flat_in t instance at expression
  pub sound : IsSound t instance at expression u

some_of : (o : Option ExprType) → HasType o → (u : ExprType) × (o ≡ Some u)
some_of None h = cc
some_of (Some u) h = (u, refl)

if_true : (b : Bool) (o : Option ExprType) → b ≡ true → (if b then o else None) ≡ o
if_true b o h = ap (λ c. if c then o else None) h

-- what is known of an item's content
abbrev pub IsTyped : List Instance → Content → Type 0
IsTyped t (variable kind d) = (u : ExprType) × (variable_type d ≡ Some u)
IsTyped t (definition j e) = (u : ExprType) × IsSound t j in_body e u
IsTyped t (actual j e) = (u : ExprType) × IsSound t j in_body e u

abbrev pub AreTyped : List Instance → List Origin → Type 0
AreTyped t ms = AllByRecursion (λ (m : Origin). IsTyped t m.content) ms

-- an item of this number and this type
pub record HasItem (t : List Instance) (k : ℕ) (u : ExprType) : Type 0 where
  pub origin : Origin
  pub there : slice_get (origins_of t) k ≡ Some origin
  pub typed : content_type t origin.content ≡ Some u

-- what is known of a formula: a body has its item's type, and an assigned value fits its target's
abbrev pub IsRole : List Instance → Role → FlatTree → Type 0
IsRole t (Body k) b = (u : ExprType) × HasItem t k u × IsOfSound t in_body b u
IsRole t (Assign when k) b = (u : ExprType) × (v : ExprType) × HasItem t k u × (type_same u v ≡ true) × IsOfSound t (in_assignment when) b v
IsRole t Init b = IsOfSound t in_state b truth_type
IsRole t Trans b = IsOfSound t in_step b truth_type
IsRole t Invar b = IsOfSound t in_state b truth_type
IsRole t Invariant b = IsOfSound t in_state b truth_type

abbrev pub AreRoles : List Instance → List Form → Type 0
AreRoles t fs = AllByRecursion (λ (f : Form). IsRole t f.role f.body) fs

-- ---- an instance

words_both : (xs ys : List Tree) → list_all words_fit (xs ++ ys) ≡ true → (list_all words_fit xs ≡ true) × (list_all words_fit ys ≡ true)
words_both xs ys h = both_true (list_all words_fit xs) (list_all words_fit ys) (sym (list_all-append words_fit xs ys) ∙ h)

operators_both : (xs ys : List Tree) → list_all has_operators (xs ++ ys) ≡ true → (list_all has_operators xs ≡ true) × (list_all has_operators ys ≡ true)
operators_both xs ys h = both_true (list_all has_operators xs) (list_all has_operators ys) (sym (list_all-append has_operators xs ys) ∙ h)

module _ (t : List Instance) (acyclic : Acyclic t) (fresh : ItemsDiffer t) (typed : AllTyped t) where
  sound : (i : ℕ) (at : Position) (e : Tree) (more : List Path) → Lead t i (paths_of e more) → words_fit e ≡ true → has_operators e ≡ true → passes (typing (types_in true t i) at e).checks ≡ true → (u : ExprType) × IsSound t i at e u
  sound i at e more l w o h =
      let s = some_of (typing (types_in true t i) at e).type (has_type (types_in true t i) at e more (λ q g f. typed i q (l q g) f) w h) in
      (s.0, record { operators = o; checks = h; typed = s.1 })

  of_sound : (i : ℕ) (at : Position) (e : Tree) (u : ExprType) → IsSound t i at e u → IsOfSound t at (flat_in t i at e) u
  of_sound i at e u s = record { instance = i; expression = e; same = refl; sound = s }

  -- ---- items

  four : (a b c d : Bool) → (a && (b && (c && (d && true)))) ≡ true → (((a && b) && c) && d) ≡ true
  four true true true true h = refl
  four true true true false h = absurd_bool h
  four true true false d h = absurd_bool h
  four true false c d h = absurd_bool h
  four false b c d h = absurd_bool h

  domain_typed : (p : Place) (d : PlainDomain) → passes (domain_checks p d) ≡ true → HasType (domain_type d) → (u : ExprType) × (variable_type d ≡ Some u)
  domain_typed p d h k =
      let s = some_of (domain_type d) k in
      (s.0, if_true _ (domain_type d) (four (is_unmixed d) (on_type (domain_type d) in_limit) (has_width d) (has_order d) h) ∙ s.1)

  variable_typed : (i : ℕ) (kind : VarKind) (x : List ℕ) (p : Place) (d : PlainDomain) → passes (domain_checks p d) ≡ true → AreTyped t (with_content i x (domain_content kind d))
  variable_typed i kind x p boolean h = (domain_typed p boolean h refl, tt)
  variable_typed i kind x p (members ms) h = (domain_typed p (members ms) h refl, tt)
  variable_typed i kind x p (between low high) h = (domain_typed p (between low high) h refl, tt)
  variable_typed i kind x p (bits n) h = (domain_typed p (bits n) h refl, tt)
  variable_typed i kind x p (instance m es) h = tt

  variables_typed : (i : ℕ) (kind : VarKind) (vs : List PlainItem) → passes (flat_map (λ item. domain_checks item.domain_place item.domain) vs) ≡ true → AreTyped t (flat_map (variable_item i kind) vs)
  variables_typed i kind [] h = tt
  variables_typed i kind (v ∷ vs) h =
      let b = split (domain_checks v.domain_place v.domain) (flat_map (λ (m : PlainItem). domain_checks m.domain_place m.domain) vs) h in
      all_joined (λ (m : Origin). IsTyped t m.content) (variable_item i kind v) (flat_map (variable_item i kind) vs) (variable_typed i kind v.name v.domain_place v.domain b.0) (variables_typed i kind vs b.1)

  definitions_typed : (i : ℕ) (ds : List PlainDefinition) → passes (flat_map (λ d. (typing (types_in true t i) in_body d.body).checks) ds) ≡ true → Lead t i (flat_map (λ d. paths_of d.body []) ds)
      → list_all words_fit (of_definitions ds) ≡ true → list_all has_operators (of_definitions ds) ≡ true → AreTyped t (map (definition_item i) ds)
  definitions_typed i [] h l w o = tt
  definitions_typed i (d ∷ ds) h l w o =
      let b = split (typing (types_in true t i) in_body d.body).checks (flat_map (λ (c : PlainDefinition). (typing (types_in true t i) in_body c.body).checks) ds) h in
      let v = both_true (words_fit d.body) (list_all words_fit (of_definitions ds)) w in
      let r = both_true (has_operators d.body) (list_all has_operators (of_definitions ds)) o in (
        sound i in_body d.body [] (left_lead t i (paths_of d.body []) (flat_map (λ (c : PlainDefinition). paths_of c.body []) ds) l) v.0 r.0 b.0,
        definitions_typed i ds b.1 (right_lead t i (paths_of d.body []) (flat_map (λ (c : PlainDefinition). paths_of c.body []) ds) l) v.1 r.1,
      )

  actual_typed : (i : ℕ) (x : List ℕ) (j : ℕ) (e : Tree) (more : List Path) → Lead t j (paths_of e more) → words_fit e ≡ true → has_operators e ≡ true → passes (actual_typing (types_in true t j) e) ≡ true → AreTyped t (with_content i x (actual_content j e))
  actual_typed i x j (name p y) more l w o h = tt
  actual_typed i x j (truth p b) more l w o h = (sound j in_body (truth p b) more l w o h, tt)
  actual_typed i x j (number p n) more l w o h = (sound j in_body (number p n) more l w o h, tt)
  actual_typed i x j (literal p v) more l w o h = (sound j in_body (literal p v) more l w o h, tt)
  actual_typed i x j (prefix p sign n e) more l w o h = (sound j in_body (prefix p sign n e) more l w o h, tt)
  actual_typed i x j (chain p e ls) more l w o h = (sound j in_body (chain p e ls) more l w o h, tt)
  actual_typed i x j (choice p bs e) more l w o h = (sound j in_body (choice p bs e) more l w o h, tt)
  actual_typed i x j (cases p bs) more l w o h = (sound j in_body (cases p bs) more l w o h, tt)
  actual_typed i x j (select p e high low) more l w o h = (sound j in_body (select p e high low) more l w o h, tt)
  actual_typed i x j (call p f es) more l w o h = (sound j in_body (call p f es) more l w o h, tt)
  actual_typed i x j (next p e) more l w o h = (sound j in_body (next p e) more l w o h, tt)
  actual_typed i x j (set p es) more l w o h = (sound j in_body (set p es) more l w o h, tt)
  actual_typed i x j (range p low high) more l w o h = (sound j in_body (range p low high) more l w o h, tt)

  actuals_typed : (i j : ℕ) (qs : List Parameter) (es : Trees) → Lead t j (tree_paths es []) → list_all words_fit (list_of es) ≡ true → list_all has_operators (list_of es) ≡ true → passes (actuals_typing (types_in true t j) es) ≡ true → AreTyped t (actual_items i j qs es)
  actuals_typed i j [] es l w o h = tt
  actuals_typed i j (q ∷ qs) no_trees l w o h = tt
  actuals_typed i j (q ∷ qs) (tree e es) l w o h =
      let b = split (actual_typing (types_in true t j) e) (actuals_typing (types_in true t j) es) h in
      let v = both_true (words_fit e) (list_all words_fit (list_of es)) w in
      let r = both_true (has_operators e) (list_all has_operators (list_of es)) o in
      all_joined (λ (m : Origin). IsTyped t m.content) (with_content i q.name (actual_content j e)) (actual_items i j qs es) (actual_typed i q.name j e (tree_paths es []) l v.0 r.0 b.0)
      (actuals_typed i j qs es (more_lead t j e (tree_paths es []) l) v.1 r.1 b.1)

  elements_typed : (i : ℕ) (xs : List PlainElement) → passes (flat_map (element_typing (types_in true t i)) xs) ≡ true → Lead t i (flat_map element_paths xs)
      → list_all words_fit (flat_map expressions_in xs) ≡ true → list_all has_operators (flat_map expressions_in xs) ≡ true → AreTyped t (flat_map (element_items i) xs)
  elements_typed i [] h l w o = tt
  elements_typed i (x ∷ xs) h l w o =
      let b = split (element_typing (types_in true t i) x) (flat_map (element_typing (types_in true t i)) xs) h in
      let v = words_both (expressions_in x) (flat_map expressions_in xs) w in
      let r = operators_both (expressions_in x) (flat_map expressions_in xs) o in
      all_joined (λ (m : Origin). IsTyped t m.content) (element_items i x) (flat_map (element_items i) xs) (by x b.0 (left_lead t i (element_paths x) (flat_map element_paths xs) l) v.0 r.0)
      (elements_typed i xs b.1 (right_lead t i (element_paths x) (flat_map element_paths xs) l) v.1 r.1)
    where
      by : (x : PlainElement) → passes (element_typing (types_in true t i) x) ≡ true → Lead t i (element_paths x) → list_all words_fit (expressions_in x) ≡ true → list_all has_operators (expressions_in x) ≡ true → AreTyped t (element_items i x)
      by (vars kind items) h l w o = variables_typed i kind items h
      by (defines ds) h l w o = definitions_typed i ds h l w o
      by (constants cs) h l w o = tt
      by (assigns xs) h l w o = tt
      by (init e) h l w o = tt
      by (trans e) h l w o = tt
      by (invar e) h l w o = tt
      by (spec label e) h l w o = tt

  here_typed : (i : ℕ) (at : Instance) → Checked t i at → instance_all has_operators at ≡ true → AreTyped t (items_here i at)
  here_typed i at k o =
      let r = both_true (list_all has_operators (list_of at.actuals)) (list_all has_operators (flat_map expressions_in at.module.elements)) o in
      all_joined (λ (m : Origin). IsTyped t m.content) (actual_items i (parent_of at) at.module.parameters at.actuals) (flat_map (element_items i) at.module.elements)
      (actuals_typed i (parent_of at) at.module.parameters at.actuals k.actual_paths k.actual_words r.0 k.actual_types)
      (elements_typed i at.module.elements k.element_types k.element_paths_lead k.element_words r.1)

  -- ---- bodies

  -- these items are in the model from this number on
  abbrev pub StandFrom : ℕ → List Origin → Type 0
  StandFrom k ms = (n : ℕ) (m : Origin) → slice_get ms n ≡ Some m → slice_get (origins_of t) (k + n) ≡ Some m

  stand_later : (k : ℕ) (m : Origin) (ms : List Origin) → StandFrom k (m ∷ ms) → StandFrom (k + 1) ms
  stand_later k m ms h n x e = subst (λ i. slice_get (origins_of t) i ≡ Some x) (let s : k + suc n ≡ (k + 1) + n = omega arith in s) (h (suc n) x e)

  stand_front : (k : ℕ) (xs ys : List Origin) → StandFrom k (xs ++ ys) → StandFrom k xs
  stand_front k [] ys h n x e = cc
  stand_front k (y ∷ xs) ys h zero x e = h zero x e
  stand_front k (y ∷ xs) ys h (suc n) x e =
      subst (λ i. slice_get (origins_of t) i ≡ Some x) (let s : (k + 1) + n ≡ k + suc n = omega arith in s) (stand_front (k + 1) xs ys (stand_later k y (xs ++ ys) h) n x e)

  stand_behind : (k : ℕ) (xs ys : List Origin) → StandFrom k (xs ++ ys) → StandFrom (k + length xs) ys
  stand_behind k [] ys h = subst (λ i. StandFrom i ys) (let s : k ≡ k + 0 = omega arith in s) h
  stand_behind k (x ∷ xs) ys h =
      subst (λ i. StandFrom i ys) (let s : (k + 1) + length xs ≡ k + suc (length xs) = omega arith in s) (stand_behind (k + 1) xs ys (stand_later k x (xs ++ ys) h))

  content_roles : (k : ℕ) (m : Origin) → slice_get (origins_of t) k ≡ Some m → (c : Content) → m.content ≡ c → IsTyped t c → AreRoles t (content_form t k m.instance c)
  content_roles k m e (variable kind d) s h = tt
  content_roles k m e (definition j b) s h = ((h.0, record { origin = m; there = e; typed = ap (content_type t) s ∙ h.1.typed }, of_sound j in_body b h.0 h.1), tt)
  content_roles k m e (actual j b) s h = ((h.0, record { origin = m; there = e; typed = ap (content_type t) s ∙ h.1.typed }, of_sound j in_body b h.0 h.1), tt)

  bodies_roles : (k : ℕ) (ms : List Origin) → StandFrom k ms → AreTyped t ms → AreRoles t (body_forms t k ms)
  bodies_roles k [] s h = tt
  bodies_roles k (m ∷ ms) s h =
      all_joined (λ (f : Form). IsRole t f.role f.body) (content_form t k m.instance m.content) (body_forms t (k + 1) ms)
      (content_roles k m (subst (λ i. slice_get (origins_of t) i ≡ Some m) (let z : k + 0 ≡ k = omega arith in z) (s 0 m refl)) m.content refl h.0) (bodies_roles (k + 1) ms (stand_later k m ms s) h.1)

  -- ---- formulas

  truth_of : (o : Option ExprType) (u : ExprType) → o ≡ Some u → on_type o is_truth_type ≡ true → u ≡ truth_type
  truth_of o u e h = by u (subst (λ z. on_type z is_truth_type ≡ true) e h)
    where
      by : (u : ExprType) → is_truth_type u ≡ true → u ≡ truth_type
      by u h = truth_case (λ z. z ≡ truth_type) refl u h

  formula_sound : (i : ℕ) (at : Position) (e : Tree) → passes (formula_typing (types_in true t i) at e) ≡ true → Lead t i (paths_of e []) → list_all words_fit (e ∷ []) ≡ true → list_all has_operators (e ∷ []) ≡ true → IsOfSound t at (flat_in t i at e) truth_type
  formula_sound i at e h l w o =
      let b = split (typing (types_in true t i) at e).checks (check 16 (place_of e) (on_type (typing (types_in true t i) at e).type is_truth_type) ∷ []) h in
      let s = sound i at e [] l (both_true (words_fit e) true w).0 (both_true (has_operators e) true o).0 b.0 in
      let u = truth_of (typing (types_in true t i) at e).type s.0 s.1.typed (both_true (on_type (typing (types_in true t i) at e).type is_truth_type) true b.1).0 in
      of_sound i at e truth_type (subst (λ z. IsSound t i at e z) u s.1)

  fits_of : (a b : Option ExprType) (u v : ExprType) → a ≡ Some u → b ≡ Some v → on_types a b type_same ≡ true → type_same u v ≡ true
  fits_of a b u v e f h = subst (λ z. on_types (Some u) z type_same ≡ true) f (subst (λ z. on_types z b type_same ≡ true) e h)

  -- a variable that is assigned is an item of its name's type
  target_item : (i : ℕ) (q : Path) (when : When) → is_assignable when (found_in t i q) ≡ true → is_something (found_in t i q) ≡ true → (u : ExprType) × ((types_in true t i q).type ≡ Some u) × HasItem t (number_or_first (leaf_in t i q)) u
  target_item i q when a s =
      let no : (types_in true t i q).is_instance ≡ false = ap (λ (m : Named). m.is_instance) (types_settle_law t acyclic true i q) ∙ apart (found_in t i q) a in
      let u = some_of (types_in true t i q).type (typed i q s no) in
      let l = leaf_placed t when (found_in t i q) (home_found t i q) a in
      let h : IsTypedLeaf t u.0 (of_item l.0) = subst (IsTypedLeaf t u.0) l.1 (typed_leaf t acyclic fresh i q u.0 u.1) in
      (u.0, u.1, subst (λ z. HasItem t (number_or_first z) u.0) (sym l.1) (record { origin = h.0; there = h.1; typed = h.2 }))
    where
      apart : (m : Found) → is_assignable when m ≡ true → (named_found true (types_in true t) m).is_instance ≡ false
      apart (variable_at x kind d) a = refl
      apart (body_at j x k e) a = refl
      apart (instance_at j) a = absurd_bool a
      apart (symbol_of x) a = refl
      apart cyclic a = refl
      apart none a = refl

  assignments_roles : (i : ℕ) (xs : List PlainAssignment) → passes (flat_map (assigned_typing (types_in true t i)) xs) ≡ true → Lead t i (flat_map (λ a. a.target ∷ paths_of a.body []) xs)
      → list_all words_fit (of_assignments xs) ≡ true → list_all has_operators (of_assignments xs) ≡ true → list_all assignable (element_assigns (found_in t) i (assigns xs)) ≡ true → AreRoles t (map (assignment_form t i) xs)
  assignments_roles i [] h l w o g = tt
  assignments_roles i (a ∷ xs) h l w o g =
      let names = types_in true t i in
      let b = split (assigned_typing names a) (flat_map (assigned_typing names) xs) h in
      let p = split (typing names (in_assignment a.when) a.body).checks (check 16 (place_of a.body) (on_types (names a.target).type (typing names (in_assignment a.when) a.body).type type_same) ∷ []) b.0 in
      let own = left_lead t i (a.target ∷ paths_of a.body []) (flat_map (λ (z : PlainAssignment). z.target ∷ paths_of z.body []) xs) l in
      let v = both_true (words_fit a.body) (list_all words_fit (of_assignments xs)) w in
      let r = both_true (has_operators a.body) (list_all has_operators (of_assignments xs)) o in
      let m = both_true (is_assignable a.when (found_in t i a.target)) (list_all assignable (element_assigns (found_in t) i (assigns xs))) g in
      let s = sound i (in_assignment a.when) a.body [] (λ q k. own q (inr k)) v.0 r.0 p.0 in
      let target = target_item i a.target a.when m.0 (own a.target (inl refl)) in (
        (target.0, s.0, target.2, fits_of (names a.target).type (typing names (in_assignment a.when) a.body).type target.0 s.0 target.1 s.1.typed (both_true _ true p.1).0, of_sound i (in_assignment a.when) a.body s.0 s.1),
        assignments_roles i xs b.1 (right_lead t i (a.target ∷ paths_of a.body []) (flat_map (λ (z : PlainAssignment). z.target ∷ paths_of z.body []) xs) l) v.1 r.1 m.1,
      )

  element_roles : (i : ℕ) (x : PlainElement) → passes (element_typing (types_in true t i) x) ≡ true → Lead t i (element_paths x) → list_all words_fit (expressions_in x) ≡ true → list_all has_operators (expressions_in x) ≡ true
      → list_all assignable (element_assigns (found_in t) i x) ≡ true → AreRoles t (element_forms t i x)
  element_roles i (vars kind items) h l w o g = tt
  element_roles i (defines ds) h l w o g = tt
  element_roles i (constants cs) h l w o g = tt
  element_roles i (assigns xs) h l w o g = assignments_roles i xs h l w o g
  element_roles i (init e) h l w o g = (formula_sound i in_state e h l w o, tt)
  element_roles i (trans e) h l w o g = (formula_sound i in_step e h l w o, tt)
  element_roles i (invar e) h l w o g = (formula_sound i in_state e h l w o, tt)
  element_roles i (spec label e) h l w o g = (formula_sound i in_state e h l w o, tt)

  elements_roles : (i : ℕ) (xs : List PlainElement) → passes (flat_map (element_typing (types_in true t i)) xs) ≡ true → Lead t i (flat_map element_paths xs)
      → list_all words_fit (flat_map expressions_in xs) ≡ true → list_all has_operators (flat_map expressions_in xs) ≡ true → list_all assignable (flat_map (element_assigns (found_in t) i) xs) ≡ true → AreRoles t (flat_map (element_forms t i) xs)
  elements_roles i [] h l w o g = tt
  elements_roles i (x ∷ xs) h l w o g =
      let b = split (element_typing (types_in true t i) x) (flat_map (element_typing (types_in true t i)) xs) h in
      let v = words_both (expressions_in x) (flat_map expressions_in xs) w in
      let r = operators_both (expressions_in x) (flat_map expressions_in xs) o in
      let s = all_parts assignable (element_assigns (found_in t) i x) (flat_map (element_assigns (found_in t) i) xs) g in
      all_joined (λ (f : Form). IsRole t f.role f.body) (element_forms t i x) (flat_map (element_forms t i) xs) (element_roles i x b.0 (left_lead t i (element_paths x) (flat_map element_paths xs) l) v.0 r.0 s.0)
      (elements_roles i xs b.1 (right_lead t i (element_paths x) (flat_map element_paths xs) l) v.1 r.1 s.1)

  -- ---- all instances

  abbrev AreChecked : ℕ → List Instance → Type 0
  AreChecked i rest = (n : ℕ) (at : Instance) → slice_get rest n ≡ Some at → Checked t (i + n) at × (instance_all has_operators at ≡ true)

  checked_later : (i : ℕ) (at : Instance) (rest : List Instance) → AreChecked i (at ∷ rest) → AreChecked (i + 1) rest
  checked_later i at rest h n x e = let r = h (suc n) x e in (subst (λ m. Checked t m x) (let s : i + suc n ≡ (i + 1) + n = omega arith in s) r.0, r.1)

  checked_first : (i : ℕ) (at : Instance) (rest : List Instance) → AreChecked i (at ∷ rest) → Checked t i at × (instance_all has_operators at ≡ true)
  checked_first i at rest h = let r = h 0 at refl in (subst (λ m. Checked t m at) (let s : i + 0 ≡ i = omega arith in s) r.0, r.1)

  pub items_typed : (i : ℕ) (rest : List Instance) → AreChecked i rest → AreTyped t (over_instances items_here i rest)
  items_typed i [] c = tt
  items_typed i (at ∷ rest) c =
      let k = checked_first i at rest c in
      all_joined (λ (m : Origin). IsTyped t m.content) (items_here i at) (over_instances items_here (i + 1) rest) (here_typed i at k.0 k.1) (items_typed (i + 1) rest (checked_later i at rest c))

  pub forms_roles : (k i : ℕ) (rest : List Instance) → AreChecked i rest → StandFrom k (over_instances items_here i rest) → list_all assignable (over_instances (assigned_here t) i rest) ≡ true → AreRoles t (forms_from t k i rest)
  forms_roles k i [] c s g = tt
  forms_roles k i (at ∷ rest) c s g =
      let q = checked_first i at rest c in
      let o = both_true (list_all has_operators (list_of at.actuals)) (list_all has_operators (flat_map expressions_in at.module.elements)) q.1 in
      let p = all_parts assignable (assigned_here t i at) (over_instances (assigned_here t) (i + 1) rest) g in
      all_joined (λ (f : Form). IsRole t f.role f.body) (forms_here t k i at) (forms_from t (k + length (items_here i at)) (i + 1) rest)
      (all_joined (λ (f : Form). IsRole t f.role f.body) (body_forms t k (items_here i at)) (flat_map (element_forms t i) at.module.elements)
      (bodies_roles k (items_here i at) (stand_front k (items_here i at) (over_instances items_here (i + 1) rest) s) (here_typed i at q.0 q.1))
      (elements_roles i at.module.elements q.0.element_types q.0.element_paths_lead q.0.element_words o.1 p.0))
      (forms_roles (k + length (items_here i at)) (i + 1) rest (checked_later i at rest c) (stand_behind k (items_here i at) (over_instances items_here (i + 1) rest) s) p.1)
