-- What the checks of a model give for each item, and the formula of each body.
use Rattle.std.proofs.Common.{◌≡◌, ℕ, zero, suc, ◌+◌, ◌≤◌, Bool, true, ◌&&◌, List, [], ◌∷◌, ◌++◌, map, flat_map, length, Some, refl, sym, ◌∙◌, subst, arith}
use Rattle.std.specs.List.{slice_get, list_all, AllByRecursion}
use Rattle.std.proofs.lemmas.List.Folds.{list_all-append}
use Rattle.smv_text.specs.declared.tree.Path.{Path}
use Rattle.smv_text.specs.declared.tree.Parameter.{Parameter}
use Rattle.smv_text.specs.declared.tree.VarKind.{VarKind}
use Rattle.smv_text.specs.Heights.{list_of, of_definitions}
use Rattle.smv_text.specs.Tree.{Tree, name, Trees, no_trees, tree, PlainDomain, boolean, members, between, bits, instance, PlainItem, PlainDefinition, PlainElement, vars, defines, constants, assigns, init, trans, invar, spec}
use Rattle.smv_meaning.specs.Expressions.{paths_of, tree_paths}
use Rattle.smv_meaning.specs.Instances.{Instance}
use Rattle.smv_meaning.specs.Names.{parent_of}
use Rattle.smv_meaning.specs.Types.{is_unmixed, in_limit, has_width, has_order, domain_type}
use Rattle.smv_meaning.specs.Checks.{on_type, passes, typing, domain_checks, variable_type}
use Rattle.smv_meaning.specs.Naming.{in_body}
use Rattle.smv_meaning.specs.Phases.{over_instances, actual_typing, actuals_typing, element_typing, element_paths}
use Rattle.smv_meaning.specs.Owed.{HasType}
use Rattle.smv_meaning.specs.Literals.{words_fit}
use Rattle.smv_meaning.specs.Parts.{expressions_in}
use Rattle.smv_meaning.specs.Settled.{types_in}
use Rattle.smv_meaning.specs.Checked.{instance_all, all_trees}
use Rattle.smv_meaning.specs.laws.Booleans.{both_true}
use Rattle.smv_laws.proofs.Cycles.{in_left, in_right}
use Rattle.smv_laws.proofs.Agreeing.{more_paths, paths_before}
use Rattle.smv_laws.proofs.FoundLaws.{there}
use Rattle.smv_laws.proofs.Typable.{split}
use Rattle.smv_laws.proofs.CheckedLaws.{Lead, Placed, Checked, four}
use Rattle.smv_items.specs.FlatItems.{Content, variable, definition, actual, Origin, with_content, actual_content, actual_items, domain_content, variable_item, definition_item, element_items, items_here, origins_of}
use Rattle.smv_flat.specs.FlatForms.{Form, content_form, body_forms, element_forms, forms_here, forms_from, forms_of}
use Rattle.smv_flat_laws.proofs.FlatRows.{AllFrom}
use Rattle.smv_flat.specs.FlatWidth.{tree_width, forms_width}
use Rattle.smv_width.specs.SourceWidth.{has_operators}
use Rattle.smv_accepted.proofs.Fitting.{rest_first, rest_all}
use Rattle.smv_laws.proofs.TypeLaws.{if_type}
use Rattle.smv_laws.proofs.Rests.{IsRest, rest_more}

-- ---- lists

pub all_joined : {X : Type 0} (P : X → Type 0) (xs ys : List X) → AllByRecursion P xs → AllByRecursion P ys → AllByRecursion P (xs ++ ys)
all_joined P [] ys a b = b
all_joined P (x ∷ xs) ys a b = (a.0, all_joined P xs ys a.1 b)

pub all_left : {X : Type 0} (P : X → Type 0) (xs ys : List X) → AllByRecursion P (xs ++ ys) → AllByRecursion P xs
all_left P [] ys a = tt
all_left P (x ∷ xs) ys a = (a.0, all_left P xs ys a.1)

pub all_right : {X : Type 0} (P : X → Type 0) (xs ys : List X) → AllByRecursion P (xs ++ ys) → AllByRecursion P ys
all_right P [] ys a = a
all_right P (x ∷ xs) ys a = all_right P xs ys a.1

pub all_there : {X : Type 0} (P : X → Type 0) (xs : List X) (k : ℕ) (x : X) → AllByRecursion P xs → slice_get xs k ≡ Some x → P x
all_there P [] k x a h = cc
all_there P (y ∷ xs) zero x a h = let s : y ≡ x = cc in subst P s a.0
all_there P (y ∷ xs) (suc k) x a h = all_there P xs k x a.1 h

-- ---- what the checks give

-- a body stands where its checks hold, and its chains have operators
pub record IsBody (t : List Instance) (j : ℕ) (e : Tree) : Type 0 where
  pub placed : Placed t j in_body e
  pub operators : has_operators e ≡ true

abbrev pub IsGood : List Instance → Content → Type 0
IsGood t (variable kind d) = HasType (variable_type d)
IsGood t (definition j e) = IsBody t j e
IsGood t (actual j e) = IsBody t j e

abbrev pub OriginIsGood : List Instance → Origin → Type 0
OriginIsGood t m = IsGood t m.content

module _ (t : List Instance) where
  variable_good : (i : ℕ) (kind : VarKind) (x : List ℕ) (d : PlainDomain) → ((((is_unmixed d && on_type (domain_type d) in_limit) && has_width d) && has_order d) ≡ true)
      → AllByRecursion (OriginIsGood t) (with_content i x (domain_content kind d))
  variable_good i kind x boolean h = (if_type _ boolean h refl, tt)
  variable_good i kind x (members ms) h = (if_type _ (members ms) h refl, tt)
  variable_good i kind x (between low high) h = (if_type _ (between low high) h refl, tt)
  variable_good i kind x (bits n) h = (if_type _ (bits n) h refl, tt)
  variable_good i kind x (instance m es) h = tt

  variables_good : (i : ℕ) (kind : VarKind) (vs : List PlainItem) → passes (flat_map (λ v. domain_checks v.domain_place v.domain) vs) ≡ true
      → AllByRecursion (OriginIsGood t) (flat_map (variable_item i kind) vs)
  variables_good i kind [] h = tt
  variables_good i kind (v ∷ vs) h =
      let b = split (domain_checks v.domain_place v.domain) (flat_map (λ (m : PlainItem). domain_checks m.domain_place m.domain) vs) h in
      all_joined (OriginIsGood t) (variable_item i kind v) (flat_map (variable_item i kind) vs)
      (variable_good i kind v.name v.domain (four (is_unmixed v.domain) (on_type (domain_type v.domain) in_limit) (has_width v.domain) (has_order v.domain) b.0)) (variables_good i kind vs b.1)

  definitions_good : (i : ℕ) (ds : List PlainDefinition) → passes (flat_map (λ d. (typing (types_in true t i) in_body d.body).checks) ds) ≡ true → Lead t i (flat_map (λ d. paths_of d.body []) ds)
      → list_all words_fit (of_definitions ds) ≡ true → list_all has_operators (of_definitions ds) ≡ true → AllByRecursion (OriginIsGood t) (map (definition_item i) ds)
  definitions_good i [] h l w o = tt
  definitions_good i (d ∷ ds) h l w o =
      let b = split (typing (types_in true t i) in_body d.body).checks (flat_map (λ (c : PlainDefinition). (typing (types_in true t i) in_body c.body).checks) ds) h in
      let f = both_true (words_fit d.body) (list_all words_fit (of_definitions ds)) w in
      let g = both_true (has_operators d.body) (list_all has_operators (of_definitions ds)) o in (
        record {
          placed = record { paths = λ q z. l q (in_left q (paths_of d.body []) (flat_map (λ (c : PlainDefinition). paths_of c.body []) ds) z); words = f.0; checks = b.0 };
          operators = g.0;
        },
        definitions_good i ds b.1 (λ q z. l q (in_right q (paths_of d.body []) (flat_map (λ (c : PlainDefinition). paths_of c.body []) ds) z)) f.1 g.1,
      )

  actual_good : (i j : ℕ) (x : List ℕ) (e : Tree) (more : List Path) → passes (actual_typing (types_in true t j) e) ≡ true → Lead t j (paths_of e more) → words_fit e ≡ true → has_operators e ≡ true
      → AllByRecursion (OriginIsGood t) (with_content i x (actual_content j e))
  actual_good i j x (name p q) more h l w o = tt
  actual_good i j x e more h l w o = (record { placed = record { paths = λ r g. l r (paths_before e more r g); words = w; checks = h }; operators = o }, tt)

  actuals_good : (i j : ℕ) (qs : List Parameter) (es : Trees) → passes (actuals_typing (types_in true t j) es) ≡ true → Lead t j (tree_paths es []) → list_all words_fit (list_of es) ≡ true
      → list_all has_operators (list_of es) ≡ true → AllByRecursion (OriginIsGood t) (actual_items i j qs es)
  actuals_good i j [] es h l w o = tt
  actuals_good i j (q ∷ qs) no_trees h l w o = tt
  actuals_good i j (q ∷ qs) (tree e es) h l w o =
      let b = split (actual_typing (types_in true t j) e) (actuals_typing (types_in true t j) es) h in
      let f = both_true (words_fit e) (list_all words_fit (list_of es)) w in
      let g = both_true (has_operators e) (list_all has_operators (list_of es)) o in
      all_joined (OriginIsGood t) (with_content i q.name (actual_content j e)) (actual_items i j qs es) (actual_good i j q.name e (tree_paths es []) b.0 l f.0 g.0)
      (actuals_good i j qs es b.1 (λ r z. l r (more_paths e (tree_paths es []) r z)) f.1 g.1)

  two_lists : (test : Tree → Bool) (xs ys : List Tree) → list_all test (xs ++ ys) ≡ true → (list_all test xs ≡ true) × (list_all test ys ≡ true)
  two_lists test xs ys h = both_true (list_all test xs) (list_all test ys) (sym (list_all-append test xs ys) ∙ h)

  element_good : (i : ℕ) (el : PlainElement) → passes (element_typing (types_in true t i) el) ≡ true → Lead t i (element_paths el) → list_all words_fit (expressions_in el) ≡ true
      → list_all has_operators (expressions_in el) ≡ true → AllByRecursion (OriginIsGood t) (element_items i el)
  element_good i (vars kind items) h l w o = variables_good i kind items h
  element_good i (defines ds) h l w o = definitions_good i ds h l w o
  element_good i (constants cs) h l w o = tt
  element_good i (assigns xs) h l w o = tt
  element_good i (init e) h l w o = tt
  element_good i (trans e) h l w o = tt
  element_good i (invar e) h l w o = tt
  element_good i (spec label e) h l w o = tt

  elements_good : (i : ℕ) (es : List PlainElement) → passes (flat_map (element_typing (types_in true t i)) es) ≡ true → Lead t i (flat_map element_paths es) → list_all words_fit (flat_map expressions_in es) ≡ true
      → list_all has_operators (flat_map expressions_in es) ≡ true → AllByRecursion (OriginIsGood t) (flat_map (element_items i) es)
  elements_good i [] h l w o = tt
  elements_good i (el ∷ es) h l w o =
      let b = split (element_typing (types_in true t i) el) (flat_map (element_typing (types_in true t i)) es) h in
      let f = two_lists words_fit (expressions_in el) (flat_map expressions_in es) w in
      let g = two_lists has_operators (expressions_in el) (flat_map expressions_in es) o in
      all_joined (OriginIsGood t) (element_items i el) (flat_map (element_items i) es)
      (element_good i el b.0 (λ q z. l q (in_left q (element_paths el) (flat_map element_paths es) z)) f.0 g.0)
      (elements_good i es b.1 (λ q z. l q (in_right q (element_paths el) (flat_map element_paths es) z)) f.1 g.1)

  instances_good : ((i : ℕ) (at : Instance) → slice_get t i ≡ Some at → Checked t i at) → all_trees has_operators t ≡ true → (i : ℕ) (rest : List Instance) → IsRest t i rest
      → AllByRecursion (OriginIsGood t) (over_instances items_here i rest)
  instances_good c o i [] r = tt
  instances_good c o i (at ∷ rest) r =
      let e = rest_first t i at rest r in
      let k = c i at e in
      let f = both_true (list_all has_operators (list_of at.actuals)) (list_all has_operators (flat_map expressions_in at.module.elements)) (there (instance_all has_operators) t i at o e) in
      all_joined (OriginIsGood t) (items_here i at) (over_instances items_here (i + 1) rest)
      (all_joined (OriginIsGood t) (actual_items i (parent_of at) at.module.parameters at.actuals) (flat_map (element_items i) at.module.elements)
      (actuals_good i (parent_of at) at.module.parameters at.actuals k.actual_types k.actual_paths k.actual_words f.0)
      (elements_good i at.module.elements k.element_types k.element_paths_lead k.element_words f.1))
      (instances_good c o (i + 1) rest (rest_more t i at rest r))

pub origins_good : (t : List Instance) → ((i : ℕ) (at : Instance) → slice_get t i ≡ Some at → Checked t i at) → all_trees has_operators t ≡ true → AllByRecursion (OriginIsGood t) (origins_of t)
origins_good t c o = instances_good t c o 0 t (rest_all t)

-- ---- the formulas of bodies

-- what holds of each formula holds of each item's own
abbrev pub HasForms : List Instance → (Form → Type 0) → ℕ → Origin → Type 0
HasForms t Q k m = AllByRecursion Q (content_form t k m.instance m.content)

froms_joined : (P : ℕ → Origin → Type 0) (ms ns : List Origin) (k : ℕ) → AllFrom P k ms → AllFrom P (k + length ms) ns → AllFrom P k (ms ++ ns)
froms_joined P [] ns k a b = let s : k + 0 ≡ k = omega arith in subst (λ i. AllFrom P i ns) s b
froms_joined P (m ∷ ms) ns k a b =
    let s : k + suc (length ms) ≡ (k + 1) + length ms = omega arith in
    (a.0, froms_joined P ms ns (k + 1) a.1 (subst (λ i. AllFrom P i ns) s b))

bodies_have : (t : List Instance) (Q : Form → Type 0) (k : ℕ) (ms : List Origin) → AllByRecursion Q (body_forms t k ms) → AllFrom (HasForms t Q) k ms
bodies_have t Q k [] h = tt
bodies_have t Q k (m ∷ ms) h =
    (all_left Q (content_form t k m.instance m.content) (body_forms t (k + 1) ms) h, bodies_have t Q (k + 1) ms (all_right Q (content_form t k m.instance m.content) (body_forms t (k + 1) ms) h))

forms_have : (t : List Instance) (Q : Form → Type 0) (k i : ℕ) (rest : List Instance) → AllByRecursion Q (forms_from t k i rest) → AllFrom (HasForms t Q) k (over_instances items_here i rest)
forms_have t Q k i [] h = tt
forms_have t Q k i (at ∷ rest) h =
    let r = all_left Q (forms_here t k i at) (forms_from t (k + length (items_here i at)) (i + 1) rest) h in
    froms_joined (HasForms t Q) (items_here i at) (over_instances items_here (i + 1) rest) k
    (bodies_have t Q k (items_here i at) (all_left Q (body_forms t k (items_here i at)) (flat_map (element_forms t i) at.module.elements) r))
    (forms_have t Q (k + length (items_here i at)) (i + 1) rest (all_right Q (forms_here t k i at) (forms_from t (k + length (items_here i at)) (i + 1) rest) h))

pub body_forms_have : (t : List Instance) (Q : Form → Type 0) → AllByRecursion Q (forms_of t) → AllFrom (HasForms t Q) 0 (origins_of t)
body_forms_have t Q h = forms_have t Q 0 0 t h

-- each formula is no wider than all of them
pub forms_within : (fs : List Form) (w : ℕ) → forms_width fs ≤ w → AllByRecursion (λ f. tree_width f.body ≤ w) fs
forms_within [] w h = tt
forms_within (f ∷ fs) w h = (omega (arith, h), forms_within fs w (omega (arith, h)))
