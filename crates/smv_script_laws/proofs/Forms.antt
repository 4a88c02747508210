-- Each formula of the flat form comes from an expression of the source that has a type, operators and a width within the given one.
use Rattle.std.proofs.Common.{◌≡◌, ℕ, ◌+◌, ◌≤◌, Bool, true, false, ◌&&◌, List, [], ◌∷◌, ◌++◌, map, length, flat_map, Option, Some, None, refl, sym, ap, ◌∙◌, arith}
use Rattle.std.specs.Prelude.{slice_get}
use Rattle.std.specs.List.{AllByRecursion, list_all}
use mathlib.Core.Logic.{inr}
use Rattle.smv_text.specs.declared.tree.Path.{Path}
use Rattle.smv_text.specs.declared.tree.Parameter.{Parameter}
use Rattle.smv_text.specs.declared.tree.VarKind.{VarKind}
use Rattle.smv_text.specs.declared.tree.When.{When}
use Rattle.smv_text.specs.Heights.{list_of, of_definitions, of_assignments}
use Rattle.smv_text.specs.Tree.{Tree, truth, number, literal, name, prefix, chain, choice, cases, select, call, next, set, range, Trees, no_trees, tree, PlainDomain, boolean, members, between, bits, instance, PlainItem, PlainDefinition, PlainAssignment, PlainElement, vars, defines, constants, assigns, init, trans, invar, spec}
use Rattle.smv_meaning.specs.Expressions.{paths_of, tree_paths}
use Rattle.smv_meaning.specs.Instances.{Instance}
use Rattle.smv_meaning.specs.Names.{Found, variable_at, body_at, instance_at, symbol_of, cyclic, none, parent_of, found_in}
use Rattle.smv_meaning.specs.Types.{ExprType, truth_type, integer_type, symbol_type, word_type, is_truth_type, type_same}
use Rattle.smv_meaning.specs.Checks.{Position, Named, passes, typing, on_type, on_types}
use Rattle.smv_meaning.specs.Naming.{in_body}
use Rattle.smv_meaning.specs.Phases.{in_state, in_step, in_assignment, over_instances, element_paths, is_something, actual_typing, actuals_typing, formula_typing, assigned_typing, element_typing, element_assigns, is_assignable}
use Rattle.smv_meaning.specs.Owed.{HasType}
use Rattle.smv_meaning.specs.Literals.{words_fit}
use Rattle.smv_meaning.specs.Parts.{expressions_in}
use Rattle.smv_meaning.specs.Settled.{Acyclic, types_in}
use Rattle.smv_meaning.specs.Checked.{instance_all, names_instance}
use Rattle.smv_meaning.specs.laws.Booleans.{both_true, absurd_bool}
use Rattle.smv_laws.proofs.Agreeing.{more_paths, paths_before}
use Rattle.smv_laws.proofs.CheckedLaws.{Lead, Checked, AllTyped, named_instance, left_lead, right_lead}
use Rattle.smv_laws.proofs.Settling.{types_settle_law}
use Rattle.smv_laws.proofs.Typable.{split, has_type}
use Rattle.smv_items.specs.FlatItems.{Content, variable, definition, actual, Origin, with_content, actual_content, actual_items, domain_content, variable_item, definition_item, element_items, items_here, leaf_in}
use Rattle.smv_flat.specs.declared.forms.Role.{Role}
use Rattle.smv_flat.specs.declared.forms.Role.TheVariants.{Body, Assign}
use Rattle.smv_flat.specs.FlatForms.{Form, flat_in, content_form, body_forms, number_or_first, assignment_form, element_forms, forms_here, forms_from}
use Rattle.smv_flat_laws.proofs.FlatTruths.{all_parts, assignable, assigned_here}
use Rattle.smv_width.specs.SourceWidth.{expression_width, has_operators, greatest, element_widths, actual_width, actual_widths, instance_widths}
use Rattle.smv_script_laws.proofs.Bodies.{all_joined}
use Rattle.smv_laws.proofs.Rests.{IsRest, rest_more}

-- ---- small facts

pub some_type : (o : Option ExprType) → HasType o → (u : ExprType) × (o ≡ Some u)
some_type None h = absurd_bool h
some_type (Some u) h = (u, refl)

greatest_parts : (xs ys : List ℕ) (w : ℕ) → greatest (xs ++ ys) ≤ w → (greatest xs ≤ w) × (greatest ys ≤ w)
greatest_parts [] ys w h = (omega arith, h)
greatest_parts (x ∷ xs) ys w h =
    let r = greatest_parts xs ys w (omega (arith, h)) in
    let p = r.0 in
    (omega (arith, h, p), r.1)

greatest_first : (x : ℕ) (xs : List ℕ) (w : ℕ) → greatest (x ∷ xs) ≤ w → (x ≤ w) × (greatest xs ≤ w)
greatest_first x xs w h = (omega (arith, h), omega (arith, h))

-- ---- an expression of the source

pub record Good (t : List Instance) (w i : ℕ) (at : Position) (e : Tree) : Type 0 where
  pub operators : has_operators e ≡ true
  pub width : expression_width (types_in true t i) at e ≤ w
  pub type : ExprType
  pub typed : (typing (types_in true t i) at e).type ≡ Some type

-- what is known of all instances
pub record Ready (t : List Instance) : Type 0 where
  pub acyclic : Acyclic t
  pub typed : AllTyped t
  pub checked : (i : ℕ) (at : Instance) → slice_get t i ≡ Some at → Checked t i at

good : (t : List Instance) (w i : ℕ) (at : Position) (e : Tree) → Ready t → Lead t i (paths_of e []) → words_fit e ≡ true → has_operators e ≡ true
    → expression_width (types_in true t i) at e ≤ w → passes (typing (types_in true t i) at e).checks ≡ true → Good t w i at e
good t w i at e r l f o b h =
    let s = some_type (typing (types_in true t i) at e).type (has_type (types_in true t i) at e [] (λ q m n. r.typed i q (l q m) n) f h) in
    record { operators = o; width = b; type = s.0; typed = s.1 }

-- ---- bodies

abbrev pub ContentGood : List Instance → ℕ → Content → Type 0
ContentGood t w (variable kind d) = Unit {0}
ContentGood t w (definition j e) = Good t w j in_body e
ContentGood t w (actual j e) = Good t w j in_body e

abbrev pub OriginGood : List Instance → ℕ → Origin → Type 0
OriginGood t w m = ContentGood t w m.content

abbrev AllGood : List Instance → ℕ → List Origin → Type 0
AllGood t w ms = AllByRecursion (OriginGood t w) ms

definitions_good : (t : List Instance) (w i : ℕ) (ds : List PlainDefinition) → Ready t → passes (flat_map (λ d. (typing (types_in true t i) in_body d.body).checks) ds) ≡ true
    → Lead t i (flat_map (λ d. paths_of d.body []) ds) → list_all words_fit (of_definitions ds) ≡ true → list_all has_operators (of_definitions ds) ≡ true
    → greatest (map (λ d. expression_width (types_in true t i) in_body d.body) ds) ≤ w → AllGood t w (map (definition_item i) ds)
definitions_good t w i [] r h l f o b = tt
definitions_good t w i (d ∷ ds) r h l f o b =
    let c = split (typing (types_in true t i) in_body d.body).checks (flat_map (λ (x : PlainDefinition). (typing (types_in true t i) in_body x.body).checks) ds) h in
    let g = both_true (words_fit d.body) (list_all words_fit (of_definitions ds)) f in
    let p = both_true (has_operators d.body) (list_all has_operators (of_definitions ds)) o in
    let n = greatest_first (expression_width (types_in true t i) in_body d.body) (map (λ (x : PlainDefinition). expression_width (types_in true t i) in_body x.body) ds) w b in (
      good t w i in_body d.body r (left_lead t i (paths_of d.body []) (flat_map (λ (x : PlainDefinition). paths_of x.body []) ds) l) g.0 p.0 n.0 c.0,
      definitions_good t w i ds r c.1 (right_lead t i (paths_of d.body []) (flat_map (λ (x : PlainDefinition). paths_of x.body []) ds) l) g.1 p.1 n.1,
    )

actual_good : (t : List Instance) (w i j : ℕ) (x : List ℕ) (e : Tree) (more : List Path) → Ready t → passes (actual_typing (types_in true t j) e) ≡ true → Lead t j (paths_of e more)
    → words_fit e ≡ true → has_operators e ≡ true → greatest (actual_width (types_in true t j) e) ≤ w → AllGood t w (with_content i x (actual_content j e))
actual_good t w i j x e more r h l f o b = by e h (λ q m. l q (paths_before e more q m)) f o b
  where
    here : (e : Tree) → passes (typing (types_in true t j) in_body e).checks ≡ true → Lead t j (paths_of e []) → words_fit e ≡ true → has_operators e ≡ true
        → greatest (expression_width (types_in true t j) in_body e ∷ []) ≤ w → Good t w j in_body e
    here e h l f o b = good t w j in_body e r l f o (greatest_first (expression_width (types_in true t j) in_body e) [] w b).0 h

    by : (e : Tree) → passes (actual_typing (types_in true t j) e) ≡ true → Lead t j (paths_of e []) → words_fit e ≡ true → has_operators e ≡ true
        → greatest (actual_width (types_in true t j) e) ≤ w → AllGood t w (with_content i x (actual_content j e))
    by (name p q) h l f o b = tt
    by (truth p c) h l f o b = (here (truth p c) h l f o b, tt)
    by (number p n) h l f o b = (here (number p n) h l f o b, tt)
    by (literal p v) h l f o b = (here (literal p v) h l f o b, tt)
    by (prefix p sign n c) h l f o b = (here (prefix p sign n c) h l f o b, tt)
    by (chain p c ls) h l f o b = (here (chain p c ls) h l f o b, tt)
    by (choice p bs c) h l f o b = (here (choice p bs c) h l f o b, tt)
    by (cases p bs) h l f o b = (here (cases p bs) h l f o b, tt)
    by (select p c high low) h l f o b = (here (select p c high low) h l f o b, tt)
    by (call p g cs) h l f o b = (here (call p g cs) h l f o b, tt)
    by (next p c) h l f o b = (here (next p c) h l f o b, tt)
    by (set p cs) h l f o b = (here (set p cs) h l f o b, tt)
    by (range p low high) h l f o b = (here (range p low high) h l f o b, tt)

actuals_good : (t : List Instance) (w i j : ℕ) (qs : List Parameter) (es : Trees) → Ready t → passes (actuals_typing (types_in true t j) es) ≡ true → Lead t j (tree_paths es [])
    → list_all words_fit (list_of es) ≡ true → list_all has_operators (list_of es) ≡ true → greatest (actual_widths (types_in true t j) qs es) ≤ w → AllGood t w (actual_items i j qs es)
actuals_good t w i j [] es r h l f o b = tt
actuals_good t w i j (q ∷ qs) no_trees r h l f o b = tt
actuals_good t w i j (q ∷ qs) (tree e es) r h l f o b =
    let c = split (actual_typing (types_in true t j) e) (actuals_typing (types_in true t j) es) h in
    let g = both_true (words_fit e) (list_all words_fit (list_of es)) f in
    let p = both_true (has_operators e) (list_all has_operators (list_of es)) o in
    let n = greatest_parts (actual_width (types_in true t j) e) (actual_widths (types_in true t j) qs es) w b in
    all_joined (OriginGood t w) (with_content i q.name (actual_content j e)) (actual_items i j qs es)
    (actual_good t w i j q.name e (tree_paths es []) r c.0 l g.0 p.0 n.0)
    (actuals_good t w i j qs es r c.1 (λ x m. l x (more_paths e (tree_paths es []) x m)) g.1 p.1 n.1)

-- a variable has no body
variables_good : (t : List Instance) (w i : ℕ) (kind : VarKind) (vs : List PlainItem) → AllGood t w (flat_map (variable_item i kind) vs)
variables_good t w i kind [] = tt
variables_good t w i kind (v ∷ vs) = all_joined (OriginGood t w) (variable_item i kind v) (flat_map (variable_item i kind) vs) (by v.domain) (variables_good t w i kind vs)
  where
    by : (d : PlainDomain) → AllGood t w (with_content i v.name (domain_content kind d))
    by boolean = (tt, tt)
    by (members ms) = (tt, tt)
    by (between low high) = (tt, tt)
    by (bits n) = (tt, tt)
    by (instance m es) = tt

-- ---- formulas

-- a target is a variable's path, whose type fits that of the body
pub record Target (t : List Instance) (i : ℕ) (when : When) (k : ℕ) (u : ExprType) : Type 0 where
  pub path : Path
  pub number : k ≡ number_or_first (leaf_in t i path)
  pub assigned : is_assignable when (found_in t i path) ≡ true
  pub type : ExprType
  pub typed : (types_in true t i path).type ≡ Some type
  pub same : type_same type u ≡ true

abbrev pub RoleGood : List Instance → ℕ → Position → ExprType → Role → Type 0
RoleGood t i at u (Body k) = at.sets ≡ false
RoleGood t i at u (Assign when k) = Target t i when k u
RoleGood t i at u r = (at.sets ≡ false) × (u ≡ truth_type)

pub record FormGood (t : List Instance) (w : ℕ) (f : Form) : Type 0 where
  pub from : ℕ
  pub at : Position
  pub source : Tree
  pub body : f.body ≡ flat_in t from at source
  pub good : Good t w from at source
  pub role : RoleGood t from at good.type f.role

abbrev AllFormsGood : List Instance → ℕ → List Form → Type 0
AllFormsGood t w fs = AllByRecursion (FormGood t w) fs

is_truth : (o : Option ExprType) (u : ExprType) → o ≡ Some u → (on_type o is_truth_type && true) ≡ true → u ≡ truth_type
is_truth o u e h = by u (both_true (is_truth_type u) true (sym (ap (λ p. on_type p is_truth_type && true) e) ∙ h)).0
  where
    by : (u : ExprType) → is_truth_type u ≡ true → u ≡ truth_type
    by truth_type h = refl
    by (integer_type low high) h = absurd_bool h
    by symbol_type h = absurd_bool h
    by (word_type n) h = absurd_bool h

-- in a position where no set may stand
formula_good : (t : List Instance) (w i : ℕ) (at : Position) (e : Tree) → Ready t → passes (formula_typing (types_in true t i) at e) ≡ true → Lead t i (paths_of e [])
    → list_all words_fit (e ∷ []) ≡ true → list_all has_operators (e ∷ []) ≡ true → greatest (expression_width (types_in true t i) at e ∷ []) ≤ w
    → (g : Good t w i at e) × (g.type ≡ truth_type)
formula_good t w i at e r h l f o b =
    let c = split (typing (types_in true t i) at e).checks _ h in
    let g = good t w i at e r l (both_true (words_fit e) true f).0 (both_true (has_operators e) true o).0 (greatest_first (expression_width (types_in true t i) at e) [] w b).0 c.0 in
    (g, is_truth (typing (types_in true t i) at e).type g.type g.typed c.1)

found_something : (when : When) (m : Found) → is_assignable when m ≡ true → is_something m ≡ true
found_something when (variable_at x kind d) h = refl
found_something when (body_at i x j e) h = absurd_bool h
found_something when (instance_at i) h = absurd_bool h
found_something when (symbol_of x) h = absurd_bool h
found_something when cyclic h = absurd_bool h
found_something when none h = absurd_bool h

found_plain : (when : When) (m : Found) → is_assignable when m ≡ true → names_instance m ≡ false
found_plain when (variable_at x kind d) h = refl
found_plain when (body_at i x j e) h = absurd_bool h
found_plain when (instance_at i) h = absurd_bool h
found_plain when (symbol_of x) h = absurd_bool h
found_plain when cyclic h = absurd_bool h
found_plain when none h = absurd_bool h

types_fit : (a b : Option ExprType) (v u : ExprType) → a ≡ Some v → b ≡ Some u → (on_types a b type_same && true) ≡ true → type_same v u ≡ true
types_fit a b v u p q h = (both_true (type_same v u) true (sym (ap (λ x. on_types x b type_same && true) p ∙ ap (λ x. on_types (Some v) x type_same && true) q) ∙ h)).0

assignment_good : (t : List Instance) (w i : ℕ) (a : PlainAssignment) → Ready t → passes (assigned_typing (types_in true t i) a) ≡ true → Lead t i (paths_of a.body [])
    → words_fit a.body ≡ true → has_operators a.body ≡ true → expression_width (types_in true t i) (in_assignment a.when) a.body ≤ w → is_assignable a.when (found_in t i a.target) ≡ true
    → FormGood t w (assignment_form t i a)
assignment_good t w i a r h l f o b s =
    let c = split (typing (types_in true t i) (in_assignment a.when) a.body).checks _ h in
    let g = good t w i (in_assignment a.when) a.body r l f o b c.0 in
    let e = ap (λ (m : Named). m.is_instance) (types_settle_law t r.acyclic true i a.target) ∙ named_instance t (found_in t i a.target) ∙ found_plain a.when (found_in t i a.target) s in
    let v = some_type (types_in true t i a.target).type (r.typed i a.target (found_something a.when (found_in t i a.target) s) e) in
    record {
      from = i;
      at = in_assignment a.when;
      source = a.body;
      body = refl;
      good = g;
      role = record {
        path = a.target;
        number = refl;
        assigned = s;
        type = v.0;
        typed = v.1;
        same = types_fit (types_in true t i a.target).type (typing (types_in true t i) (in_assignment a.when) a.body).type v.0 g.type v.1 g.typed c.1;
      };
    }

and_true : (b : Bool) → (b && true) ≡ true → b ≡ true
and_true true h = refl
and_true false h = h

assignments_good : (t : List Instance) (w i : ℕ) (xs : List PlainAssignment) → Ready t → passes (flat_map (assigned_typing (types_in true t i)) xs) ≡ true
    → Lead t i (flat_map (λ a. a.target ∷ paths_of a.body []) xs) → list_all words_fit (of_assignments xs) ≡ true → list_all has_operators (of_assignments xs) ≡ true
    → greatest (map (λ a. expression_width (types_in true t i) (in_assignment a.when) a.body) xs) ≤ w → list_all assignable (element_assigns (found_in t) i (assigns xs)) ≡ true
    → AllFormsGood t w (map (assignment_form t i) xs)
assignments_good t w i [] r h l f o b s = tt
assignments_good t w i (a ∷ xs) r h l f o b s =
    let c = split (assigned_typing (types_in true t i) a) (flat_map (assigned_typing (types_in true t i)) xs) h in
    let g = both_true (words_fit a.body) (list_all words_fit (of_assignments xs)) f in
    let p = both_true (has_operators a.body) (list_all has_operators (of_assignments xs)) o in
    let n = greatest_first (expression_width (types_in true t i) (in_assignment a.when) a.body) (map (λ (x : PlainAssignment). expression_width (types_in true t i) (in_assignment x.when) x.body) xs) w b in
    let u = both_true (is_assignable a.when (found_in t i a.target)) (list_all assignable (element_assigns (found_in t) i (assigns xs))) s in
    let own = left_lead t i (a.target ∷ paths_of a.body []) (flat_map (λ (x : PlainAssignment). x.target ∷ paths_of x.body []) xs) l in (
      assignment_good t w i a r c.0 (λ q m. own q (inr m)) g.0 p.0 n.0 u.0,
      assignments_good t w i xs r c.1 (right_lead t i (a.target ∷ paths_of a.body []) (flat_map (λ (x : PlainAssignment). x.target ∷ paths_of x.body []) xs) l) g.1 p.1 n.1 u.1,
    )

-- ---- elements: the bodies among their items, and their formulas

abbrev ElementGood : List Instance → ℕ → ℕ → PlainElement → Type 0
ElementGood t w i el = AllGood t w (element_items i el) × AllFormsGood t w (element_forms t i el)

element_good : (t : List Instance) (w i : ℕ) (el : PlainElement) → Ready t → passes (element_typing (types_in true t i) el) ≡ true → Lead t i (element_paths el)
    → list_all words_fit (expressions_in el) ≡ true → list_all has_operators (expressions_in el) ≡ true → greatest (element_widths (types_in true t i) el) ≤ w
    → list_all assignable (element_assigns (found_in t) i el) ≡ true → ElementGood t w i el
element_good t w i (vars kind vs) r h l f o b s = (variables_good t w i kind vs, tt)
element_good t w i (defines ds) r h l f o b s = (definitions_good t w i ds r h l f o b, tt)
element_good t w i (constants cs) r h l f o b s = (tt, tt)
element_good t w i (assigns xs) r h l f o b s = (tt, assignments_good t w i xs r h l f o b s)
element_good t w i (init e) r h l f o b s =
    let g = formula_good t w i in_state e r h l f o b in (tt, (record { from = i; at = in_state; source = e; body = refl; good = g.0; role = (refl, g.1) }, tt))
element_good t w i (trans e) r h l f o b s =
    let g = formula_good t w i in_step e r h l f o b in (tt, (record { from = i; at = in_step; source = e; body = refl; good = g.0; role = (refl, g.1) }, tt))
element_good t w i (invar e) r h l f o b s =
    let g = formula_good t w i in_state e r h l f o b in (tt, (record { from = i; at = in_state; source = e; body = refl; good = g.0; role = (refl, g.1) }, tt))
element_good t w i (spec label e) r h l f o b s =
    let g = formula_good t w i in_state e r h l f o b in (tt, (record { from = i; at = in_state; source = e; body = refl; good = g.0; role = (refl, g.1) }, tt))

elements_good : (t : List Instance) (w i : ℕ) (els : List PlainElement) → Ready t → passes (flat_map (element_typing (types_in true t i)) els) ≡ true → Lead t i (flat_map element_paths els)
    → list_all words_fit (flat_map expressions_in els) ≡ true → list_all has_operators (flat_map expressions_in els) ≡ true → greatest (flat_map (element_widths (types_in true t i)) els) ≤ w
    → list_all assignable (flat_map (element_assigns (found_in t) i) els) ≡ true → AllGood t w (flat_map (element_items i) els) × AllFormsGood t w (flat_map (element_forms t i) els)
elements_good t w i [] r h l f o b s = (tt, tt)
elements_good t w i (el ∷ els) r h l f o b s =
    let c = split (element_typing (types_in true t i) el) (flat_map (element_typing (types_in true t i)) els) h in
    let g = all_parts words_fit (expressions_in el) (flat_map expressions_in els) f in
    let p = all_parts has_operators (expressions_in el) (flat_map expressions_in els) o in
    let n = greatest_parts (element_widths (types_in true t i) el) (flat_map (element_widths (types_in true t i)) els) w b in
    let u = all_parts assignable (element_assigns (found_in t) i el) (flat_map (element_assigns (found_in t) i) els) s in
    let x = element_good t w i el r c.0 (left_lead t i (element_paths el) (flat_map element_paths els) l) g.0 p.0 n.0 u.0 in
    let y = elements_good t w i els r c.1 (right_lead t i (element_paths el) (flat_map element_paths els) l) g.1 p.1 n.1 u.1 in (
      all_joined (OriginGood t w) (element_items i el) (flat_map (element_items i) els) x.0 y.0,
      all_joined (FormGood t w) (element_forms t i el) (flat_map (element_forms t i) els) x.1 y.1,
    )

-- ---- the bodies' formulas

content_good : (t : List Instance) (w k i : ℕ) (c : Content) → ContentGood t w c → AllFormsGood t w (content_form t k i c)
content_good t w k i (variable kind d) g = tt
content_good t w k i (definition j e) g = (record { from = j; at = in_body; source = e; body = refl; good = g; role = refl }, tt)
content_good t w k i (actual j e) g = (record { from = j; at = in_body; source = e; body = refl; good = g; role = refl }, tt)

bodies_good : (t : List Instance) (w k : ℕ) (ms : List Origin) → AllGood t w ms → AllFormsGood t w (body_forms t k ms)
bodies_good t w k [] g = tt
bodies_good t w k (m ∷ ms) g =
    all_joined (FormGood t w) (content_form t k m.instance m.content) (body_forms t (k + 1) ms) (content_good t w k m.instance m.content g.0) (bodies_good t w (k + 1) ms g.1)

-- ---- all instances

rest_here : (t : List Instance) (i : ℕ) (at : Instance) (rest : List Instance) → IsRest t i (at ∷ rest) → slice_get t i ≡ Some at
rest_here t i at rest h = let s : i ≡ i + 0 = omega arith in ap (slice_get t) s ∙ h 0

abbrev pub InstancesGood : List Instance → ℕ → ℕ → ℕ → List Instance → Type 0
InstancesGood t w k i rest = AllByRecursion (OriginGood t w) (over_instances items_here i rest) × AllByRecursion (FormGood t w) (forms_from t k i rest)

pub instances_good : (t : List Instance) (w k i : ℕ) (rest : List Instance) → Ready t → IsRest t i rest → list_all (instance_all has_operators) rest ≡ true
    → greatest (over_instances (instance_widths t) i rest) ≤ w → list_all assignable (over_instances (assigned_here t) i rest) ≡ true → InstancesGood t w k i rest
instances_good t w k i [] r z o b s = (tt, tt)
instances_good t w k i (at ∷ rest) r z o b s =
    let x = r.checked i at (rest_here t i at rest z) in
    let p = both_true (instance_all has_operators at) (list_all (instance_all has_operators) rest) o in
    let q = both_true (list_all has_operators (list_of at.actuals)) (list_all has_operators (flat_map expressions_in at.module.elements)) p.0 in
    let n = greatest_parts (instance_widths t i at) (over_instances (instance_widths t) (i + 1) rest) w b in
    let m = greatest_parts (actual_widths (types_in true t (parent_of at)) at.module.parameters at.actuals) (flat_map (element_widths (types_in true t i)) at.module.elements) w n.0 in
    let u = all_parts assignable (assigned_here t i at) (over_instances (assigned_here t) (i + 1) rest) s in
    let a = actuals_good t w i (parent_of at) at.module.parameters at.actuals r x.actual_types x.actual_paths x.actual_words q.0 m.0 in
    let e = elements_good t w i at.module.elements r x.element_types x.element_paths_lead x.element_words q.1 m.1 u.0 in
    let own = all_joined (OriginGood t w) (actual_items i (parent_of at) at.module.parameters at.actuals) (flat_map (element_items i) at.module.elements) a e.0 in
    let more = instances_good t w (k + length (items_here i at)) (i + 1) rest r (rest_more t i at rest z) p.1 n.1 u.1 in (
      all_joined (OriginGood t w) (items_here i at) (over_instances items_here (i + 1) rest) own more.0,
      all_joined (FormGood t w) (forms_here t k i at) (forms_from t (k + length (items_here i at)) (i + 1) rest)
          (all_joined (FormGood t w) (body_forms t k (items_here i at)) (flat_map (element_forms t i) at.module.elements) (bodies_good t w k (items_here i at) own) e.1) more.1,
    )
