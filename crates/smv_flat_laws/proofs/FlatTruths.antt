-- The formulas of the flat form hold in rows exactly where those of the model do in the states.
use Rattle.std.proofs.Common.{◌≡◌, ℕ, ◌+◌, Bool, true, false, not, ◌&&◌, ◌||◌, List, [], ◌∷◌, ◌++◌, map, length, flat_map, refl, sym, ap, ◌∙◌}
use Rattle.std.specs.List.{list_all}
use Rattle.std.proofs.lemmas.List.Folds.{list_all-append}
use Rattle.smv_text.specs.declared.tree.Path.{Path}
use Rattle.smv_text.specs.declared.tree.VarKind.TheVariants as OfVarKind
use Rattle.smv_text.specs.declared.tree.When.{When}
use Rattle.smv_text.specs.declared.tree.When.TheVariants.{Always, First, Following}
use Rattle.smv_text.specs.Tree.{Tree, PlainAssignment, PlainElement, vars, defines, constants, assigns, init, trans, invar, spec}
use Rattle.smv_meaning.specs.declared.value.Value.{Value}
use Rattle.smv_meaning.specs.Values.{Valuation, is_true}
use Rattle.smv_meaning.specs.Expressions.{Denotation, denote}
use Rattle.smv_meaning.specs.Instances.{Instance}
use Rattle.smv_meaning.specs.Names.{Found, variable_at, body_at, instance_at, symbol_of, cyclic, none, parent_of, found_in, steps_of}
use Rattle.smv_meaning.specs.Meaning.{reading, denoted}
use Rattle.smv_meaning.specs.Checks.{Position, Named, typing}
use Rattle.smv_meaning.specs.Naming.{named_found}
use Rattle.smv_meaning.specs.Phases.{in_state, in_step, in_assignment, formula_typing, assigned_typing, element_typing, actuals_typing, type_checks, over_instances, Assigned, element_assigns, when_same, is_assignable}
use Rattle.smv_meaning.specs.Runs.{no_values, assignment_holds, element_holds, over_all}
use Rattle.smv_meaning.specs.Settled.{Acyclic, values_in, types_in}
use Rattle.smv_meaning.specs.laws.Booleans.{both_true}
use Rattle.smv_meaning.specs.laws.Booleans.{absurd_bool}
use Rattle.smv_laws.proofs.Agreeing.{denote_same}
use Rattle.smv_laws.proofs.Settling.{types_settle_law}
use Rattle.smv_laws.proofs.Typable.{split, Holds}
use Rattle.smv_items.specs.FlatItems.{Leaf, of_item, Content, variable, definition, actual, Origin, items_here, symbols_of, item_leaf, leaf_found, leaf_in}
use Rattle.smv_flat.specs.FlatForms.{Form, flat_in, content_form, body_forms, number_or_first, assignment_form, element_forms, forms_here, forms_from, flat_of}
use Rattle.smv_flat.specs.FlatTruth.{Row, symbol_value, form_denotes, IsRow, role_holds}
use Rattle.smv_flat_laws.proofs.FlatSame.{flat_same}
use Rattle.smv_flat_laws.proofs.FlatFound.{variable_at_item, Home, home_found}
use Rattle.smv_flat_laws.proofs.FlatRows.{row_leaf, row_reads, row_values}
use Rattle.smv_flat_laws.proofs.FlatApart.{SameWhere, apart, label_free}
use Rattle.text_core.proofs.Truths.{and_true}

-- ---- a flat expression in rows

-- the rows of a state and of the following one
pub record AreRows (t : List Instance) (state label following other : Valuation) (now later : Row) : Type 0 where
  pub acyclic : Acyclic t
  pub this : IsRow (flat_of t) state label now
  pub next : IsRow (flat_of t) following other later

pub flat_value : (t : List Instance) (state label following other : Valuation) (now later : Row) → AreRows t state label following other now later
    → (i : ℕ) (at : Position) (e : Tree) → form_denotes (flat_of t) now later (flat_in t i at e) ≡ denote (values_in t state label i) (values_in t following other i) e
flat_value t state label following other now later r i at e =
    flat_same (symbol_value (symbols_of t)) now later (types_in true t i) (leaf_in t i) at false e
    ∙ denote_same (row_reads t now i) (row_reads t later i) (values_in t state label i) (values_in t following other i) e []
    (λ q m. (row_values t r.acyclic state label now r.this i q, row_values t r.acyclic following other later r.next i q))

pub not_true : (b : Bool) → not b ≡ true → b ≡ false
not_true true h = absurd_bool h
not_true false h = refl

same_free : (t : List Instance) (state label more : Valuation) (i : ℕ) → SameWhere (types_in true t i) false (values_in t state label i) (values_in t state more i)
same_free t state label more i x c = label_free (found_in t) state label more (steps_of t) i x (not_true ((types_in true t i x).reaches_input) c)

-- without inputs and `next`
pub state_value : (t : List Instance) (state label following other : Valuation) (now later : Row) → AreRows t state label following other now later
    → (i : ℕ) (at : Position) → at.inputs ≡ false → at.nexts ≡ false → (e : Tree) → Holds (typing (types_in true t i) at e).checks
    → form_denotes (flat_of t) now later (flat_in t i at e) ≡ denoted (found_in t) (steps_of t) i e state no_values no_values
state_value t state label following other now later r i at p q e c =
    flat_value t state label following other now later r i at e
    ∙ apart (types_in true t i) (values_in t state label i) (values_in t following other i) (values_in t state no_values i) (values_in t no_values no_values i) false false
    (same_free t state label no_values i) (λ b. absurd_bool b) at p q e c

-- of a transition
pub step_value : (t : List Instance) (state label following other : Valuation) (now later : Row) → AreRows t state label following other now later
    → (i : ℕ) (at : Position) → at.inputs ≡ true → at.nexts ≡ true → (e : Tree) → Holds (typing (types_in true t i) at e).checks
    → form_denotes (flat_of t) now later (flat_in t i at e) ≡ denoted (found_in t) (steps_of t) i e state label following
step_value t state label following other now later r i at p q e c =
    flat_value t state label following other now later r i at e
    ∙ apart (types_in true t i) (values_in t state label i) (values_in t following other i) (values_in t state label i) (values_in t following label i) true true
    (λ x d. refl) (λ b. same_free t following other label i) at p q e c

-- ---- a target

pub leaf_placed : (t : List Instance) (when : When) (m : Found) → Home t m → is_assignable when m ≡ true → (k : ℕ) × (leaf_found t m ≡ of_item k)
leaf_placed t when (variable_at y kind d) h a =
    let s = variable_at_item t h.0 h.1 kind d h.3 in
    (s.k, ap (λ z. leaf_found t (variable_at z kind d)) h.2 ∙ ap item_leaf s.placed)
leaf_placed t when (body_at i x j e) h a = absurd_bool a
leaf_placed t when (instance_at i) h a = absurd_bool a
leaf_placed t when (symbol_of x) h a = absurd_bool a
leaf_placed t when cyclic h a = absurd_bool a
leaf_placed t when none h a = absurd_bool a

no_input : (t : List Instance) (when : When) (m : Found) → is_assignable when m ≡ true → (named_found true (types_in true t) m).reaches_input ≡ false
no_input t when (variable_at x OfVarKind.State d) a = refl
no_input t when (variable_at x OfVarKind.Frozen d) a = refl
no_input t when (variable_at x OfVarKind.Input d) a = absurd_bool a
no_input t when (body_at i x j e) a = absurd_bool a
no_input t when (instance_at i) a = refl
no_input t when (symbol_of x) a = refl
no_input t when cyclic a = refl
no_input t when none a = refl

pub target_value : (t : List Instance) → Acyclic t → (state label more : Valuation) (row : Row) → IsRow (flat_of t) state label row → (when : When) (i : ℕ) (q : Path)
    → is_assignable when (found_in t i q) ≡ true → row (number_or_first (leaf_in t i q)) ≡ reading (found_in t) (steps_of t) state more i q
target_value t a state label more row r when i q h =
    let l = leaf_placed t when (found_in t i q) (home_found t i q) h in
    let free = ap (λ (m : Named). m.reaches_input) (types_settle_law t a true i q) ∙ no_input t when (found_in t i q) h in
    ap (λ (m : Leaf). row (number_or_first m)) l.1 ∙ sym (ap (row_leaf t row) l.1) ∙ row_values t a state label row r i q ∙ label_free (found_in t) state label more (steps_of t) i q free

-- ---- formulas of one time

abbrev pub is_following : When → Bool
is_following Always = false
is_following First = false
is_following Following = true

pub record Agrees (t : List Instance) (when : When) (now later target : Row) (meant : ℕ → Tree → Denotation) (value : ℕ → Path → Value) : Type 0 where
  pub formulas : (i : ℕ) (at : Position) → at.inputs ≡ is_following when → at.nexts ≡ is_following when → (e : Tree) → Holds (typing (types_in true t i) at e).checks
      → form_denotes (flat_of t) now later (flat_in t i at e) ≡ meant i e
  pub targets : (i : ℕ) (q : Path) → is_assignable when (found_in t i q) ≡ true → target (number_or_first (leaf_in t i q)) ≡ value i q

abbrev pub holds_here : List Instance → When → Row → Row → Row → Form → Bool
holds_here t when target now later f = role_holds when target f.role (form_denotes (flat_of t) now later f.body)

abbrev pub assignable : Assigned → Bool
assignable a = is_assignable a.when a.target

when_is : (v w : When) → when_same v w ≡ true → v ≡ w
when_is Always Always h = refl
when_is First First h = refl
when_is Following Following h = refl
when_is Always First h = absurd_bool h
when_is Always Following h = absurd_bool h
when_is First Always h = absurd_bool h
when_is First Following h = absurd_bool h
when_is Following Always h = absurd_bool h
when_is Following First h = absurd_bool h

inputs_there : (w : When) → (in_assignment w).inputs ≡ is_following w
inputs_there Always = refl
inputs_there First = refl
inputs_there Following = refl

nexts_there : (w : When) → (in_assignment w).nexts ≡ is_following w
nexts_there Always = refl
nexts_there First = refl
nexts_there Following = refl

two_apart : {X : Type 0} (f g : X → Bool) (x y : X) → f ≡ g → x ≡ y → f x ≡ g y
two_apart {X = X} f g x y p q = ap (λ (h : X → Bool). h x) p ∙ ap g q

assignment_same : (t : List Instance) (when : When) (now later target : Row) (meant : ℕ → Tree → Denotation) (value : ℕ → Path → Value) → Agrees t when now later target meant value
    → (i : ℕ) (a : PlainAssignment) → Holds (assigned_typing (types_in true t i) a) → is_assignable a.when (found_in t i a.target) ≡ true
    → holds_here t when target now later (assignment_form t i a) ≡ assignment_holds (meant i) (value i) when a
assignment_same t when now later target meant value g i a c d = by (when_same a.when when) refl
  where
    by : (b : Bool) → when_same a.when when ≡ b
        → (not b || (form_denotes (flat_of t) now later (flat_in t i (in_assignment a.when) a.body)).permits (target (number_or_first (leaf_in t i a.target))))
        ≡ (not b || (meant i a.body).permits (value i a.target))
    by false e = refl
    by true e =
        let w = when_is a.when when e in
        let f = g.formulas i (in_assignment a.when) (inputs_there a.when ∙ ap is_following w) (nexts_there a.when ∙ ap is_following w) a.body (split (typing (types_in true t i) (in_assignment a.when) a.body).checks _ c).0 in
        let v = g.targets i a.target (ap (λ z. is_assignable z (found_in t i a.target)) (sym w) ∙ d) in
        two_apart _ _ _ _ (ap (λ (x : Denotation). x.permits) f) v

assignments_same : (t : List Instance) (when : When) (now later target : Row) (meant : ℕ → Tree → Denotation) (value : ℕ → Path → Value) → Agrees t when now later target meant value
    → (i : ℕ) (xs : List PlainAssignment) → Holds (flat_map (assigned_typing (types_in true t i)) xs) → list_all assignable (element_assigns (found_in t) i (assigns xs)) ≡ true
    → list_all (holds_here t when target now later) (map (assignment_form t i) xs) ≡ list_all (assignment_holds (meant i) (value i) when) xs
assignments_same t when now later target meant value g i [] c d = refl
assignments_same t when now later target meant value g i (a ∷ xs) c d =
    let s = split (assigned_typing (types_in true t i) a) (flat_map (assigned_typing (types_in true t i)) xs) c in
    let u = both_true (is_assignable a.when (found_in t i a.target)) (list_all assignable (element_assigns (found_in t) i (assigns xs))) d in
    ap (λ b. b && list_all (holds_here t when target now later) (map (assignment_form t i) xs)) (assignment_same t when now later target meant value g i a s.0 u.0)
    ∙ ap (λ b. assignment_holds (meant i) (value i) when a && b) (assignments_same t when now later target meant value g i xs s.1 u.1)

formula_same : (t : List Instance) (when : When) (now later target : Row) (meant : ℕ → Tree → Denotation) (value : ℕ → Path → Value) → Agrees t when now later target meant value
    → (i : ℕ) (at : Position) → at.inputs ≡ is_following when → at.nexts ≡ is_following when → (e : Tree) → Holds (formula_typing (types_in true t i) at e)
    → (is_true (form_denotes (flat_of t) now later (flat_in t i at e)).value && true) ≡ is_true (meant i e).value
formula_same t when now later target meant value g i at p q e c =
    and_true (is_true (form_denotes (flat_of t) now later (flat_in t i at e)).value)
    ∙ ap (λ (d : Denotation). is_true d.value) (g.formulas i at p q e (split (typing (types_in true t i) at e).checks _ c).0)

element_same : (t : List Instance) (when : When) (now later target : Row) (meant : ℕ → Tree → Denotation) (value : ℕ → Path → Value) → Agrees t when now later target meant value
    → (i : ℕ) (el : PlainElement) → Holds (element_typing (types_in true t i) el) → list_all assignable (element_assigns (found_in t) i el) ≡ true
    → list_all (holds_here t when target now later) (element_forms t i el) ≡ element_holds (meant i) (value i) when el
element_same t First now later target meant value g i (assigns xs) c d = assignments_same t First now later target meant value g i xs c d
element_same t Always now later target meant value g i (assigns xs) c d = assignments_same t Always now later target meant value g i xs c d
element_same t Following now later target meant value g i (assigns xs) c d = assignments_same t Following now later target meant value g i xs c d
element_same t First now later target meant value g i (init e) c d = formula_same t First now later target meant value g i in_state refl refl e c
element_same t Always now later target meant value g i (init e) c d = refl
element_same t Following now later target meant value g i (init e) c d = refl
element_same t First now later target meant value g i (invar e) c d = refl
element_same t Always now later target meant value g i (invar e) c d = formula_same t Always now later target meant value g i in_state refl refl e c
element_same t Following now later target meant value g i (invar e) c d = refl
element_same t First now later target meant value g i (trans e) c d = refl
element_same t Always now later target meant value g i (trans e) c d = refl
element_same t Following now later target meant value g i (trans e) c d = formula_same t Following now later target meant value g i in_step refl refl e c
element_same t First now later target meant value g i (spec l e) c d = refl
element_same t Always now later target meant value g i (spec l e) c d = refl
element_same t Following now later target meant value g i (spec l e) c d = refl
element_same t First now later target meant value g i (vars kind items) c d = refl
element_same t Always now later target meant value g i (vars kind items) c d = refl
element_same t Following now later target meant value g i (vars kind items) c d = refl
element_same t First now later target meant value g i (defines ds) c d = refl
element_same t Always now later target meant value g i (defines ds) c d = refl
element_same t Following now later target meant value g i (defines ds) c d = refl
element_same t First now later target meant value g i (constants cs) c d = refl
element_same t Always now later target meant value g i (constants cs) c d = refl
element_same t Following now later target meant value g i (constants cs) c d = refl

pub all_parts : {X : Type 0} (p : X → Bool) (xs ys : List X) → list_all p (xs ++ ys) ≡ true → (list_all p xs ≡ true) × (list_all p ys ≡ true)
all_parts p xs ys h = both_true (list_all p xs) (list_all p ys) (sym (list_all-append p xs ys) ∙ h)

elements_same : (t : List Instance) (when : When) (now later target : Row) (meant : ℕ → Tree → Denotation) (value : ℕ → Path → Value) → Agrees t when now later target meant value
    → (i : ℕ) (es : List PlainElement) → Holds (flat_map (element_typing (types_in true t i)) es) → list_all assignable (flat_map (element_assigns (found_in t) i) es) ≡ true
    → list_all (holds_here t when target now later) (flat_map (element_forms t i) es) ≡ list_all (element_holds (meant i) (value i) when) es
elements_same t when now later target meant value g i [] c d = refl
elements_same t when now later target meant value g i (el ∷ es) c d =
    let s = split (element_typing (types_in true t i) el) (flat_map (element_typing (types_in true t i)) es) c in
    let u = all_parts assignable (element_assigns (found_in t) i el) (flat_map (element_assigns (found_in t) i) es) d in
    list_all-append (holds_here t when target now later) (element_forms t i el) (flat_map (element_forms t i) es)
    ∙ ap (λ b. b && list_all (holds_here t when target now later) (flat_map (element_forms t i) es)) (element_same t when now later target meant value g i el s.0 u.0)
    ∙ ap (λ b. element_holds (meant i) (value i) when el && b) (elements_same t when now later target meant value g i es s.1 u.1)

-- bodies are asked for nothing
content_holds : (t : List Instance) (when : When) (target now later : Row) (k i : ℕ) (c : Content) → list_all (holds_here t when target now later) (content_form t k i c) ≡ true
content_holds t when target now later k i (variable kind d) = refl
content_holds t when target now later k i (definition j e) = refl
content_holds t when target now later k i (actual j e) = refl

bodies_hold : (t : List Instance) (when : When) (target now later : Row) (k : ℕ) (ms : List Origin) → list_all (holds_here t when target now later) (body_forms t k ms) ≡ true
bodies_hold t when target now later k [] = refl
bodies_hold t when target now later k (m ∷ ms) =
    list_all-append (holds_here t when target now later) (content_form t k m.instance m.content) (body_forms t (k + 1) ms)
    ∙ ap (λ b. b && list_all (holds_here t when target now later) (body_forms t (k + 1) ms)) (content_holds t when target now later k m.instance m.content)
    ∙ bodies_hold t when target now later (k + 1) ms

abbrev pub assigned_here : List Instance → ℕ → Instance → List Assigned
assigned_here t i at = flat_map (element_assigns (found_in t) i) at.module.elements

abbrev pub elements_hold : When → (ℕ → Tree → Denotation) → (ℕ → Path → Value) → ℕ → Instance → Bool
elements_hold when meant value i at = list_all (element_holds (meant i) (value i) when) at.module.elements

pub forms_same : (t : List Instance) (when : When) (now later target : Row) (meant : ℕ → Tree → Denotation) (value : ℕ → Path → Value) → Agrees t when now later target meant value
    → (k i : ℕ) (rest : List Instance) → Holds (over_instances (type_checks (types_in true t)) i rest) → list_all assignable (over_instances (assigned_here t) i rest) ≡ true
    → list_all (holds_here t when target now later) (forms_from t k i rest) ≡ over_all (elements_hold when meant value) i rest
forms_same t when now later target meant value g k i [] c d = refl
forms_same t when now later target meant value g k i (at ∷ rest) c d =
    let p = holds_here t when target now later in
    let more = k + length (items_here i at) in
    let own = flat_map (element_forms t i) at.module.elements in
    let s = split (type_checks (types_in true t) i at) (over_instances (type_checks (types_in true t)) (i + 1) rest) c in
    let r = split (actuals_typing (types_in true t (parent_of at)) at.actuals) (flat_map (element_typing (types_in true t i)) at.module.elements) s.0 in
    let u = all_parts assignable (assigned_here t i at) (over_instances (assigned_here t) (i + 1) rest) d in
    list_all-append p (forms_here t k i at) (forms_from t more (i + 1) rest)
    ∙ ap (λ b. b && list_all p (forms_from t more (i + 1) rest))
    (list_all-append p (body_forms t k (items_here i at)) own
    ∙ ap (λ b. b && list_all p own) (bodies_hold t when target now later k (items_here i at))
    ∙ elements_same t when now later target meant value g i at.module.elements r.1 u.0)
    ∙ ap (λ b. elements_hold when meant value i at && b) (forms_same t when now later target meant value g more (i + 1) rest s.1 u.1)

-- ---- the three times

abbrev pub state_meant : List Instance → Valuation → ℕ → Tree → Denotation
state_meant t state i e = denoted (found_in t) (steps_of t) i e state no_values no_values

abbrev pub state_target : List Instance → Valuation → ℕ → Path → Value
state_target t state i q = reading (found_in t) (steps_of t) state no_values i q

pub agrees_first : (t : List Instance) (state label following other : Valuation) (now later : Row) → AreRows t state label following other now later
    → Agrees t First now later now (state_meant t state) (state_target t state)
agrees_first t state label following other now later r = record {
  formulas = λ i at p q e c. state_value t state label following other now later r i at p q e c;
  targets = λ i q h. target_value t r.acyclic state label no_values now r.this First i q h;
}

pub agrees_always : (t : List Instance) (state label following other : Valuation) (now later : Row) → AreRows t state label following other now later
    → Agrees t Always now later now (state_meant t state) (state_target t state)
agrees_always t state label following other now later r = record {
  formulas = λ i at p q e c. state_value t state label following other now later r i at p q e c;
  targets = λ i q h. target_value t r.acyclic state label no_values now r.this Always i q h;
}

pub agrees_following : (t : List Instance) (state label following other : Valuation) (now later : Row) → AreRows t state label following other now later
    → Agrees t Following now later later (λ i e. denoted (found_in t) (steps_of t) i e state label following) (λ i q. reading (found_in t) (steps_of t) following label i q)
agrees_following t state label following other now later r = record {
  formulas = λ i at p q e c. step_value t state label following other now later r i at p q e c;
  targets = λ i q h. target_value t r.acyclic following other label later r.next Following i q h;
}
