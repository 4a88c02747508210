-- Each state and label has one row.
use Rattle.std.proofs.Common.{◌≡◌, ℕ, zero, suc, ◌+◌, ◌<◌, true, false, if◌then◌else◌, List, [], ◌∷◌, ◌++◌, map, length, flat_map, Option, Some, None, option_map, bytes_eq, refl, sym, ap, ◌∙◌, subst, arith}
use Rattle.std.specs.List.{slice_get}
use Rattle.std.proofs.lemmas.List.{length-map}
use Rattle.std.proofs.lemmas.Option.{slice_get-map}
use Rattle.std.proofs.lemmas.Slice.Eq.{bytes_eq-Decides}
use Rattle.smv_text.specs.declared.tree.Path.{Path}
use Rattle.smv_text.specs.declared.tree.VarKind.{VarKind}
use Rattle.smv_text.specs.declared.tree.VarKind.TheVariants as OfVarKind
use Rattle.smv_text.specs.Tree.{Tree, PlainDomain, PlainAssignment, PlainElement, vars, defines, constants, assigns, init, trans, invar, spec}
use Rattle.smv_meaning.specs.declared.value.Value.{Value}
use Rattle.smv_meaning.specs.declared.value.Value.TheVariants.{Symbol}
use Rattle.smv_meaning.specs.Values.{Valuation}
use Rattle.smv_meaning.specs.Expressions.{Denotation, denote}
use Rattle.smv_meaning.specs.Instances.{Instance}
use Rattle.smv_meaning.specs.Names.{Found, variable_at, body_at, instance_at, symbol_of, cyclic, none, found_in, dotted_at}
use Rattle.smv_meaning.specs.Meaning.{is_input, value_found}
use Rattle.smv_meaning.specs.Naming.{in_body}
use Rattle.smv_meaning.specs.Phases.{over_instances}
use Rattle.smv_meaning.specs.Settled.{Acyclic, values_in, types_in}
use Rattle.smv_laws.proofs.Agreeing.{denote_same}
use Rattle.smv_laws.proofs.Settling.{values_settle_law, values_are_one_law}
use Rattle.smv_items.specs.FlatItems.{Leaf, Content, variable, definition, actual, Origin, items_here, origins_of, symbols_of, is_variable_as, path_of, item_leaf, symbol_leaf, leaf_found, leaf_in, kind_of, flat_item_of}
use Rattle.smv_flat.specs.FlatForms.{Form, flat_in, content_form, body_forms, assignment_form, element_forms, forms_here, forms_from, PlainFlat, flat_of}
use Rattle.smv_flat.specs.FlatTruth.{Row, symbol_or_none, symbol_value, form_denotes, GivesKind, GivesItem, MeetsForms, IsRow}
use Rattle.smv_flat_laws.specs.FlatLaws.{content_value, origin_value, row_of, RowIsThere, RowIsOne}
use Rattle.smv_flat_laws.proofs.FlatSame.{leaf_value, flat_same}
use Rattle.smv_flat_laws.proofs.FlatFound.{body_in, pair, body_at_item, variable_at_item, Home, home_found, symbol_at, both}

-- ---- what holds of each item, from a number on

abbrev pub AllFrom : (ℕ → Origin → Type 0) → ℕ → List Origin → Type 0
AllFrom P k [] = Unit {0}
AllFrom P k (m ∷ ms) = P k m × AllFrom P (k + 1) ms

pub all_at : (P : ℕ → Origin → Type 0) (ms : List Origin) (k n : ℕ) (m : Origin) → AllFrom P k ms → slice_get ms n ≡ Some m → P (k + n) m
all_at P [] k n m a h = cc
all_at P (o ∷ ms) k zero m a h =
    let e : o ≡ m = cc in
    let s : k ≡ k + 0 = omega arith in
    subst (λ i. P i m) s (subst (λ x. P k x) e a.0)
all_at P (o ∷ ms) k (suc n) m a h = let s : (k + 1) + n ≡ k + suc n = omega arith in subst (λ i. P i m) s (all_at P ms (k + 1) n m a.1 h)

pub all_of : (P : ℕ → Origin → Type 0) (ms : List Origin) (k : ℕ) → ((n : ℕ) (m : Origin) → slice_get ms n ≡ Some m → P (k + n) m) → AllFrom P k ms
all_of P [] k h = tt
all_of P (o ∷ ms) k h =
    let s : k + 0 ≡ k = omega arith in
    (subst (λ i. P i o) s (h 0 o refl), all_of P ms (k + 1) (λ n m e. let r : k + suc n ≡ (k + 1) + n = omega arith in subst (λ i. P i m) r (h (suc n) m e)))

all_front : (P : ℕ → Origin → Type 0) (ms ns : List Origin) (k : ℕ) → AllFrom P k (ms ++ ns) → AllFrom P k ms × AllFrom P (k + length ms) ns
all_front P [] ns k a = let s : k ≡ k + 0 = omega arith in (tt, subst (λ i. AllFrom P i ns) s a)
all_front P (m ∷ ms) ns k a =
    let r = all_front P ms ns (k + 1) a.1 in
    let s : (k + 1) + length ms ≡ k + suc (length ms) = omega arith in
    ((a.0, r.0), subst (λ i. AllFrom P i ns) s r.1)

all_joined : (P : ℕ → Origin → Type 0) (ms ns : List Origin) (k : ℕ) → AllFrom P k ms → AllFrom P (k + length ms) ns → AllFrom P k (ms ++ ns)
all_joined P [] ns k a b = let s : k + 0 ≡ k = omega arith in subst (λ i. AllFrom P i ns) s b
all_joined P (m ∷ ms) ns k a b =
    let s : k + suc (length ms) ≡ (k + 1) + length ms = omega arith in
    (a.0, all_joined P ms ns (k + 1) a.1 (subst (λ i. AllFrom P i ns) s b))

-- ---- a row meets the bodies' formulas exactly where each item has its body's value

abbrev pub body_value : List Instance → Row → ℕ → Tree → Value
body_value t row j e = (form_denotes (flat_of t) row row (flat_in t j in_body e)).value

abbrev pub MeetsContent : List Instance → Row → ℕ → Content → Type 0
MeetsContent t row k (variable kind d) = Unit {0}
MeetsContent t row k (definition j e) = row k ≡ body_value t row j e
MeetsContent t row k (actual j e) = row k ≡ body_value t row j e

abbrev pub MeetsOrigin : List Instance → Row → ℕ → Origin → Type 0
MeetsOrigin t row k m = MeetsContent t row k m.content

forms_front : (flat : PlainFlat) (row : Row) (fs gs : List Form) → MeetsForms flat row (fs ++ gs) → MeetsForms flat row fs × MeetsForms flat row gs
forms_front flat row [] gs h = (tt, h)
forms_front flat row (f ∷ fs) gs h = let r = forms_front flat row fs gs h.1 in ((h.0, r.0), r.1)

forms_joined : (flat : PlainFlat) (row : Row) (fs gs : List Form) → MeetsForms flat row fs → MeetsForms flat row gs → MeetsForms flat row (fs ++ gs)
forms_joined flat row [] gs h g = g
forms_joined flat row (f ∷ fs) gs h g = (h.0, forms_joined flat row fs gs h.1 g)

content_meets : (t : List Instance) (row : Row) (k i : ℕ) (c : Content) → MeetsForms (flat_of t) row (content_form t k i c) → MeetsContent t row k c
content_meets t row k i (variable kind d) h = tt
content_meets t row k i (definition j e) h = h.0
content_meets t row k i (actual j e) h = h.0

content_met : (t : List Instance) (row : Row) (k i : ℕ) (c : Content) → MeetsContent t row k c → MeetsForms (flat_of t) row (content_form t k i c)
content_met t row k i (variable kind d) h = tt
content_met t row k i (definition j e) h = (h, tt)
content_met t row k i (actual j e) h = (h, tt)

bodies_meet : (t : List Instance) (row : Row) (k : ℕ) (ms : List Origin) → MeetsForms (flat_of t) row (body_forms t k ms) → AllFrom (MeetsOrigin t row) k ms
bodies_meet t row k [] h = tt
bodies_meet t row k (m ∷ ms) h =
    let r = forms_front (flat_of t) row (content_form t k m.instance m.content) (body_forms t (k + 1) ms) h in
    (content_meets t row k m.instance m.content r.0, bodies_meet t row (k + 1) ms r.1)

bodies_met : (t : List Instance) (row : Row) (k : ℕ) (ms : List Origin) → AllFrom (MeetsOrigin t row) k ms → MeetsForms (flat_of t) row (body_forms t k ms)
bodies_met t row k [] h = tt
bodies_met t row k (m ∷ ms) h =
    forms_joined (flat_of t) row (content_form t k m.instance m.content) (body_forms t (k + 1) ms) (content_met t row k m.instance m.content h.0) (bodies_met t row (k + 1) ms h.1)

-- the other formulas are no bodies
assignments_met : (t : List Instance) (row : Row) (i : ℕ) (xs : List PlainAssignment) → MeetsForms (flat_of t) row (map (assignment_form t i) xs)
assignments_met t row i [] = tt
assignments_met t row i (x ∷ xs) = (tt, assignments_met t row i xs)

element_met : (t : List Instance) (row : Row) (i : ℕ) (e : PlainElement) → MeetsForms (flat_of t) row (element_forms t i e)
element_met t row i (vars kind items) = tt
element_met t row i (defines ds) = tt
element_met t row i (constants cs) = tt
element_met t row i (assigns xs) = assignments_met t row i xs
element_met t row i (init e) = (tt, tt)
element_met t row i (trans e) = (tt, tt)
element_met t row i (invar e) = (tt, tt)
element_met t row i (spec l e) = (tt, tt)

elements_met : (t : List Instance) (row : Row) (i : ℕ) (es : List PlainElement) → MeetsForms (flat_of t) row (flat_map (element_forms t i) es)
elements_met t row i [] = tt
elements_met t row i (e ∷ es) = forms_joined (flat_of t) row (element_forms t i e) (flat_map (element_forms t i) es) (element_met t row i e) (elements_met t row i es)

forms_meet : (t : List Instance) (row : Row) (k i : ℕ) (rest : List Instance) → MeetsForms (flat_of t) row (forms_from t k i rest) → AllFrom (MeetsOrigin t row) k (over_instances items_here i rest)
forms_meet t row k i [] h = tt
forms_meet t row k i (at ∷ rest) h =
    let r = forms_front (flat_of t) row (forms_here t k i at) (forms_from t (k + length (items_here i at)) (i + 1) rest) h in
    let s = forms_front (flat_of t) row (body_forms t k (items_here i at)) (flat_map (element_forms t i) at.module.elements) r.0 in
    all_joined (MeetsOrigin t row) (items_here i at) (over_instances items_here (i + 1) rest) k (bodies_meet t row k (items_here i at) s.0)
    (forms_meet t row (k + length (items_here i at)) (i + 1) rest r.1)

forms_met : (t : List Instance) (row : Row) (k i : ℕ) (rest : List Instance) → AllFrom (MeetsOrigin t row) k (over_instances items_here i rest) → MeetsForms (flat_of t) row (forms_from t k i rest)
forms_met t row k i [] h = tt
forms_met t row k i (at ∷ rest) h =
    let r = all_front (MeetsOrigin t row) (items_here i at) (over_instances items_here (i + 1) rest) k h in
    forms_joined (flat_of t) row (forms_here t k i at) (forms_from t (k + length (items_here i at)) (i + 1) rest)
    (forms_joined (flat_of t) row (body_forms t k (items_here i at)) (flat_map (element_forms t i) at.module.elements) (bodies_met t row k (items_here i at) r.0) (elements_met t row i at.module.elements))
    (forms_met t row (k + length (items_here i at)) (i + 1) rest r.1)

-- ---- the value that a row gives to what a path becomes

abbrev pub row_leaf : List Instance → Row → Leaf → Value
row_leaf t row l = leaf_value (symbol_value (symbols_of t)) row l

abbrev pub row_reads : List Instance → Row → ℕ → Path → Value
row_reads t row i q = row_leaf t row (leaf_in t i q)

-- a body in a row
pub body_reads : (t : List Instance) (row : Row) (j : ℕ) (e : Tree) → body_value t row j e ≡ (denote (row_reads t row j) (row_reads t row j) e).value
body_reads t row j e = ap (λ (d : Denotation). d.value) (flat_same (symbol_value (symbols_of t)) row row (types_in true t j) (leaf_in t j) in_body false e)

-- what holds of an item's value, whatever gives it
abbrev pub HasContent : List Instance → Valuation → Valuation → (ℕ → Path → Value) → Value → List ℕ → Content → Type 0
HasContent t state label read v x (variable kind d) = v ≡ (if is_input kind then label x else state x)
HasContent t state label read v x (definition j e) = v ≡ (denote (read j) (read j) e).value
HasContent t state label read v x (actual j e) = v ≡ (denote (read j) (read j) e).value

abbrev pub HasItems : List Instance → Valuation → Valuation → (ℕ → Path → Value) → Row → Type 0
HasItems t state label read row = (k : ℕ) (m : Origin) → slice_get (origins_of t) k ≡ Some m → HasContent t state label read (row k) (path_of t m) m.content

same_kind : (state label : Valuation) (x y : List ℕ) (kind k : VarKind) (d : PlainDomain) (v : Value) → is_variable_as kind (variable k d) ≡ true → y ≡ x
    → v ≡ (if is_input k then label y else state y) → v ≡ (if is_input kind then label x else state x)
same_kind state label x y OfVarKind.State OfVarKind.State d v h e s = s ∙ ap state e
same_kind state label x y OfVarKind.State OfVarKind.Frozen d v h e s = s ∙ ap state e
same_kind state label x y OfVarKind.State OfVarKind.Input d v h e s = cc
same_kind state label x y OfVarKind.Frozen OfVarKind.State d v h e s = s ∙ ap state e
same_kind state label x y OfVarKind.Frozen OfVarKind.Frozen d v h e s = s ∙ ap state e
same_kind state label x y OfVarKind.Frozen OfVarKind.Input d v h e s = cc
same_kind state label x y OfVarKind.Input OfVarKind.State d v h e s = cc
same_kind state label x y OfVarKind.Input OfVarKind.Frozen d v h e s = cc
same_kind state label x y OfVarKind.Input OfVarKind.Input d v h e s = s ∙ ap label e

variable_value : (t : List Instance) (state label : Valuation) (read : ℕ → Path → Value) (v : Value) (x y : List ℕ) (kind : VarKind) (c : Content)
    → is_variable_as kind c ≡ true → y ≡ x → HasContent t state label read v y c → v ≡ (if is_input kind then label x else state x)
variable_value t state label read v x y kind (variable k d) h e s = same_kind state label x y kind k d v h e s
variable_value t state label read v x y kind (definition j b) h e s = cc
variable_value t state label read v x y kind (actual j b) h e s = cc

pub pair_parts : (i j : ℕ) (b e : Tree) → Some (pair i b) ≡ Some (pair j e) → (i ≡ j) × (b ≡ e)
pair_parts i j b e h = let s : pair i b ≡ pair j e = cc in (ap (λ (p : ℕ × Tree). p.0) s, ap (λ (p : ℕ × Tree). p.1) s)

content_body : (t : List Instance) (state label : Valuation) (read : ℕ → Path → Value) (v : Value) (x : List ℕ) (c : Content) (j : ℕ) (e : Tree)
    → body_in c ≡ Some (pair j e) → HasContent t state label read v x c → v ≡ (denote (read j) (read j) e).value
content_body t state label read v x (variable k d) j e h s = cc
content_body t state label read v x (definition i b) j e h s =
    let p = pair_parts i j b e h in
    s ∙ ap (λ n. (denote (read n) (read n) b).value) p.0 ∙ ap (λ c. (denote (read j) (read j) c).value) p.1
content_body t state label read v x (actual i b) j e h s =
    let p = pair_parts i j b e h in
    s ∙ ap (λ n. (denote (read n) (read n) b).value) p.0 ∙ ap (λ c. (denote (read j) (read j) c).value) p.1

-- where the items have their values under the values of names, so has each path
found_reads : (t : List Instance) (state label : Valuation) (read : ℕ → Path → Value) (row : Row) → HasItems t state label read row
    → (m : Found) → Home t m → row_leaf t row (leaf_found t m) ≡ value_found read state label m
found_reads t state label read row has (variable_at y kind d) h =
    let e : y ≡ dotted_at t h.0 h.1 = h.2 in
    let a = variable_at_item t h.0 h.1 kind d h.3 in
    let b = both (is_variable_as kind a.x.content) (bytes_eq (path_of t a.x) (dotted_at t h.0 h.1)) a.holds in
    let p : path_of t a.x ≡ dotted_at t h.0 h.1 = (bytes_eq-Decides (path_of t a.x) (dotted_at t h.0 h.1)).0 b.1 in
    ap (λ z. row_leaf t row (leaf_found t (variable_at z kind d))) e
    ∙ ap (λ o. row_leaf t row (item_leaf o)) a.placed
    ∙ variable_value t state label read (row a.k) (dotted_at t h.0 h.1) (path_of t a.x) kind a.x.content b.0 p (has a.k a.x a.there)
    ∙ ap (λ z. if is_input kind then label z else state z) (sym e)
found_reads t state label read row has (body_at i x j e) h =
    let a = body_at_item t i x j e h in
    ap (λ o. row_leaf t row (item_leaf o)) a.placed ∙ content_body t state label read (row a.k) (path_of t a.x) a.x.content j e a.gives (has a.k a.x a.there)
found_reads t state label read row has (symbol_of x) h =
    let a = symbol_at t x h in
    ap (λ o. row_leaf t row (symbol_leaf o)) a.placed ∙ ap symbol_or_none a.there ∙ ap Symbol (sym ((bytes_eq-Decides x a.x).0 a.holds))
found_reads t state label read row has (instance_at i) h = refl
found_reads t state label read row has cyclic h = refl
found_reads t state label read row has none h = refl

-- ---- a row that meets the flat form

kind_gives : (state label : Valuation) (x : List ℕ) (v : Value) (kind : VarKind) (d : PlainDomain) → GivesKind state label x v (kind_of (variable kind d)) → v ≡ (if is_input kind then label x else state x)
kind_gives state label x v OfVarKind.State d h = h
kind_gives state label x v OfVarKind.Frozen d h = h
kind_gives state label x v OfVarKind.Input d h = h

pub item_there : (t : List Instance) (k : ℕ) (m : Origin) → slice_get (origins_of t) k ≡ Some m → slice_get (flat_of t).items k ≡ Some (flat_item_of t m)
item_there t k m h = slice_get-map (flat_item_of t) (origins_of t) k ∙ ap (option_map (flat_item_of t)) h

has_content : (t : List Instance) (state label : Valuation) (row : Row) (k : ℕ) (x : List ℕ) (c : Content) → GivesKind state label x (row k) (kind_of c) → MeetsContent t row k c
    → HasContent t state label (row_reads t row) (row k) x c
has_content t state label row k x (variable kind d) g m = kind_gives state label x (row k) kind d g
has_content t state label row k x (definition j e) g m = m ∙ body_reads t row j e
has_content t state label row k x (actual j e) g m = m ∙ body_reads t row j e

pub has_items : (t : List Instance) (state label : Valuation) (row : Row) → IsRow (flat_of t) state label row → HasItems t state label (row_reads t row) row
has_items t state label row r k m h =
    let g : GivesItem state label (row k) (Some (flat_item_of t m)) = subst (GivesItem state label (row k)) (item_there t k m h) (r.variables k) in
    let s : zero + k ≡ k = omega arith in
    has_content t state label row k (path_of t m) m.content g
    (subst (λ n. MeetsContent t row n m.content) s (all_at (MeetsOrigin t row) (origins_of t) 0 k m (forms_meet t row 0 0 t r.bodies) h))

-- its values of paths are those of the state and the label
pub row_values : (t : List Instance) → Acyclic t → (state label : Valuation) (row : Row) → IsRow (flat_of t) state label row → (i : ℕ) (q : Path) → row_reads t row i q ≡ values_in t state label i q
row_values t a state label row r =
    values_are_one_law t a state label (row_reads t row)
    (λ i q. found_reads t state label (row_reads t row) row (has_items t state label row r) (found_in t i q) (home_found t i q))

-- ---- the row of a state and a label

own_content : (t : List Instance) (state label : Valuation) (x : List ℕ) (c : Content) → HasContent t state label (values_in t state label) (content_value t state label x c) x c
own_content t state label x (variable kind d) = refl
own_content t state label x (definition j e) = refl
own_content t state label x (actual j e) = refl

own_items : (t : List Instance) (state label : Valuation) → HasItems t state label (values_in t state label) (row_of t state label)
own_items t state label k m h =
    subst (λ v. HasContent t state label (values_in t state label) v (path_of t m) m.content) (sym (ap (origin_value t state label) h)) (own_content t state label (path_of t m) m.content)

own_reads : (t : List Instance) → Acyclic t → (state label : Valuation) (i : ℕ) (q : Path) → row_reads t (row_of t state label) i q ≡ values_in t state label i q
own_reads t a state label i q =
    found_reads t state label (values_in t state label) (row_of t state label) (own_items t state label) (found_in t i q) (home_found t i q)
    ∙ sym (values_settle_law t a state label i q)

kind_given : (state label : Valuation) (x : List ℕ) (v : Value) (kind : VarKind) (d : PlainDomain) → v ≡ (if is_input kind then label x else state x) → GivesKind state label x v (kind_of (variable kind d))
kind_given state label x v OfVarKind.State d h = h
kind_given state label x v OfVarKind.Frozen d h = h
kind_given state label x v OfVarKind.Input d h = h

content_given : (t : List Instance) (state label : Valuation) (read : ℕ → Path → Value) (v : Value) (x : List ℕ) (c : Content) → HasContent t state label read v x c → GivesKind state label x v (kind_of c)
content_given t state label read v x (variable kind d) h = kind_given state label x v kind d h
content_given t state label read v x (definition j e) h = tt
content_given t state label read v x (actual j e) h = tt

origin_given : (t : List Instance) (state label : Valuation) (k : ℕ) (o : Option Origin) → slice_get (origins_of t) k ≡ o → GivesItem state label (row_of t state label k) (option_map (flat_item_of t) o)
origin_given t state label k None h = tt
origin_given t state label k (Some m) h = content_given t state label (values_in t state label) (row_of t state label k) (path_of t m) m.content (own_items t state label k m h)

same_body : (t : List Instance) → Acyclic t → (state label : Valuation) (j : ℕ) (e : Tree)
    → (denote (values_in t state label j) (values_in t state label j) e).value ≡ body_value t (row_of t state label) j e
same_body t a state label j e =
    ap (λ (d : Denotation). d.value) (denote_same (values_in t state label j) (values_in t state label j) (row_reads t (row_of t state label) j) (row_reads t (row_of t state label) j) e []
    (λ q i. (sym (own_reads t a state label j q), sym (own_reads t a state label j q))))
    ∙ sym (body_reads t (row_of t state label) j e)

content_own : (t : List Instance) → Acyclic t → (state label : Valuation) (k : ℕ) (x : List ℕ) (c : Content) → HasContent t state label (values_in t state label) (row_of t state label k) x c
    → MeetsContent t (row_of t state label) k c
content_own t a state label k x (variable kind d) h = tt
content_own t a state label k x (definition j e) h = h ∙ same_body t a state label j e
content_own t a state label k x (actual j e) h = h ∙ same_body t a state label j e

pub row_is_there_law : RowIsThere
row_is_there_law t a state label = record {
  variables = λ k. subst (GivesItem state label (row_of t state label k)) (sym (slice_get-map (flat_item_of t) (origins_of t) k)) (origin_given t state label k (slice_get (origins_of t) k) refl);
  bodies = forms_met t (row_of t state label) 0 0 t
      (all_of (MeetsOrigin t (row_of t state label)) (origins_of t) 0
      (λ n m h. let s : n ≡ zero + n = omega arith in
      subst (λ i. MeetsContent t (row_of t state label) i m.content) s (content_own t a state label n (path_of t m) m.content (own_items t state label n m h))));
}

-- ---- it is the only one

some_at : (ms : List Origin) (k : ℕ) → k < length ms → (m : Origin) × (slice_get ms k ≡ Some m)
some_at [] k h = absurd (omega arith)
some_at (m ∷ ms) zero h = (m, refl)
some_at (m ∷ ms) (suc k) h = some_at ms k (omega arith)

one_content : (t : List Instance) → Acyclic t → (state label : Valuation) (row : Row) → IsRow (flat_of t) state label row → (v : Value) (x : List ℕ) (c : Content)
    → HasContent t state label (row_reads t row) v x c → v ≡ content_value t state label x c
one_content t a state label row r v x (variable kind d) h = h
one_content t a state label row r v x (definition j e) h =
    h ∙ ap (λ (d : Denotation). d.value) (denote_same (row_reads t row j) (row_reads t row j) (values_in t state label j) (values_in t state label j) e []
    (λ q i. (row_values t a state label row r j q, row_values t a state label row r j q)))
one_content t a state label row r v x (actual j e) h =
    h ∙ ap (λ (d : Denotation). d.value) (denote_same (row_reads t row j) (row_reads t row j) (values_in t state label j) (values_in t state label j) e []
    (λ q i. (row_values t a state label row r j q, row_values t a state label row r j q)))

pub row_is_one_law : RowIsOne
row_is_one_law t a state label row r k h =
    let l : length (flat_of t).items ≡ length (origins_of t) = length-map (origins_of t) (flat_item_of t) in
    let s = some_at (origins_of t) k (omega arith) in
    one_content t a state label row r (row k) (path_of t s.0) s.0.content (has_items t state label row r k s.0 s.1) ∙ sym (ap (origin_value t state label) s.1)
