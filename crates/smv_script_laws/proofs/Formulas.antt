-- The size of each formula of a script is at most that of its parts and one more, and each item and each form gives parts once.
use Rattle.std.proofs.Common.{◌≡◌, ℕ, zero, suc, ◌+◌, ◌*◌, ◌≤◌, max, Bool, true, false, ◌==◌, nat_lt, if◌then◌else◌, List, [], ◌∷◌, map, length, refl, ap, ◌∙◌, arith}
use Rattle.std.specs.Prelude.{flat_map}
use Rattle.std.proofs.lemmas.Bool.{eqb-true, ltb-true, lt-ltb}
use Rattle.smv_text.specs.declared.tree.When.{When}
use Rattle.smv_text.specs.declared.tree.When.TheVariants.{Always, First, Following}
use Rattle.smv_text.specs.declared.tree.Member.{Member}
use Rattle.smv_text.specs.declared.tree.Member.TheVariants as OfMember
use Rattle.smv_meaning.specs.Types.{ExprType, truth_type, integer_type, symbol_type, word_type}
use Rattle.smv_items.specs.declared.items.ItemKind.{ItemKind}
use Rattle.smv_items.specs.declared.items.ItemKind.TheVariants.{State, Frozen, Input, Define, Actual}
use Rattle.smv_items.specs.FlatItems.{PlainFlatItem}
use Rattle.smv_flat.specs.declared.forms.Role.{Role}
use Rattle.smv_flat.specs.declared.forms.Role.TheVariants.{Body, Assign, Init, Trans, Invar, Invariant}
use Rattle.smv_flat.specs.FlatForms.{Form, PlainFlat}
use Rattle.smv_flat.specs.FlatTree.{FlatTree}
use Rattle.moxi_terms.specs.Tree.{Tree, variable, trees_of}
use Rattle.moxi_flat.specs.Terms.{term_size, terms_size}
use Rattle.smv_script.specs.Operators.{any_term}
use Rattle.smv_script.specs.Script.{member_term, interval_parts, domain_parts, body_part, body_parts, invar_item, trans_item, item_parts, form_parts, numbered_parts, instance_parts, parts_upto, above_items, above_forms, formula_of}
use Rattle.smv_script.specs.Terms.{Coding, translation}
use Rattle.smv_script_laws.proofs.Measures.{no_calls, Fits}
use Rattle.smv_script_laws.proofs.SizedRows.{variable_leaf}
use Rattle.moxi_terms.specs.Applications.{equal_term, all_term}
use Rattle.smv_items.specs.laws.Counting.{total, total_append}

abbrev pub sizes : List Tree → ℕ
sizes ts = total (term_size no_calls) ts

listed_sizes : (ts : List Tree) → terms_size no_calls (trees_of ts) ≡ sizes ts
listed_sizes [] = refl
listed_sizes (t ∷ ts) = ap (λ n. term_size no_calls t + n) (listed_sizes ts)

pub all_size : (ts : List Tree) → term_size no_calls (all_term ts) ≤ 1 + sizes ts
all_size [] = omega arith
all_size (t ∷ []) = omega arith
all_size (t ∷ u ∷ ts) = let i = listed_sizes ts in omega (arith, i)

-- ---- each item and each form belongs to one instance

abbrev pub numbered : (ℕ → PlainFlatItem → ℕ) → ℕ → List PlainFlatItem → ℕ
numbered g k [] = 0
numbered g k (m ∷ ms) = g k m + numbered g (k + 1) ms

pick_one : (b c d : Bool) (a : ℕ) → (b ≡ true → d ≡ true) → (c ≡ true → d ≡ true) → (b ≡ true → c ≡ true → ⊥) → (if b then a else 0) + (if c then a else 0) ≤ (if d then a else 0)
pick_one true true d a p q r = absurd (r refl refl)
pick_one true false true a p q r = omega arith
pick_one true false false a p q r = let e = p refl in cc
pick_one false true true a p q r = omega arith
pick_one false true false a p q r = let e = q refl in cc
pick_one false false true a p q r = omega arith
pick_one false false false a p q r = omega arith

next_one : (i n a : ℕ) → (if nat_lt i n then a else 0) + (if i == n then a else 0) ≤ (if nat_lt i (n + 1) then a else 0)
next_one i n a =
    pick_one (nat_lt i n) (i == n) (nat_lt i (n + 1)) a
    (λ e. let f = ltb-true i n e in lt-ltb i (n + 1) (omega (arith, f)))
    (λ e. let f = eqb-true i n e in lt-ltb i (n + 1) (omega (arith, f)))
    (λ e f. let g = ltb-true i n e in let h = eqb-true i n f in omega (arith, g, h))

if_sizes : (b : Bool) (ts : List Tree) → sizes (if b then ts else []) ≡ (if b then sizes ts else 0)
if_sizes true ts = refl
if_sizes false ts = refl

at_most : (b : Bool) (a : ℕ) → (if b then a else 0) ≤ a
at_most true a = omega arith
at_most false a = omega arith

abbrev item_size : PlainFlat → Coding → When → ℕ → PlainFlatItem → ℕ
item_size flat c when k m = sizes (item_parts flat c when k m)

abbrev form_size : Coding → When → Form → ℕ
form_size c when f = sizes (form_parts c when f.role f.body)

abbrev items_below : PlainFlat → Coding → When → ℕ → ℕ → List PlainFlatItem → ℕ
items_below flat c when n k ms = numbered (λ j m. if nat_lt m.instance n then item_size flat c when j m else 0) k ms

abbrev forms_below : Coding → When → ℕ → List Form → ℕ
forms_below c when n fs = total (λ f. if nat_lt f.instance n then form_size c when f else 0) fs

items_next : (flat : PlainFlat) (c : Coding) (when : When) (n k : ℕ) (ms : List PlainFlatItem)
    → items_below flat c when n k ms + sizes (numbered_parts flat c when n k ms) ≤ items_below flat c when (n + 1) k ms
items_next flat c when n k [] = omega arith
items_next flat c when n k (m ∷ ms) =
    let a = next_one m.instance n (item_size flat c when k m) in
    let b = if_sizes (m.instance == n) (item_parts flat c when k m) in
    let d = total_append (term_size no_calls) (if m.instance == n then item_parts flat c when k m else []) (numbered_parts flat c when n (k + 1) ms) in
    let r = items_next flat c when n (k + 1) ms in
    omega (arith, a, b, d, r)

forms_next : (c : Coding) (when : When) (n : ℕ) (fs : List Form)
    → forms_below c when n fs + sizes (flat_map (λ f. if f.instance == n then form_parts c when f.role f.body else []) fs) ≤ forms_below c when (n + 1) fs
forms_next c when n [] = omega arith
forms_next c when n (f ∷ fs) =
    let a = next_one f.instance n (form_size c when f) in
    let b = if_sizes (f.instance == n) (form_parts c when f.role f.body) in
    let d = total_append (term_size no_calls) (if f.instance == n then form_parts c when f.role f.body else []) (flat_map (λ x. if x.instance == n then form_parts c when x.role x.body else []) fs) in
    let r = forms_next c when n fs in
    omega (arith, a, b, d, r)

upto_size : (flat : PlainFlat) (c : Coding) (when : When) (n : ℕ) → sizes (parts_upto flat c when n) ≤ items_below flat c when n 0 flat.items + forms_below c when n flat.forms
upto_size flat c when zero = omega arith
upto_size flat c when (suc n) =
    let i = upto_size flat c when n in
    let a = items_next flat c when n 0 flat.items in
    let b = forms_next c when n flat.forms in
    let d = total_append (term_size no_calls) (parts_upto flat c when n) (instance_parts flat c when n) in
    let e = total_append (term_size no_calls) (numbered_parts flat c when n 0 flat.items) (flat_map (λ f. if f.instance == n then form_parts c when f.role f.body else []) flat.forms) in
    let s : items_below flat c when (n + 1) 0 flat.items ≡ items_below flat c when (suc n) 0 flat.items = ap (λ x. items_below flat c when x 0 flat.items) (omega arith) in
    let t : forms_below c when (n + 1) flat.forms ≡ forms_below c when (suc n) flat.forms = ap (λ x. forms_below c when x flat.forms) (omega arith) in
    omega (arith, i, a, b, d, e, s, t)

items_all : (flat : PlainFlat) (c : Coding) (when : When) (n k : ℕ) (ms : List PlainFlatItem) → items_below flat c when n k ms ≤ numbered (item_size flat c when) k ms
items_all flat c when n k [] = omega arith
items_all flat c when n k (m ∷ ms) = let a = at_most (nat_lt m.instance n) (item_size flat c when k m) in let r = items_all flat c when n (k + 1) ms in omega (arith, a, r)

forms_all : (c : Coding) (when : When) (n : ℕ) (fs : List Form) → forms_below c when n fs ≤ total (form_size c when) fs
forms_all c when n [] = omega arith
forms_all c when n (f ∷ fs) = let a = at_most (nat_lt f.instance n) (form_size c when f) in let r = forms_all c when n fs in omega (arith, a, r)

formula_size : (flat : PlainFlat) (c : Coding) (when : When) → term_size no_calls (formula_of flat c when) ≤ 1 + (numbered (item_size flat c when) 0 flat.items + total (form_size c when) flat.forms)
formula_size flat c when =
    let n = max (above_items flat.items) (above_forms flat.forms) in
    let a = all_size (parts_upto flat c when n) in
    let b = upto_size flat c when n in
    let d = items_all flat c when n 0 flat.items in
    let e = forms_all c when n flat.forms in
    omega (arith, a, b, d, e)

-- ---- what an item gives

abbrev pub members_bound : List Member → ℕ
members_bound [] = 7
members_bound (m ∷ ms) = 1 + 3 * (1 + length ms)

abbrev pub domain_bound : ItemKind → List Member → ℕ
domain_bound Define ms = 0
domain_bound Actual ms = 0
domain_bound kind ms = members_bound ms

abbrev pub frozen_bound : ItemKind → ℕ
frozen_bound Frozen = 3
frozen_bound kind = 0

abbrev pub parts_bound : PlainFlatItem → ℕ
parts_bound m = frozen_bound m.kind + domain_bound m.kind m.members

member_size : (width : ℕ) (symbols : List (List ℕ)) (v : ℕ) (m : Member) → term_size no_calls (member_term width symbols (variable v false) m) ≡ 3
member_size width symbols v (OfMember.Symbol s) = refl
member_size width symbols v (OfMember.Integer z) = refl

members_size : (width : ℕ) (symbols : List (List ℕ)) (v : ℕ) (ms : List Member) → sizes (map (member_term width symbols (variable v false)) ms) ≡ 3 * length ms
members_size width symbols v [] = refl
members_size width symbols v (m ∷ ms) =
    let a = member_size width symbols v m in
    let r = members_size width symbols v ms in
    omega (arith, a, r)

any_size : (t : Tree) (ts : List Tree) → term_size no_calls (any_term (trees_of (t ∷ ts))) ≤ 1 + sizes (t ∷ ts)
any_size t [] = omega arith
any_size t (u ∷ ts) = let i = listed_sizes ts in omega (arith, i)

interval_size : (width v : ℕ) (t : ExprType) → sizes (interval_parts width (variable v false) t) ≤ 7
interval_size width v (integer_type low high) = omega arith
interval_size width v truth_type = omega arith
interval_size width v symbol_type = omega arith
interval_size width v (word_type n) = omega arith

domain_size : (width : ℕ) (symbols : List (List ℕ)) (v : ℕ) (t : ExprType) (ms : List Member) → sizes (domain_parts width symbols (variable v false) t ms) ≤ members_bound ms
domain_size width symbols v t [] = interval_size width v t
domain_size width symbols v t (m ∷ ms) =
    let a = any_size (member_term width symbols (variable v false) m) (map (member_term width symbols (variable v false)) ms) in
    let b = members_size width symbols v (m ∷ ms) in
    omega (arith, a, b)

always_size : (flat : PlainFlat) (c : Coding) (k : ℕ) (m : PlainFlatItem) (kind : ItemKind)
    → sizes (invar_item flat c k m kind) ≤ domain_bound kind m.members + sizes (body_parts c k flat.forms)
always_size flat c k m Define = omega arith
always_size flat c k m Actual = omega arith
always_size flat c k m State = let a = domain_size c.width flat.symbols (c.place k) m.type m.members in omega (arith, a)
always_size flat c k m Frozen = let a = domain_size c.width flat.symbols (c.place k) m.type m.members in omega (arith, a)
always_size flat c k m Input = let a = domain_size c.width flat.symbols (c.place k) m.type m.members in omega (arith, a)

following_size : (c : Coding) (k : ℕ) (kind : ItemKind) → sizes (trans_item c k kind) ≤ frozen_bound kind
following_size c k Frozen = omega arith
following_size c k State = omega arith
following_size c k Input = omega arith
following_size c k Define = omega arith
following_size c k Actual = omega arith

items_size : (flat : PlainFlat) (c : Coding) (k : ℕ) (ms : List PlainFlatItem)
    → numbered (item_size flat c First) k ms + (numbered (item_size flat c Following) k ms + numbered (item_size flat c Always) k ms)
    ≤ total parts_bound ms + numbered (λ j m. sizes (body_parts c j flat.forms)) k ms
items_size flat c k [] = omega arith
items_size flat c k (m ∷ ms) =
    let a = always_size flat c k m m.kind in
    let b = following_size c k m.kind in
    let r = items_size flat c (k + 1) ms in
    omega (arith, a, b, r)

-- ---- each body belongs to one item

abbrev term_of : Coding → FlatTree → ℕ
term_of c e = term_size no_calls ((translation c e).term 0)

abbrev pub body_cost : Coding → Role → FlatTree → ℕ
body_cost c (Body j) e = term_of c e + 2
body_cost c r e = 0

abbrev body_from : Coding → ℕ → Role → FlatTree → ℕ
body_from c k (Body j) e = if nat_lt j k then 0 else term_of c e + 2
body_from c k r e = 0

pick_last : (b c d : Bool) (a : ℕ) → (d ≡ true → c ≡ true) → (b ≡ true → c ≡ true) → (b ≡ true → d ≡ true → ⊥) → (if b then a else 0) + (if c then 0 else a) ≤ (if d then 0 else a)
pick_last true true true a p q r = absurd (r refl refl)
pick_last true true false a p q r = omega arith
pick_last true false d a p q r = let e = q refl in cc
pick_last false true true a p q r = omega arith
pick_last false true false a p q r = omega arith
pick_last false false true a p q r = let e = p refl in cc
pick_last false false false a p q r = omega arith

body_next : (c : Coding) (k : ℕ) (r : Role) (e : FlatTree) → sizes (body_part c k r e) + body_from c (k + 1) r e ≤ body_from c k r e
body_next c k (Body j) e =
    let part = equal_term (variable (c.place k) false) ((translation c e).term 0) ∷ [] in
    let s : sizes part ≡ term_of c e + 2 = omega arith in
    let a : sizes (if j == k then part else []) ≡ (if j == k then term_of c e + 2 else 0) = if_sizes (j == k) part ∙ ap (λ n. if j == k then n else 0) s in
    let b = pick_last (j == k) (nat_lt j (k + 1)) (nat_lt j k) (term_of c e + 2)
    (λ x. let f = ltb-true j k x in lt-ltb j (k + 1) (omega (arith, f)))
    (λ x. let f = eqb-true j k x in lt-ltb j (k + 1) (omega (arith, f)))
    (λ x y. let g = eqb-true j k x in let h = ltb-true j k y in omega (arith, g, h)) in
    omega (arith, a, b)
body_next c k (Assign w j) e = omega arith
body_next c k Init e = omega arith
body_next c k Trans e = omega arith
body_next c k Invar e = omega arith
body_next c k Invariant e = omega arith

bodies_next : (c : Coding) (k : ℕ) (fs : List Form) → sizes (body_parts c k fs) + total (λ f. body_from c (k + 1) f.role f.body) fs ≤ total (λ f. body_from c k f.role f.body) fs
bodies_next c k [] = omega arith
bodies_next c k (f ∷ fs) =
    let a = body_next c k f.role f.body in
    let r = bodies_next c k fs in
    let d = total_append (term_size no_calls) (body_part c k f.role f.body) (body_parts c k fs) in
    omega (arith, a, r, d)

bodies_from : (c : Coding) (fs : List Form) (k : ℕ) (ms : List PlainFlatItem) → numbered (λ j m. sizes (body_parts c j fs)) k ms ≤ total (λ f. body_from c k f.role f.body) fs
bodies_from c fs k [] = omega arith
bodies_from c fs k (m ∷ ms) =
    let a = bodies_next c k fs in
    let r = bodies_from c fs (k + 1) ms in
    omega (arith, a, r)

body_all : (c : Coding) (k : ℕ) (r : Role) (e : FlatTree) → body_from c k r e ≤ body_cost c r e
body_all c k (Body j) e = by (nat_lt j k)
  where
    by : (b : Bool) → (if b then 0 else term_of c e + 2) ≤ term_of c e + 2
    by true = omega arith
    by false = omega arith
body_all c k (Assign w j) e = omega arith
body_all c k Init e = omega arith
body_all c k Trans e = omega arith
body_all c k Invar e = omega arith
body_all c k Invariant e = omega arith

bodies_all : (c : Coding) (k : ℕ) (fs : List Form) → total (λ f. body_from c k f.role f.body) fs ≤ total (λ f. body_cost c f.role f.body) fs
bodies_all c k [] = omega arith
bodies_all c k (f ∷ fs) = let a = body_all c k f.role f.body in let r = bodies_all c k fs in omega (arith, a, r)

-- ---- what a form costs in all formulas, as the body of a definition, and as an invariant with its query

abbrev pub invariant_cost : Coding → Role → FlatTree → ℕ
invariant_cost c Invariant e = term_of c e + 2
invariant_cost c r e = 0

abbrev pub form_cost : Coding → Role → FlatTree → ℕ
form_cost c r e =
    sizes (form_parts c First r e) + (sizes (form_parts c Following r e) + (sizes (form_parts c Always r e) + (body_cost c r e + invariant_cost c r e)))

assigned_cost : (c : Coding) (w : When) (k : ℕ) {n h : ℕ} (e : FlatTree) → Fits n h (translation c e) → form_cost c (Assign w k) e ≤ 3 * n
assigned_cost c First k e f = let a = (f.member 0 (variable (c.place k) false) (variable_leaf _ _)).size in omega (arith, a)
assigned_cost c Following k e f = let a = (f.member 0 (variable (c.place k) true) (variable_leaf _ _)).size in omega (arith, a)
assigned_cost c Always k e f = let a = (f.member 0 (variable (c.place k) false) (variable_leaf _ _)).size in omega (arith, a)

pub form_costs : (c : Coding) (r : Role) {n h : ℕ} (e : FlatTree) → Fits n h (translation c e) → form_cost c r e ≤ 3 * n
form_costs c (Body j) e f = let a = (f.term 0).size in omega (arith, a)
form_costs c (Assign w k) e f = assigned_cost c w k e f
form_costs c Init e f = let a = (f.term 0).size in omega (arith, a)
form_costs c Trans e f = let a = (f.term 0).size in omega (arith, a)
form_costs c Invar e f = let a = (f.term 0).size in omega (arith, a)
form_costs c Invariant e f = let a = (f.term 0).size in omega (arith, a)

forms_costs : (c : Coding) (fs : List Form)
    → total (form_size c First) fs + (total (form_size c Following) fs + (total (form_size c Always) fs + (total (λ f. body_cost c f.role f.body) fs + total (λ f. invariant_cost c f.role f.body) fs)))
    ≡ total (λ f. form_cost c f.role f.body) fs
forms_costs c [] = omega arith
forms_costs c (f ∷ fs) = let r = forms_costs c fs in omega (arith, r)

-- the three formulas of a system, and what its invariants cost
pub formulas_size : (flat : PlainFlat) (c : Coding)
    → (term_size no_calls (formula_of flat c First) + (term_size no_calls (formula_of flat c Following) + term_size no_calls (formula_of flat c Always))) + total (λ f. invariant_cost c f.role f.body) flat.forms
    ≤ 3 + (total parts_bound flat.items + total (λ f. form_cost c f.role f.body) flat.forms)
formulas_size flat c =
    let x = formula_size flat c First in
    let y = formula_size flat c Following in
    let z = formula_size flat c Always in
    let i = items_size flat c 0 flat.items in
    let b = bodies_from c flat.forms 0 flat.items in
    let a = bodies_all c 0 flat.forms in
    let s = forms_costs c flat.forms in
    omega (arith, x, y, z, i, b, a, s)
