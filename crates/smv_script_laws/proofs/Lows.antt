-- The terms of a script are low, and few of their brackets stand open, where no expression of the model is too high.
use Rattle.std.proofs.Common.{◌≡◌, ℕ, zero, suc, ◌+◌, ◌≤◌, max, Bool, true, false, ◌==◌, if◌then◌else◌, List, [], ◌∷◌, ◌++◌, map, length, refl, arith}
use Rattle.std.specs.Prelude.{flat_map, None}
use Rattle.std.specs.List.{AllByRecursion}
use Rattle.text_core.specs.declared.place.Place.{Place}
use Rattle.smv_text.specs.declared.token.Token.{Token}
use Rattle.smv_text.specs.declared.tree.When.{When}
use Rattle.smv_text.specs.declared.tree.When.TheVariants.{Always, First, Following}
use Rattle.smv_text.specs.declared.tree.Member.{Member}
use Rattle.smv_text.specs.declared.tree.Member.TheVariants as OfMember
use Rattle.smv_text.specs.Heights.{height, first_high, of_modules}
use Rattle.smv_text.specs.Sources.{SpellsSource}
use Rattle.smv_text.specs.Tree.{Tree as Expression, Trees as Expressions, no_trees as no_expressions, tree as expression, PlainDomain, boolean, members, between, bits, instance, PlainItem, PlainDefinition, PlainAssignment, PlainElement, vars, defines, constants, assigns, init, trans, invar, spec, PlainModule, PlainSource}
use Rattle.smv_meaning.specs.Instances.{Instance, instances_of}
use Rattle.smv_meaning.specs.Types.{ExprType, truth_type, integer_type, symbol_type, word_type}
use Rattle.smv_meaning.specs.Settled.{types_in}
use Rattle.smv_items.specs.declared.items.ItemKind.{ItemKind}
use Rattle.smv_items.specs.declared.items.ItemKind.TheVariants.{State, Frozen, Input, Define, Actual}
use Rattle.smv_items.specs.FlatItems.{PlainFlatItem, leaf_in}
use Rattle.smv_flat.specs.declared.forms.Role.{Role}
use Rattle.smv_flat.specs.declared.forms.Role.TheVariants.{Body, Assign, Init, Trans, Invar, Invariant}
use Rattle.smv_flat.specs.FlatForms.{Form, PlainFlat, flat_of}
use Rattle.smv_flat.specs.FlatTree.{FlatTree}
use Rattle.smv_flat.specs.FlatTruth.{role_invariant, forms_invariants}
use Rattle.moxi_terms.specs.Tree.{Tree, variable, trees_of}
use Rattle.moxi_scripts.specs.Script.{PlainFormula}
use Rattle.moxi_flat.specs.Terms.{term_height, terms_height}
use Rattle.moxi_flat.specs.Systems.{formulas_height, script_height}
use Rattle.smv_script.specs.Script.{member_term, domain_parts, body_part, body_parts, invar_item, trans_item, item_parts, form_parts, numbered_parts, instance_parts, parts_upto, above_items, above_forms, formula_of, coding_of, reachables_from, script_of}
use Rattle.smv_script.specs.Terms.{Coding, translation}
use Rattle.smv_script_laws.specs.BoundLaws.{HeightsAreLow}
use Rattle.smv_script_laws.proofs.Measures.{fewest, no_calls, Inside, Together, Within, Fits}
use Rattle.smv_script_laws.proofs.SizedRows.{variable_leaf, equal_inside, between_inside, any_inside}
use Rattle.smv_script_laws.proofs.Chains.{Sized}
use Rattle.smv_script_laws.proofs.Charges.{all_append, IsLow, EachPart, DomainEach, ElementEach, ModuleEach, Weighs, spelled_modules, low_modules}
use Rattle.smv_script_laws.proofs.Instances.{source_fits}
use Rattle.smv_script_laws.proofs.Prices.{HoldsOfForms, forms_all}
use Rattle.moxi_terms.specs.Applications.{equal_term, all_term}
use Rattle.moxi_script_print.proofs.OpenBrackets.{open_brackets, all_brackets}

-- a part of a formula
pub record IsLowTerm (t : Tree) : Type 0 where
  pub height : term_height no_calls t ≤ 761
  pub brackets : open_brackets t ≤ 1140

abbrev pub AreLow : List Tree → Type 0
AreLow ts = AllByRecursion IsLowTerm ts

low_inside : {n h : ℕ} (t : Tree) → Inside n h t → h ≤ 380 → IsLowTerm t
low_inside t w l = let a = w.height in let b = w.brackets in record { height = omega (arith, a, l); brackets = omega (arith, b, l) }

low_within : {n h : ℕ} (t : Tree) → Within n h t → h ≤ 380 → IsLowTerm t
low_within t w l = let a = w.height in let b = w.brackets in record { height = omega (arith, a, l); brackets = omega (arith, b, l) }

low_if : (b : Bool) (ts : List Tree) → AreLow ts → AreLow (if b then ts else [])
low_if true ts h = h
low_if false ts h = tt

low_append : (ts us : List Tree) → AreLow ts → AreLow us → AreLow (ts ++ us)
low_append ts us h k = all_append IsLowTerm ts us h k

-- ---- forms

-- the bounds of a form's expression
pub record FormFits (c : Coding) (f : Form) : Type 0 where
  pub number : ℕ
  pub level : ℕ
  pub fits : Fits number level (translation c f.body)
  pub low : level ≤ 380

abbrev pub FormsFit : Coding → List Form → Type 0
FormsFit c fs = AllByRecursion (FormFits c) fs

role_low : (c : Coding) (when : When) (r : Role) (e : FlatTree) {n h : ℕ} → Fits n h (translation c e) → h ≤ 380 → AreLow (form_parts c when r e)
role_low c First (Assign First k) e f l = (low_inside _ (f.member 0 (variable (c.place k) false) (variable_leaf _ _)) l, tt)
role_low c First (Assign Following k) e f l = tt
role_low c First (Assign Always k) e f l = tt
role_low c Following (Assign First k) e f l = tt
role_low c Following (Assign Following k) e f l = (low_inside _ (f.member 0 (variable (c.place k) true) (variable_leaf _ _)) l, tt)
role_low c Following (Assign Always k) e f l = tt
role_low c Always (Assign First k) e f l = tt
role_low c Always (Assign Following k) e f l = tt
role_low c Always (Assign Always k) e f l = (low_inside _ (f.member 0 (variable (c.place k) false) (variable_leaf _ _)) l, tt)
role_low c First (Body j) e f l = tt
role_low c First Init e f l = (low_within _ (f.term 0) l, tt)
role_low c First Trans e f l = tt
role_low c First Invar e f l = tt
role_low c First Invariant e f l = tt
role_low c Following (Body j) e f l = tt
role_low c Following Init e f l = tt
role_low c Following Trans e f l = (low_within _ (f.term 0) l, tt)
role_low c Following Invar e f l = tt
role_low c Following Invariant e f l = tt
role_low c Always (Body j) e f l = tt
role_low c Always Init e f l = tt
role_low c Always Trans e f l = tt
role_low c Always Invar e f l = (low_within _ (f.term 0) l, tt)
role_low c Always Invariant e f l = tt

forms_low : (c : Coding) (when : When) (n : ℕ) (fs : List Form) → FormsFit c fs → AreLow (flat_map (λ f. if f.instance == n then form_parts c when f.role f.body else []) fs)
forms_low c when n [] h = tt
forms_low c when n (f ∷ fs) h =
    low_append (if f.instance == n then form_parts c when f.role f.body else []) (flat_map (λ x. if x.instance == n then form_parts c when x.role x.body else []) fs)
    (low_if (f.instance == n) _ (role_low c when f.role f.body h.0.fits h.0.low)) (forms_low c when n fs h.1)

body_low : (c : Coding) (k : ℕ) (r : Role) (e : FlatTree) {n h : ℕ} → Fits n h (translation c e) → h ≤ 380 → AreLow (body_part c k r e)
body_low c k (Body j) e f l = low_if (j == k) (equal_term (variable (c.place k) false) ((translation c e).term 0) ∷ []) (low_inside _ (equal_inside _ _ (variable_leaf _ _) (f.term 0)) l, tt)
body_low c k (Assign w j) e f l = tt
body_low c k Init e f l = tt
body_low c k Trans e f l = tt
body_low c k Invar e f l = tt
body_low c k Invariant e f l = tt

bodies_low : (c : Coding) (k : ℕ) (fs : List Form) → FormsFit c fs → AreLow (body_parts c k fs)
bodies_low c k [] h = tt
bodies_low c k (f ∷ fs) h = low_append (body_part c k f.role f.body) (body_parts c k fs) (body_low c k f.role f.body h.0.fits h.0.low) (bodies_low c k fs h.1)

-- ---- items

member_inside : (width : ℕ) (symbols : List (List ℕ)) (v : ℕ) (m : Member) → Inside 1 1 (member_term width symbols (variable v false) m)
member_inside width symbols v (OfMember.Symbol s) = record { size = omega arith; height = omega arith; brackets = omega arith }
member_inside width symbols v (OfMember.Integer z) = record { size = omega arith; height = omega arith; brackets = omega arith }

members_together : (width : ℕ) (symbols : List (List ℕ)) (v : ℕ) (ms : List Member) → Together (length ms) 1 (trees_of (map (member_term width symbols (variable v false)) ms))
members_together width symbols v [] = record { size = omega arith; height = omega arith; brackets = omega arith }
members_together width symbols v (m ∷ ms) =
    let w = member_inside width symbols v m in
    let r = members_together width symbols v ms in
    record { size = omega (arith, w.size, r.size); height = omega (arith, w.height, r.height); brackets = omega (arith, w.brackets, r.brackets) }

domain_low : (width : ℕ) (symbols : List (List ℕ)) (v : ℕ) (t : ExprType) (ms : List Member) → AreLow (domain_parts width symbols (variable v false) t ms)
domain_low width symbols v (integer_type low high) [] = (low_inside _ (between_inside width low high (variable v false) (variable_leaf _ _)) (omega arith), tt)
domain_low width symbols v truth_type [] = tt
domain_low width symbols v symbol_type [] = tt
domain_low width symbols v (word_type n) [] = tt
domain_low width symbols v t (m ∷ ms) = (low_inside _ (any_inside _ (members_together width symbols v (m ∷ ms))) (omega arith), tt)

always_low : (flat : PlainFlat) (c : Coding) (k : ℕ) (m : PlainFlatItem) (kind : ItemKind) → FormsFit c flat.forms → AreLow (invar_item flat c k m kind)
always_low flat c k m Define h = bodies_low c k flat.forms h
always_low flat c k m Actual h = bodies_low c k flat.forms h
always_low flat c k m State h = domain_low c.width flat.symbols (c.place k) m.type m.members
always_low flat c k m Frozen h = domain_low c.width flat.symbols (c.place k) m.type m.members
always_low flat c k m Input h = domain_low c.width flat.symbols (c.place k) m.type m.members

following_low : (c : Coding) (k : ℕ) (kind : ItemKind) → AreLow (trans_item c k kind)
following_low c k Frozen = (record { height = omega arith; brackets = omega arith }, tt)
following_low c k State = tt
following_low c k Input = tt
following_low c k Define = tt
following_low c k Actual = tt

item_low : (flat : PlainFlat) (c : Coding) (when : When) (k : ℕ) (m : PlainFlatItem) → FormsFit c flat.forms → AreLow (item_parts flat c when k m)
item_low flat c First k m h = tt
item_low flat c Following k m h = following_low c k m.kind
item_low flat c Always k m h = always_low flat c k m m.kind h

items_low : (flat : PlainFlat) (c : Coding) (when : When) (n k : ℕ) (ms : List PlainFlatItem) → FormsFit c flat.forms → AreLow (numbered_parts flat c when n k ms)
items_low flat c when n k [] h = tt
items_low flat c when n k (m ∷ ms) h =
    low_append (if m.instance == n then item_parts flat c when k m else []) (numbered_parts flat c when n (k + 1) ms)
    (low_if (m.instance == n) _ (item_low flat c when k m h)) (items_low flat c when n (k + 1) ms h)

-- ---- formulas

parts_low : (flat : PlainFlat) (c : Coding) (when : When) (n : ℕ) → FormsFit c flat.forms → AreLow (parts_upto flat c when n)
parts_low flat c when zero h = tt
parts_low flat c when (suc n) h =
    low_append (parts_upto flat c when n) (instance_parts flat c when n) (parts_low flat c when n h)
    (low_append (numbered_parts flat c when n 0 flat.items) (flat_map (λ f. if f.instance == n then form_parts c when f.role f.body else []) flat.forms)
    (items_low flat c when n 0 flat.items h) (forms_low c when n flat.forms h))

-- a formula of a script
pub record IsLowFormula (t : Tree) : Type 0 where
  pub height : term_height no_calls t ≤ 762
  pub brackets : open_brackets t ≤ 1141

listed_low : (ts : List Tree) → AreLow ts → (terms_height no_calls (trees_of ts) ≤ 761) × (all_brackets (trees_of ts) ≤ 1140)
listed_low [] h = (omega arith, omega arith)
listed_low (t ∷ ts) h =
    let r = listed_low ts h.1 in
    let a = h.0.height in
    let b = h.0.brackets in
    (omega (arith, a, r.0), omega (arith, b, r.1))

all_low : (ts : List Tree) → AreLow ts → IsLowFormula (all_term ts)
all_low [] h = record { height = omega arith; brackets = omega arith }
all_low (t ∷ []) h = let a = h.0.height in let b = h.0.brackets in record { height = omega (arith, a); brackets = omega (arith, b) }
all_low (t ∷ u ∷ ts) h = let r = listed_low (t ∷ u ∷ ts) h in record { height = omega (arith, r.0); brackets = omega (arith, r.1) }

pub formula_low : (flat : PlainFlat) (c : Coding) (when : When) → FormsFit c flat.forms → IsLowFormula (formula_of flat c when)
formula_low flat c when h = all_low _ (parts_low flat c when (max (above_items flat.items) (above_forms flat.forms)) h)

abbrev pub FormulasLow : List PlainFormula → Type 0
FormulasLow fs = AllByRecursion (λ (f : PlainFormula). IsLowFormula f.term) fs

abbrev ExpressionsFit : Coding → List FlatTree → Type 0
ExpressionsFit c es = AllByRecursion (λ e. FormFits c (record { instance = 0; role = Invariant; body = e })) es

invariants_fit : (c : Coding) (fs : List Form) → FormsFit c fs → ExpressionsFit c (forms_invariants fs)
invariants_fit c [] h = tt
invariants_fit c (f ∷ fs) h = all_append _ (role_invariant f.role f.body) (forms_invariants fs) (by f.role) (invariants_fit c fs h.1)
  where
    by : (r : Role) → ExpressionsFit c (role_invariant r f.body)
    by Invariant = (record { number = h.0.number; level = h.0.level; fits = h.0.fits; low = h.0.low }, tt)
    by (Body j) = tt
    by (Assign w j) = tt
    by Init = tt
    by Trans = tt
    by Invar = tt

reachables_low : (c : Coding) (j : ℕ) (es : List FlatTree) → ExpressionsFit c es → FormulasLow (reachables_from c j es)
reachables_low c j [] h = tt
reachables_low c j (e ∷ es) h =
    let w = h.0.fits.term 0 in
    let a = w.height in
    let b = w.brackets in
    let l = h.0.low in
    (record { height = omega (arith, a, l); brackets = omega (arith, b, l) }, reachables_low c (j + 1) es h.1)

pub all_reachables_low : (flat : PlainFlat) (c : Coding) → FormsFit c flat.forms → FormulasLow (reachables_from c 0 (forms_invariants flat.forms))
all_reachables_low flat c h = reachables_low c 0 (forms_invariants flat.forms) (invariants_fit c flat.forms h)

-- ---- a model none of whose expressions is too high

abbrev IsSizedLow : Expression → Type 0
IsSizedLow e = Sized e × IsLow e

both_all : {X : Type 0} (P Q R : X → Type 0) → ((x : X) → P x → Q x → R x) → (xs : List X) → AllByRecursion P xs → AllByRecursion Q xs → AllByRecursion R xs
both_all P Q R f [] p q = tt
both_all P Q R f (x ∷ xs) p q = (f x p.0 q.0, both_all P Q R f xs p.1 q.1)

both_parts : (es : Expressions) → EachPart Sized es → EachPart IsLow es → EachPart IsSizedLow es
both_parts no_expressions p q = tt
both_parts (expression e es) p q = ((p.0, q.0), both_parts es p.1 q.1)

both_domain : (d : PlainDomain) → DomainEach Sized d → DomainEach IsLow d → DomainEach IsSizedLow d
both_domain (instance m es) p q = both_parts es p q
both_domain boolean p q = tt
both_domain (members ms) p q = tt
both_domain (between low high) p q = tt
both_domain (bits n) p q = tt

both_element : (e : PlainElement) → ElementEach Sized e → ElementEach IsLow e → ElementEach IsSizedLow e
both_element (vars kind items) p q =
    both_all (λ (v : PlainItem). DomainEach Sized v.domain) (λ (v : PlainItem). DomainEach IsLow v.domain) (λ (v : PlainItem). DomainEach IsSizedLow v.domain) (λ v. both_domain v.domain) items p q
both_element (defines ds) p q =
    both_all (λ (d : PlainDefinition). Sized d.body) (λ (d : PlainDefinition). IsLow d.body) (λ (d : PlainDefinition). IsSizedLow d.body) (λ d a b. (a, b)) ds p q
both_element (constants names) p q = tt
both_element (assigns xs) p q =
    both_all (λ (a : PlainAssignment). Sized a.body) (λ (a : PlainAssignment). IsLow a.body) (λ (a : PlainAssignment). IsSizedLow a.body) (λ a x y. (x, y)) xs p q
both_element (init e) p q = (p, q)
both_element (trans e) p q = (p, q)
both_element (invar e) p q = (p, q)
both_element (spec label e) p q = (p, q)

both_modules : (ms : List PlainModule) → AllByRecursion (λ m. Weighs m × ModuleEach Sized m) ms → AllByRecursion (ModuleEach IsLow) ms → AllByRecursion (λ m. Weighs m × ModuleEach IsSizedLow m) ms
both_modules ms p q =
    both_all (λ m. Weighs m × ModuleEach Sized m) (ModuleEach IsLow) (λ m. Weighs m × ModuleEach IsSizedLow m)
    (λ m a b. (a.0, both_all (ElementEach Sized) (ElementEach IsLow) (ElementEach IsSizedLow) both_element m.elements a.1 b)) ms p q

forms_fit : (t : List Instance) (c : Coding) → HoldsOfForms t IsSizedLow (FormFits c)
forms_fit t c i r j at e p = record { number = fewest e; level = height e; fits = p.0 c (types_in true t j) (leaf_in t j) at false; low = p.1 }

pub source_forms_fit : (source : PlainSource) (end : Place) (xs : List Token) → SpellsSource source end xs → first_high (of_modules source.modules) ≡ None → (c : Coding)
    → FormsFit c (flat_of (instances_of source)).forms
source_forms_fit source end xs s l c =
    forms_all (instances_of source) IsSizedLow (FormFits c) (forms_fit (instances_of source) c)
    (source_fits IsSizedLow source (both_modules source.modules (spelled_modules s.0) (low_modules source.modules l)))

-- ---- the script's height

formulas_low : (fs : List PlainFormula) → FormulasLow fs → formulas_height no_calls fs ≤ 762
formulas_low [] h = omega arith
formulas_low (f ∷ fs) h = let a = h.0.height in let r = formulas_low fs h.1 in omega (arith, a, r)

script_height_is : (flat : PlainFlat) (w : ℕ)
    → script_height (script_of flat w)
    ≡ max (max (term_height no_calls (formula_of flat (coding_of flat w) First)) (max (term_height no_calls (formula_of flat (coding_of flat w) Following))
    (max (term_height no_calls (formula_of flat (coding_of flat w) Always)) 0)))
    (max 0 (max 0 (formulas_height no_calls (reachables_from (coding_of flat w) 0 (forms_invariants flat.forms)))))
script_height_is flat w = refl

pub heights_are_low : HeightsAreLow
heights_are_low source end xs s l w =
    let flat = flat_of (instances_of source) in
    let c = coding_of flat w in
    let f = source_forms_fit source end xs s l c in
    let x = (formula_low flat c First f).height in
    let y = (formula_low flat c Following f).height in
    let z = (formula_low flat c Always f).height in
    let r = formulas_low (reachables_from c 0 (forms_invariants flat.forms)) (all_reachables_low flat c f) in
    let i = script_height_is flat w in
    omega (arith, x, y, z, r, i)
