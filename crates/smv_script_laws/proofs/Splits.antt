-- Each item and each formula of the flat form has its parts in the list of all instances' parts.
use Rattle.std.proofs.Common.{◌≡◌, ℕ, zero, suc, ◌+◌, ◌<◌, ◌≤◌, max, nat_lt, Bool, true, false, ◌==◌, if◌then◌else◌, List, [], ◌∷◌, flat_map, Some, refl, ap, ◌∙◌, subst, arith}
use Rattle.std.specs.Prelude.{◌↔◌, slice_get}
use Rattle.std.specs.List.{AllByRecursion, list_all}
use Rattle.std.proofs.lemmas.Bool.{eq-eqb, ltb-true, ltb-false}
use Rattle.smv_text.specs.declared.tree.When.{When}
use Rattle.smv_meaning.specs.laws.Booleans.{both_true, two_true}
use Rattle.smv_items.specs.FlatItems.{PlainFlatItem}
use Rattle.smv_flat.specs.FlatForms.{Form, PlainFlat}
use Rattle.moxi_terms.specs.declared.data.Datum.{Datum}
use Rattle.moxi_terms.specs.declared.data.Datum.TheVariants as datum
use Rattle.moxi_terms.specs.Operators.{truth_of}
use Rattle.moxi_terms.specs.Tree.{Tree, trees_of}
use Rattle.moxi_terms.specs.Value.{Calls, Values, term_value, term_values}
use Rattle.moxi_scripts.specs.Behaviour.{Holds}
use Rattle.smv_script.specs.Terms.{Coding}
use Rattle.smv_script.specs.Script.{item_parts, form_parts, numbered_parts, instance_parts, parts_upto, above_items, above_forms, formula_of}
use Rattle.smv_script_laws.specs.FormulaLaws.{FormulaSplits}
use Rattle.smv_script_laws.proofs.Lists.{all_front}
use Rattle.smv_script_laws.proofs.Bodies.{all_joined}
use Rattle.moxi_terms.specs.Applications.{all_term}

-- ---- one term that says all parts

truth_is : (d : Datum) → truth_of d ≡ true → d ≡ datum.Truth true
truth_is (datum.Truth b) h = ap datum.Truth h
truth_is (datum.Bits w) h = cc
truth_is (datum.Constant n i) h = cc

are_true : (calls : Calls) (now later : Values) (ts : List Tree) → list_all truth_of (term_values calls now later [] (trees_of ts)) ≡ true → AllByRecursion (Holds calls now later) ts
are_true calls now later [] h = tt
are_true calls now later (t ∷ ts) h =
    let s = both_true (truth_of (term_value calls now later [] t)) (list_all truth_of (term_values calls now later [] (trees_of ts))) h in
    (truth_is (term_value calls now later [] t) s.0, are_true calls now later ts s.1)

all_true : (calls : Calls) (now later : Values) (ts : List Tree) → AllByRecursion (Holds calls now later) ts → list_all truth_of (term_values calls now later [] (trees_of ts)) ≡ true
all_true calls now later [] h = refl
all_true calls now later (t ∷ ts) h =
    two_true (truth_of (term_value calls now later [] t)) (list_all truth_of (term_values calls now later [] (trees_of ts))) (ap truth_of h.0) (all_true calls now later ts h.1)

from_truth : (b : Bool) → datum.Truth b ≡ datum.Truth true → b ≡ true
from_truth b h = ap truth_of h

all_split : (calls : Calls) (now later : Values) (ts : List Tree) → Holds calls now later (all_term ts) ↔ AllByRecursion (Holds calls now later) ts
all_split calls now later [] = (λ h. tt, λ h. refl)
all_split calls now later (t ∷ []) = (λ h. (h, tt), λ h. h.0)
all_split calls now later (t ∷ u ∷ ts) = (
  λ h. are_true calls now later (t ∷ u ∷ ts) (from_truth (list_all truth_of (term_values calls now later [] (trees_of (t ∷ u ∷ ts)))) h),
  λ h. ap datum.Truth (all_true calls now later (t ∷ u ∷ ts) h),
)

-- ---- the parts of an instance

if_all : {X : Type 0} (P : X → Type 0) (b : Bool) (xs : List X) → (b ≡ true → AllByRecursion P xs) → AllByRecursion P (if b then xs else [])
if_all P true xs h = h refl
if_all P false xs h = tt

all_if : {X : Type 0} (P : X → Type 0) (b : Bool) (xs : List X) → b ≡ true → AllByRecursion P (if b then xs else []) → AllByRecursion P xs
all_if P true xs e h = h
all_if P false xs e h = cc

module _ (flat : PlainFlat) (c : Coding) (when : When) (calls : Calls) (now later : Values) where
  abbrev All : List Tree → Type 0
  All ts = AllByRecursion (Holds calls now later) ts

  abbrev ItemHolds : ℕ → PlainFlatItem → Type 0
  ItemHolds k m = All (item_parts flat c when k m)

  abbrev FormHolds : Form → Type 0
  FormHolds f = All (form_parts c when f.role f.body)

  abbrev form_here : ℕ → Form → List Tree
  form_here i f = if f.instance == i then form_parts c when f.role f.body else []

  numbered_one : (i k : ℕ) (ms : List PlainFlatItem) → All (numbered_parts flat c when i k ms) → (n : ℕ) (m : PlainFlatItem) → slice_get ms n ≡ Some m → m.instance ≡ i → ItemHolds (k + n) m
  numbered_one i k [] a n m h e = cc
  numbered_one i k (o ∷ ms) a zero m h e =
      let s : o ≡ m = cc in
      let r = all_front (Holds calls now later) (if o.instance == i then item_parts flat c when k o else []) (numbered_parts flat c when i (k + 1) ms) a in
      let z : k ≡ k + 0 = omega arith in
      let same : (o.instance == i) ≡ true = eq-eqb o.instance i (ap (λ (x : PlainFlatItem). x.instance) s ∙ e) in
      subst (λ j. ItemHolds j m) z (subst (λ x. ItemHolds k x) s (all_if (Holds calls now later) (o.instance == i) (item_parts flat c when k o) same r.0))
  numbered_one i k (o ∷ ms) a (suc n) m h e =
      let r = all_front (Holds calls now later) (if o.instance == i then item_parts flat c when k o else []) (numbered_parts flat c when i (k + 1) ms) a in
      let z : (k + 1) + n ≡ k + suc n = omega arith in
      subst (λ j. ItemHolds j m) z (numbered_one i (k + 1) ms r.1 n m h e)

  numbered_all : (i k : ℕ) (ms : List PlainFlatItem) → ((n : ℕ) (m : PlainFlatItem) → slice_get ms n ≡ Some m → ItemHolds (k + n) m) → All (numbered_parts flat c when i k ms)
  numbered_all i k [] h = tt
  numbered_all i k (o ∷ ms) h =
      let z : k + 0 ≡ k = omega arith in
      all_joined (Holds calls now later) (if o.instance == i then item_parts flat c when k o else []) (numbered_parts flat c when i (k + 1) ms)
      (if_all (Holds calls now later) (o.instance == i) (item_parts flat c when k o) (λ e. subst (λ j. ItemHolds j o) z (h 0 o refl)))
      (numbered_all i (k + 1) ms (λ n m e. let y : k + suc n ≡ (k + 1) + n = omega arith in subst (λ j. ItemHolds j m) y (h (suc n) m e)))

  forms_one : (i : ℕ) (fs : List Form) → All (flat_map (form_here i) fs) → (n : ℕ) (f : Form) → slice_get fs n ≡ Some f → f.instance ≡ i → FormHolds f
  forms_one i [] a n f h e = cc
  forms_one i (g ∷ fs) a zero f h e =
      let s : g ≡ f = cc in
      let r = all_front (Holds calls now later) (form_here i g) (flat_map (form_here i) fs) a in
      let same : (g.instance == i) ≡ true = eq-eqb g.instance i (ap (λ (x : Form). x.instance) s ∙ e) in
      subst FormHolds s (all_if (Holds calls now later) (g.instance == i) (form_parts c when g.role g.body) same r.0)
  forms_one i (g ∷ fs) a (suc n) f h e = forms_one i fs (all_front (Holds calls now later) (form_here i g) (flat_map (form_here i) fs) a).1 n f h e

  forms_all : (i : ℕ) (fs : List Form) → ((n : ℕ) (f : Form) → slice_get fs n ≡ Some f → FormHolds f) → All (flat_map (form_here i) fs)
  forms_all i [] h = tt
  forms_all i (g ∷ fs) h =
      all_joined (Holds calls now later) (form_here i g) (flat_map (form_here i) fs)
      (if_all (Holds calls now later) (g.instance == i) (form_parts c when g.role g.body) (λ e. h 0 g refl)) (forms_all i fs (λ n f e. h (suc n) f e))

  -- ---- of all instances

  instance_one : (n i : ℕ) → i < n → All (parts_upto flat c when n) → All (instance_parts flat c when i)
  instance_one zero i l a = absurd (omega arith)
  instance_one (suc n) i l a =
      let r = all_front (Holds calls now later) (parts_upto flat c when n) (instance_parts flat c when n) a in
      by (λ b x. instance_one n i b x) (nat_lt i n) refl r.0 r.1
    where
      by : (i < n → All (parts_upto flat c when n) → All (instance_parts flat c when i)) → (b : Bool) → nat_lt i n ≡ b → All (parts_upto flat c when n) → All (instance_parts flat c when n) → All (instance_parts flat c when i)
      by ih true e x y = ih (ltb-true i n e) x
      by ih false e x y = let g : n ≤ i = ltb-false i n e in let s : n ≡ i = omega (arith, g, l) in subst (λ j. All (instance_parts flat c when j)) s y

  instances_all : (n : ℕ) → ((i : ℕ) → All (instance_parts flat c when i)) → All (parts_upto flat c when n)
  instances_all zero h = tt
  instances_all (suc n) h = all_joined (Holds calls now later) (parts_upto flat c when n) (instance_parts flat c when n) (instances_all n h) (h n)

item_below : (ms : List PlainFlatItem) (n : ℕ) (m : PlainFlatItem) → slice_get ms n ≡ Some m → m.instance < above_items ms
item_below [] n m h = cc
item_below (o ∷ ms) zero m h =
    let s : o ≡ m = cc in
    let e : o.instance ≡ m.instance = ap (λ (x : PlainFlatItem). x.instance) s in
    omega (arith, e)
item_below (o ∷ ms) (suc n) m h = let r : m.instance < above_items ms = item_below ms n m h in omega (arith, r)

form_below : (fs : List Form) (n : ℕ) (f : Form) → slice_get fs n ≡ Some f → f.instance < above_forms fs
form_below [] n f h = cc
form_below (g ∷ fs) zero f h =
    let s : g ≡ f = cc in
    let e : g.instance ≡ f.instance = ap (λ (x : Form). x.instance) s in
    omega (arith, e)
form_below (g ∷ fs) (suc n) f h = let r : f.instance < above_forms fs = form_below fs n f h in omega (arith, r)

left_below : (i a b : ℕ) → i < a → i < max a b
left_below i a b h = omega (arith, h)

right_below : (i a b : ℕ) → i < b → i < max a b
right_below i a b h = omega (arith, h)

pub formula_splits_law : FormulaSplits
formula_splits_law flat c when calls now later =
    let top = max (above_items flat.items) (above_forms flat.forms) in
    let split = all_split calls now later (parts_upto flat c when top) in
    let one = λ (i : ℕ) (l : i < top) (h : Holds calls now later (formula_of flat c when)).
    all_front (Holds calls now later) (numbered_parts flat c when i 0 flat.items) (flat_map (form_here flat c when calls now later i) flat.forms)
    (instance_one flat c when calls now later top i l (split.0 h)) in (
      λ h. record {
        items = λ k m e.
            let z : 0 + k ≡ k = omega arith in
            subst (λ j. ItemHolds flat c when calls now later j m) z
            (numbered_one flat c when calls now later m.instance 0 flat.items (one m.instance (left_below m.instance (above_items flat.items) (above_forms flat.forms) (item_below flat.items k m e)) h).0 k m e refl);
        forms = λ n f e.
            forms_one flat c when calls now later f.instance flat.forms (one f.instance (right_below f.instance (above_items flat.items) (above_forms flat.forms) (form_below flat.forms n f e)) h).1 n f e refl;
      },
      λ p. split.1 (instances_all flat c when calls now later top (λ i.
          all_joined (Holds calls now later) (numbered_parts flat c when i 0 flat.items) (flat_map (form_here flat c when calls now later i) flat.forms)
          (numbered_all flat c when calls now later i 0 flat.items (λ n m e. let z : n ≡ 0 + n = omega arith in subst (λ j. ItemHolds flat c when calls now later j m) z (p.items n m e)))
          (forms_all flat c when calls now later i flat.forms p.forms))),
    )
