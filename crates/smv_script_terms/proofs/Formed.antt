-- The parts of the formulas of a system by the numbers of instances.
use Rattle.std.proofs.Common.{◌≡◌, ℕ, zero, suc, ◌+◌, ◌≤◌, ◌<◌, ◌++◌, ◌==◌, if◌then◌else◌, get_or, Bool, true, false, List, [], ◌∷◌, drop, length, map, flat_map, Result, Ok, Err, refl, sym, ap, ◌∙◌, arith, append_assoc, inl, inr}
use Rattle.std.specs.Result.{OnOk}
use Rattle.std.proofs.lemmas.Bool.Decides.{eqb_tells}
use Rattle.std.proofs.lemmas.List.{drop-map, length-map}
use Rattle.text_core.specs.declared.errors.NoMemory.{NoMemory}
use Rattle.smv_text.specs.declared.tree.When.{When}
use Rattle.smv_items.specs.declared.items.FlatItem.{FlatItem}
use Rattle.smv_items.specs.FlatItems.{PlainFlatItem}
use Rattle.smv_items.specs.FlatItemView.{item_plain}
use Rattle.smv_flat.specs.declared.forms.Role.{Role}
use Rattle.smv_flat.specs.declared.forms.Role.TheVariants.{Body, Assign, Init, Trans, Invar, Invariant}
use Rattle.smv_flat.specs.declared.forms.FlatFormula.{FlatFormula}
use Rattle.smv_flat.specs.FlatForms.{Form, PlainFlat}
use Rattle.smv_flat.specs.FlatFormulas.{form_plain}
use Rattle.smv_flat.specs.FlatTree.{FlatTree}
use Rattle.smv_flat.specs.laws.FlatSteps.{drop_item}
use Rattle.moxi_terms.specs.declared.data.TermOp.TheVariants as op
use Rattle.moxi_terms.specs.Tree.{Tree, variable, trees_of}
use Rattle.smv_script.specs.Terms.{Coding, translation}
use Rattle.smv_script.specs.Script.{body_part, body_parts, form_parts, instance_parts, item_parts, numbered_parts}
use Rattle.smv_script_terms.specs.Operands.{several}
use Rattle.smv_script_terms.specs.Chains.{AreChained}
use Rattle.smv_script_terms.specs.Parts.{body_equation, body_number, body_number_of, body_owned, form_owned, item_number, item_owned, owned_by}
use Rattle.smv_script_terms.proofs.Walked.{Walks, walk_ends, walk_goes_on}
use Rattle.moxi_terms.specs.Applications.{equal_term, all_term}

-- ---- bodies

abbrev equation : Coding → ℕ → FlatTree → List Tree
equation c k e = equal_term (variable (c.place k) false) ((translation c e).term 0) ∷ []

at_number : (c : Coding) (j k : ℕ) (e : FlatTree) → (if j == k then equation c j e else []) ≡ (if j == k then equation c k e else [])
at_number c j k e =
    elim (eqb_tells j k) [
      | inl q ↦ ap (λ n. if j == k then equation c n e else []) q.1
      | inr q ↦ ap (λ b. if b then equation c j e else []) q.0 ∙ sym (ap (λ b. if b then equation c k e else []) q.0)
    ]

none_either : (b : Bool) → ◌≡◌ {A = List Tree} (if b then [] else []) []
none_either true = refl
none_either false = refl

body_is : (none k : ℕ) (c : Coding) (r : Role) (e : FlatTree) → (if body_number none r == k then body_equation c r e else []) ≡ body_part c k r e
body_is none k c (Body j) e = at_number c j k e
body_is none k c (Assign w j) e = none_either (none == k)
body_is none k c Init e = none_either (none == k)
body_is none k c Trans e = none_either (none == k)
body_is none k c Invar e = none_either (none == k)
body_is none k c Invariant e = none_either (none == k)

pub bodies_are : (none k : ℕ) (c : Coding) (fs : List Form) → owned_by k (map (body_owned none c) fs) ≡ body_parts c k fs
bodies_are none k c [] = refl
bodies_are none k c (f ∷ fs) =
    ap (λ ts. ts ++ owned_by k (map (body_owned none c) fs)) (body_is none k c f.role f.body) ∙ ap (λ ts. body_part c k f.role f.body ++ ts) (bodies_are none k c fs)

-- ---- items

pub items_are : (i : ℕ) (flat : PlainFlat) (c : Coding) (when : When) (k : ℕ) (ms : List PlainFlatItem) → owned_by i (item_owned (item_parts flat c when) k ms) ≡ numbered_parts flat c when i k ms
items_are i flat c when k [] = refl
items_are i flat c when k (m ∷ ms) = ap (λ ts. (if m.instance == i then item_parts flat c when k m else []) ++ ts) (items_are i flat c when (k + 1) ms)

pub item_numbers : (part : ℕ → PlainFlatItem → List Tree) (k : ℕ) (xs : List FlatItem) → map (λ x. x.0) (item_owned part k (map item_plain xs)) ≡ map item_number xs
item_numbers part k [] = refl
item_numbers part k (x ∷ xs) = ap (λ ns. x.instance ∷ ns) (item_numbers part (k + 1) xs)

items_left : (part : ℕ → PlainFlatItem → List Tree) (k p : ℕ) (ms : List PlainFlatItem) → drop p (item_owned part k ms) ≡ item_owned part (k + p) (drop p ms)
items_left part k zero ms = ap (λ n. item_owned part n ms) (let r : k ≡ k + 0 = omega arith in r)
items_left part k (suc p) [] = refl
items_left part k (suc p) (m ∷ ms) = items_left part (k + 1) p ms ∙ ap (λ n. item_owned part n (drop p ms)) (let r : k + 1 + p ≡ k + suc p = omega arith in r)

items_from : (part : ℕ → PlainFlatItem → List Tree) (p : ℕ) (xs : List FlatItem) → drop p (item_owned part 0 (map item_plain xs)) ≡ item_owned part p (map item_plain (drop p xs))
items_from part p xs = items_left part 0 p (map item_plain xs) ∙ ap (item_owned part (0 + p)) (drop-map item_plain p xs) ∙ ap (λ n. item_owned part n (map item_plain (drop p xs))) (let r : 0 + p ≡ p = omega arith in r)

item_first : (part : ℕ → PlainFlatItem → List Tree) (p : ℕ) (xs : List FlatItem) (x : FlatItem) → p < length xs → x ≡ get_or xs p x
    → drop p (item_owned part 0 (map item_plain xs)) ≡ (x.instance, part p (item_plain x)) ∷ drop (p + 1) (item_owned part 0 (map item_plain xs))
item_first part p xs x h e =
    items_from part p xs ∙ ap (λ ys. item_owned part p (map item_plain ys)) (drop_item xs p x h e)
    ∙ ap (λ os. (x.instance, part p (item_plain x)) ∷ os) (sym (items_from part (p + 1) xs))

-- the parts of an item are added
pub items_go_on : (part : ℕ → PlainFlatItem → List Tree) (xs : List FlatItem) (firsts nexts : List ℕ) (count i p q : ℕ) (x : FlatItem) (done more total : List Tree) → AreChained (map item_number xs) count 0 firsts nexts → i < count
    → p < length xs → x ≡ get_or xs p x → more ≡ done ++ part p (item_plain (get_or xs p x)) → q ≡ get_or nexts p 0 → Walks (map item_number xs) i (item_owned part 0 (map item_plain xs)) done total p
    → Walks (map item_number xs) i (item_owned part 0 (map item_plain xs)) more total q
items_go_on part xs firsts nexts count i p q x done more total c k l e m n w =
    walk_goes_on (item_owned part 0 (map item_plain xs)) (map item_number xs) firsts nexts count i p q (x.instance, part p (item_plain x)) done more total (item_numbers part 0 xs) c k
    (let r : length (map item_number xs) ≡ length xs = length-map xs item_number in omega (arith, r, l)) (item_first part p xs x l e) (m ∙ ap (λ y. done ++ part p (item_plain y)) (sym e)) n w

pub items_end : (i p : ℕ) (flat : PlainFlat) (c : Coding) (when : When) (xs : List FlatItem) (done before : List Tree) → length xs ≤ p
    → Walks (map item_number xs) i (item_owned (item_parts flat c when) 0 (map item_plain xs)) done (before ++ owned_by i (item_owned (item_parts flat c when) 0 (map item_plain xs))) p
    → done ≡ before ++ numbered_parts flat c when i 0 (map item_plain xs)
items_end i p flat c when xs done before h w =
    let os = item_owned (item_parts flat c when) 0 (map item_plain xs) in
    walk_ends os (map item_number xs) i p done (before ++ owned_by i os) (item_numbers (item_parts flat c when) 0 xs) (let r : length (map item_number xs) ≡ length xs = length-map xs item_number in omega (arith, r, h)) w
    ∙ ap (λ ts. before ++ ts) (items_are i flat c when 0 (map item_plain xs))

-- ---- formulas

-- of each formula its number and its parts
pub form_numbers : (g : Form → ℕ × List Tree) (h : FlatFormula → ℕ) (fs : List FlatFormula) → ((f : FlatFormula) → (g (form_plain f)).0 ≡ h f) → map (λ x. x.0) (map g (map form_plain fs)) ≡ map h fs
form_numbers g h [] same = refl
form_numbers g h (f ∷ fs) same = ap (λ n. n ∷ map (λ x. x.0) (map g (map form_plain fs))) (same f) ∙ ap (λ ns. h f ∷ ns) (form_numbers g h fs same)

forms_from : (g : Form → ℕ × List Tree) (p : ℕ) (fs : List FlatFormula) → drop p (map g (map form_plain fs)) ≡ map g (map form_plain (drop p fs))
forms_from g p fs = drop-map g p (map form_plain fs) ∙ ap (map g) (drop-map form_plain p fs)

form_first : (g : Form → ℕ × List Tree) (p : ℕ) (fs : List FlatFormula) (f : FlatFormula) → p < length fs → f ≡ get_or fs p f
    → drop p (map g (map form_plain fs)) ≡ g (form_plain f) ∷ drop (p + 1) (map g (map form_plain fs))
form_first g p fs f h e =
    forms_from g p fs ∙ ap (λ ys. map g (map form_plain ys)) (drop_item fs p f h e)
    ∙ ap (λ os. g (form_plain f) ∷ os) (sym (forms_from g (p + 1) fs))

-- the parts of a formula are added
pub forms_go_on : (g : Form → ℕ × List Tree) (h : FlatFormula → ℕ) (fs : List FlatFormula) (firsts nexts : List ℕ) (count i p q : ℕ) (f : FlatFormula) (done more total : List Tree) → ((f : FlatFormula) → (g (form_plain f)).0 ≡ h f)
    → AreChained (map h fs) count 0 firsts nexts → i < count → p < length fs → f ≡ get_or fs p f → more ≡ done ++ (g (form_plain (get_or fs p f))).1 → q ≡ get_or nexts p 0
    → Walks (map h fs) i (map g (map form_plain fs)) done total p → Walks (map h fs) i (map g (map form_plain fs)) more total q
forms_go_on g h fs firsts nexts count i p q f done more total same c k l e m n w =
    walk_goes_on (map g (map form_plain fs)) (map h fs) firsts nexts count i p q (g (form_plain f)) done more total (form_numbers g h fs same) c k
    (let r : length (map h fs) ≡ length fs = length-map fs h in omega (arith, r, l)) (form_first g p fs f l e) (m ∙ ap (λ y. done ++ (g (form_plain y)).1) (sym e)) n w

pub forms_end : (g : Form → ℕ × List Tree) (h : FlatFormula → ℕ) (fs : List FlatFormula) (i p : ℕ) (done total : List Tree) → ((f : FlatFormula) → (g (form_plain f)).0 ≡ h f) → length fs ≤ p
    → Walks (map h fs) i (map g (map form_plain fs)) done total p → done ≡ total
forms_end g h fs i p done total same l w =
    walk_ends (map g (map form_plain fs)) (map h fs) i p done total (form_numbers g h fs same) (let r : length (map h fs) ≡ length fs = length-map fs h in omega (arith, r, l)) w

pub bodies_end : (none k p : ℕ) (c : Coding) (fs : List FlatFormula) (done before : List Tree) → length fs ≤ p
    → Walks (map (body_number_of none) fs) k (map (body_owned none c) (map form_plain fs)) done (before ++ owned_by k (map (body_owned none c) (map form_plain fs))) p → done ≡ before ++ body_parts c k (map form_plain fs)
bodies_end none k p c fs done before l w =
    forms_end (body_owned none c) (body_number_of none) fs k p done (before ++ owned_by k (map (body_owned none c) (map form_plain fs))) (λ f. refl) l w ∙ ap (λ ts. before ++ ts) (bodies_are none k c (map form_plain fs))

forms_are : (i : ℕ) (c : Coding) (when : When) (fs : List Form) → owned_by i (map (form_owned c when) fs) ≡ flat_map (λ (f : Form). if f.instance == i then form_parts c when f.role f.body else []) fs
forms_are i c when [] = refl
forms_are i c when (f ∷ fs) = ap (λ ts. (if f.instance == i then form_parts c when f.role f.body else []) ++ ts) (forms_are i c when fs)

-- ---- the whole formula

-- those of the items of an instance, and those of its formulas
pub instance_done : (i : ℕ) (flat : PlainFlat) (c : Coding) (when : When) (done more all : List Tree) → more ≡ done ++ numbered_parts flat c when i 0 flat.items → all ≡ more ++ owned_by i (map (form_owned c when) flat.forms)
    → all ≡ done ++ instance_parts flat c when i
instance_done i flat c when done more all h e =
    e ∙ ap (λ ts. ts ++ owned_by i (map (form_owned c when) flat.forms)) h ∙ append_assoc done (numbered_parts flat c when i 0 flat.items) (owned_by i (map (form_owned c when) flat.forms))
    ∙ ap (λ ts. done ++ (numbered_parts flat c when i 0 flat.items ++ ts)) (forms_are i c when flat.forms)

-- where there is memory
pub where_ok : {A : Type 0} (P Q : Type 0) (r : Result A NoMemory) → (P → Q) → OnOk r P → OnOk r Q
where_ok P Q (Ok a) f h = f h
where_ok P Q (Err e) f h = h

pub all_is : (ts : List Tree) → several op.And true (trees_of ts) ≡ all_term ts
all_is [] = refl
all_is (t ∷ []) = refl
all_is (t ∷ u ∷ ts) = refl
