-- What the rows of a stated run's states say of a step.
use Rattle.std.proofs.Common.{◌≡◌, ℕ, ◌+◌, Bool, true, false, ◌&&◌, ◌==◌, if◌then◌else◌, List, [], ◌∷◌, map, length, Some, None, Result, Ok, Err, IfOk, IsTrue, refl, sym, ap, ◌∙◌, subst, arith}
use Rattle.std.specs.List.{slice_get}
use Rattle.std.proofs.lemmas.Option.{slice_get-map}
use Rattle.text_core.specs.declared.verdict.Clause.{Clause}
use Rattle.text_core.specs.declared.verdict.Clause.TheVariants.{ValueOutside, NotBroken}
use Rattle.text_core.specs.declared.verdict.Verdict.{Verdict}
use Rattle.text_core.specs.declared.verdict.Verdict.TheVariants.{Yes, No}
use Rattle.text_core.specs.declared.errors.NoMemory.{NoMemory}
use Rattle.text_core.specs.declared.place.Refusal.{Refusal}
use Rattle.smv_text.specs.Tree.{PlainSource}
use Rattle.smv_meaning.specs.Checks.{Check, passes, first_failing}
use Rattle.smv_meaning.specs.declared.value.Given.{Given}
use Rattle.smv_meaning.specs.Values.{Valuation, given}
use Rattle.smv_meaning.specs.Instances.{Instance, instances_of}
use Rattle.smv_meaning.specs.Literals.{words_fit}
use Rattle.smv_meaning.specs.Phases.{names_in}
use Rattle.smv_meaning.specs.Checked.{all_trees}
use Rattle.smv_meaning.specs.Runs.{state_fits, label_fits, unless_fails, is_broken, judged_after, judged_smv}
use Rattle.smv_meaning.specs.laws.Booleans.{both_true, absurd_bool}
use Rattle.smv_laws.proofs.SafeExpressions.{accepted_is_checked_law}
use Rattle.smv_accepted.proofs.Literals.{words_fit_law}
use Rattle.smv_accepted.proofs.ItemNames.{names_are_distinct_law}
use Rattle.smv_items.specs.FlatItems.{PlainFlatItem, origins_of}
use Rattle.smv_items.specs.FlatItemView.{item_plain}
use Rattle.smv_flat.specs.FlatForms.{PlainFlat, flat_smv}
use Rattle.smv_flat.specs.FlatTruth.{Row, GivesItem, IsRow}
use Rattle.smv_flat_laws.specs.FlatLaws.{HasTruth}
use Rattle.smv_flat_laws.proofs.FlatLaw.{same_truth_law}
use Rattle.smv_operators.specs.declared.seen.Seen.{Seen}
use Rattle.smv_flat_evaluation.specs.RowValues.{row_values}
use Rattle.smv_flat_evaluation.specs.FlatSafety.{FormsSafe}
use Rattle.smv_flat_evaluation.proofs.SafeForms.{forms_are_safe_law}
use Rattle.smv_flat.specs.declared.parts.FlatParts.{FlatParts}
use Rattle.smv_flat.specs.FlatParts.{parts_plain}
use Rattle.smv_rows.specs.Places.{IsGiven}
use Rattle.smv_rows.specs.Truths.{CanFill, RowsAreSafe}
use Rattle.smv_judge.specs.Fits.{items_fit}
use Rattle.smv_judge.specs.Labels.{first_label}
use Rattle.smv_flatten.specs.FlatModel.{IsFlatOf}
use Rattle.smv_judge.specs.Models.{HasModel, failing, first_clauses, LabelFits, StateFits}
use Rattle.smv_judge.proofs.Declared.{AllDeclared, origins_declared}
use Rattle.smv_judge.proofs.FitLaws.{fits_so, first_label_fits}
use Rattle.digraph.proofs.Lists.{same}

-- ---- the model

words : (source : PlainSource) (flat : PlainFlat) → IsFlatOf source flat → all_trees words_fit (instances_of source) ≡ true
words source flat m = words_fit_law source m.read.end m.read.text m.read.tokens m.read.lexed m.read.spelled

declared : (source : PlainSource) (flat : PlainFlat) → IsFlatOf source flat → AllDeclared (origins_of (instances_of source))
declared source flat m =
    origins_declared (names_in (instances_of source)) source m.read.end m.read.tokens m.read.spelled (accepted_is_checked_law source m.needed m.accepted).types

pub own_label : (flat : PlainFlat) (source : PlainSource) → IsFlatOf source flat → IsTrue (label_fits (instances_of source) (given (first_label flat.items)))
own_label flat source m =
    subst (λ (f : PlainFlat). IsTrue (label_fits (instances_of source) (given (first_label f.items)))) (sym m.form)
    (first_label_fits (instances_of source) (declared source flat m)
    (names_are_distinct_law source m.read.end m.read.text m.read.tokens m.read.lexed m.read.spelled m.needed m.accepted))

-- ---- values

pub model_fits : (flat : FlatParts) (source : PlainSource) → IsFlatOf source (parts_plain flat) → (s l : Valuation) (values : List Seen) → IsGiven flat.items.now s l values
    → items_fit (row_values values) 0 (map item_plain flat.items.now) ≡ (state_fits (instances_of source) s && label_fits (instances_of source) l)
model_fits flat source m s l values g =
    let items : map item_plain flat.items.now ≡ (flat_smv source).items = ap (λ (f : PlainFlat). f.items) m.form in
    ap (items_fit (row_values values) 0) items
    ∙ fits_so (instances_of source) (declared source (parts_plain flat) m) s l (row_values values)
    (λ k. subst (λ (ms : List PlainFlatItem). GivesItem s l (row_values values k) (slice_get ms k)) items
    (subst (GivesItem s l (row_values values k)) (sym (slice_get-map item_plain flat.items.now k)) (g.variables k)))

abbrev pub Values : FlatParts → List Seen → Bool
Values flat values = items_fit (row_values values) 0 (map item_plain flat.items.now)

pub both_fit : (flat : FlatParts) (source : PlainSource) → IsFlatOf source (parts_plain flat) → (s l : Valuation) (values : List Seen) → IsGiven flat.items.now s l values → Values flat values ≡ true
    → IsTrue (state_fits (instances_of source) s) × IsTrue (label_fits (instances_of source) l)
both_fit flat source m s l values g h =
    both_true (state_fits (instances_of source) s) (label_fits (instances_of source) l) (sym (model_fits flat source m s l values g) ∙ h)

pub none_fits : (flat : FlatParts) (source : PlainSource) → IsFlatOf source (parts_plain flat) → (s l : Valuation) (values : List Seen) → IsGiven flat.items.now s l values → Values flat values ≡ false
    → (state_fits (instances_of source) s && label_fits (instances_of source) l) ≡ false
none_fits flat source m s l values g h = sym (model_fits flat source m s l values g) ∙ h

and_left : (a b : Bool) → (a && b) ≡ false → b ≡ true → a ≡ false
and_left true b h e = absurd_bool (sym h ∙ e)
and_left false b h e = refl

pub state_unfit : (flat : FlatParts) (source : PlainSource) → IsFlatOf source (parts_plain flat) → (s l : Valuation) (values : List Seen) → IsGiven flat.items.now s l values → Values flat values ≡ false
    → LabelFits flat l → state_fits (instances_of source) s ≡ false
state_unfit flat source m s l values g h f = and_left (state_fits (instances_of source) s) (label_fits (instances_of source) l) (none_fits flat source m s l values g h) (f source m)

-- ---- rows

pub rows_safe : (flat : FlatParts) (source : PlainSource) → IsFlatOf source (parts_plain flat) → (s l u v : Valuation)
    → IsTrue (state_fits (instances_of source) s) → IsTrue (label_fits (instances_of source) l) → IsTrue (state_fits (instances_of source) u) → IsTrue (label_fits (instances_of source) v)
    → (now later : Row) → IsRow (parts_plain flat) s l now → IsRow (parts_plain flat) u v later → FormsSafe (parts_plain flat) now later (parts_plain flat).forms
rows_safe flat source m s l u v a b c d now later =
    subst (λ (f : PlainFlat). IsRow f s l now → IsRow f u v later → FormsSafe f now later f.forms) (sym m.form)
    (λ x y. forms_are_safe_law source m.needed m.accepted (words source (parts_plain flat) m) s l u v a b c d now later x y)

pub rows_true : (flat : FlatParts) (source : PlainSource) → IsFlatOf source (parts_plain flat) → (s l u v : Valuation) (now later : Row) → IsRow (parts_plain flat) s l now → IsRow (parts_plain flat) u v later
    → HasTruth (instances_of source) (parts_plain flat) s l u now later
rows_true flat source m s l u v now later =
    subst (λ (f : PlainFlat). IsRow f s l now → IsRow f u v later → HasTruth (instances_of source) f s l u now later) (sym m.form)
    (λ x y. same_truth_law source m.read.end m.read.tokens m.read.spelled m.needed m.accepted s l u v now later x y)

pub all_safe : (flat : FlatParts) → HasModel flat → (s l : Valuation) → StateFits flat s → LabelFits flat l → RowsAreSafe (parts_plain flat) s l
all_safe flat m s l a b row r = rows_safe flat m.0 m.1 s l s l (a m.0 m.1) (b m.0 m.1) (a m.0 m.1) (b m.0 m.1) row row r r

pub can_fill : (flat : FlatParts) → HasModel flat → (s l : Valuation) (values : List Seen) → IsGiven flat.items.now s l values → Values flat values ≡ true → CanFill flat values
can_fill flat m s l values g h =
    (s, l, g, all_safe flat m s l (λ source k. (both_fit flat source k s l values g h).0) (λ source k. (both_fit flat source k s l values g h).1))

-- what the code tells of the values
pub told : (flat : FlatParts) (values xs : List Seen) (r b : Bool) → xs ≡ values → r ≡ Values flat xs → r ≡ b → Values flat values ≡ b
told flat values xs r b e f g = ap (Values flat) (sym e) ∙ sym f ∙ g

pub truth_is : (a b c r : Bool) → a ≡ b → r ≡ a → r ≡ c → b ≡ c
truth_is a b c r e f g = sym e ∙ sym f ∙ g

pub both_same : (a b c d : Bool) → a ≡ c → b ≡ d → (a && b) ≡ (c && d)
both_same a b c d e f = ap (λ x. x && b) e ∙ ap (λ x. c && x) f

-- ---- ends

pub outside_end : (t : List Instance) (j n : ℕ) (s : Valuation) (states labels : List (List Given)) (target : Verdict) → length states ≡ 0 → (length labels == 0) ≡ false
    → judged_after t j n s (map given states) (map given labels) ≡ target → No (n + 1) ValueOutside ≡ target
outside_end t j n s [] [] target a b h = absurd_bool (sym b)
outside_end t j n s [] (l ∷ ls) target a b h = h
outside_end t j n s (x ∷ xs) labels target a b h = absurd (omega (arith, a))

if_is : (b c : Bool) (x y z : Verdict) → b ≡ c → (if b then x else y) ≡ z → (if c then x else y) ≡ z
if_is b c x y z e h = ap (λ k. if k then x else y) (sym e) ∙ h

pub broken_end : (t : List Instance) (j n : ℕ) (s : Valuation) (states labels : List (List Given)) (target : Verdict) (b : Bool) → length states ≡ 0 → (length labels == 0) ≡ true → is_broken t j s ≡ b
    → judged_after t j n s (map given states) (map given labels) ≡ target → (if b then Yes else No n NotBroken) ≡ target
broken_end t j n s [] [] target b a c e h = if_is (is_broken t j s) b Yes (No n NotBroken) target e h
broken_end t j n s [] (l ∷ ls) target b a c e h = let z : length (l ∷ ls) ≡ 0 = same (length (l ∷ ls)) 0 c in absurd (omega (arith, z))
broken_end t j n s (x ∷ xs) labels target b a c e h = absurd (omega (arith, a))

-- ---- clauses

pub first_fails : (a b c : Bool) (x y z : Clause) → a ≡ false → Some x ≡ failing ((x, a) ∷ (y, b) ∷ (z, c) ∷ [])
first_fails true b c x y z h = absurd_bool (sym h)
first_fails false b c x y z h = refl

pub second_fails : (a b c : Bool) (x y z : Clause) → a ≡ true → b ≡ false → Some y ≡ failing ((x, a) ∷ (y, b) ∷ (z, c) ∷ [])
second_fails true true c x y z h k = absurd_bool (sym k)
second_fails true false c x y z h k = refl
second_fails false b c x y z h k = absurd_bool h

pub third_fails : (a b c : Bool) (x y z : Clause) → a ≡ true → b ≡ true → c ≡ false → Some z ≡ failing ((x, a) ∷ (y, b) ∷ (z, c) ∷ [])
third_fails true true true x y z h k l = absurd_bool (sym l)
third_fails true true false x y z h k l = refl
third_fails true false c x y z h k l = absurd_bool k
third_fails false b c x y z h k l = absurd_bool h

pub none_fails : (a b c : Bool) (x y z : Clause) → a ≡ true → b ≡ true → c ≡ true → None ≡ failing ((x, a) ∷ (y, b) ∷ (z, c) ∷ [])
none_fails true true true x y z h k l = refl
none_fails true true false x y z h k l = absurd_bool l
none_fails true false c x y z h k l = absurd_bool k
none_fails false b c x y z h k l = absurd_bool h

pub some_said : (n : ℕ) (cs : List (Clause × Bool)) (rest : Verdict) (c : Clause) → Some c ≡ failing cs → No n c ≡ unless_fails n cs rest
some_said n [] rest c h = cc
some_said n (d ∷ cs) rest c h = by d.1 h (λ k. some_said n cs rest c k)
  where
    by : (b : Bool) → Some c ≡ (if b then failing cs else Some d.0) → (Some c ≡ failing cs → No n c ≡ unless_fails n cs rest) → No n c ≡ (if b then unless_fails n cs rest else No n d.0)
    by true e f = f e
    by false e f = let s : c ≡ d.0 = cc in ap (No n) s

pub none_said : (n : ℕ) (cs : List (Clause × Bool)) (rest : Verdict) → None ≡ failing cs → rest ≡ unless_fails n cs rest
none_said n [] rest h = refl
none_said n (d ∷ cs) rest h = by d.1 h (λ k. none_said n cs rest k)
  where
    by : (b : Bool) → None ≡ (if b then failing cs else Some d.0) → (None ≡ failing cs → rest ≡ unless_fails n cs rest) → rest ≡ (if b then unless_fails n cs rest else No n d.0)
    by true e f = f e
    by false e f = cc

-- a clause that fails at the first state is the verdict on the run
pub first_refused : (source : PlainSource) (j : ℕ) (first : List Given) (following states labels : List (List Given)) (clause : Clause) → states ≡ first ∷ following
    → Some clause ≡ failing (first_clauses (instances_of source) (given first)) → No 0 clause ≡ judged_smv source j (map given states) (map given labels)
first_refused source j first following states labels clause e f =
    some_said 0 (first_clauses (instances_of source) (given first)) (judged_after (instances_of source) j 0 (given first) (map given following) (map given labels)) clause f
    ∙ ap (λ (xs : List (List Given)). judged_smv source j (map given xs) (map given labels)) (sym e)

-- ---- accepted models

pub none_refused : (cs : List Check) (r : Refusal) → passes cs ≡ true → first_failing cs ≡ Some r → ⊥
none_refused [] r a h = cc
none_refused (k ∷ cs) r a h =
    let b = both_true k.holds (passes cs) a in none_refused cs r b.1 (ap (λ (x : Bool). if x then first_failing cs else Some k.refusal) (sym b.0) ∙ h)

-- what is told of each model that has the flat form is told of this one
pub told_of : (source : PlainSource) (flat : PlainFlat) (result : Result Verdict NoMemory) (verdict : PlainSource → Verdict) → IsFlatOf source flat
    → IfOk result (λ v. (other : PlainSource) → IsFlatOf other flat → v ≡ verdict other) → IfOk result (λ v. v ≡ verdict source)
told_of source flat (Ok v) verdict m h = h source m
told_of source flat (Err e) verdict m h = tt

-- what is told of the steps behind the first state is told of the run, where nothing fails at that state
pub parts_told : (flat : PlainFlat) (result : Result Verdict NoMemory) (j : ℕ) (first : List Given) (following behind states labels : List (List Given)) → states ≡ first ∷ following → behind ≡ labels
    → ((source : PlainSource) → IsFlatOf source flat → None ≡ failing (first_clauses (instances_of source) (given first)))
    → IfOk result (λ v. (source : PlainSource) → IsFlatOf source flat → v ≡ judged_after (instances_of source) j 0 (given first) (map given following) (map given behind))
    → IfOk result (λ v. (source : PlainSource) → IsFlatOf source flat → v ≡ judged_smv source j (map given states) (map given labels))
parts_told flat (Ok v) j first following behind states labels e g f h = λ source m.
    let rest = judged_after (instances_of source) j 0 (given first) (map given following) (map given behind) in
    h source m ∙ none_said 0 (first_clauses (instances_of source) (given first)) rest (f source m)
    ∙ ap (λ (xs : List (List Given)). judged_smv source j (map given xs) (map given behind)) (sym e) ∙ ap (λ (xs : List (List Given)). judged_smv source j (map given states) (map given xs)) g
parts_told flat (Err x) j first following behind states labels e g f h = tt
