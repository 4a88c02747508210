-- Rows of runs that are stated by the numbers of items.
use Rattle.std.proofs.Common.{◌≡◌, ℕ, zero, suc, ◌+◌, ◌-◌, ◌<◌, ◌≤◌, ◌==◌, true, false, List, [], ◌∷◌, ◌++◌, length, map, take, drop, replicate, get_or, Option, Some, refl, sym, ap, ◌∙◌, subst, arith, add-one}
use Rattle.std.proofs.lemmas.List.{length-map, drop_more, drop_all, get_or_default}
use Rattle.std.proofs.lemmas.Bool.Decides.{nat_tests}
use Rattle.text_core.specs.declared.verdict.Verdict.{Verdict}
use Rattle.text_core.specs.declared.verdict.Verdict.TheVariants.{No}
use Rattle.text_core.specs.declared.verdict.Clause.TheVariants.{ValueOutside}
use Rattle.smv_text.specs.Tree.{PlainSource}
use Rattle.smv_meaning.specs.declared.value.Value.{Value}
use Rattle.smv_meaning.specs.declared.value.Given.{Given}
use Rattle.smv_meaning.specs.Values.{Valuation, no_value, given}
use Rattle.smv_meaning.specs.Instances.{Instance}
use Rattle.smv_meaning.specs.Runs.{judged_after, judged_smv, unless_fails}
use Rattle.smv_items.specs.declared.items.ItemKind.{ItemKind}
use Rattle.smv_items.specs.declared.items.ItemKind.TheVariants.{State, Frozen, Input, Define, Actual}
use Rattle.std.specs.Borrow.{Bor}
use Rattle.smv_items.specs.FlatItems.{PlainFlatItem}
use Rattle.smv_items.specs.FlatItemView.{item_plain}
use Rattle.smv_flat.specs.declared.parts.FlatParts.{FlatParts}
use Rattle.smv_flat.specs.FlatParts.{parts_plain}
use Rattle.smv_numbered.specs.declared.heading.Heading.TheVariants as heading
use Rattle.smv_numbered.specs.declared.run.Change.{Change}
use Rattle.smv_numbered.specs.declared.run.NumberedRun.{NumberedRun}
use Rattle.smv_numbered.specs.Values.{picks, given_if, values_of, nothing_stated}
use Rattle.smv_numbered.specs.Runs.{stated_at, state_at, label_at, states_of, labels_of, IsRising}
use Rattle.smv_numbered.specs.laws.Stated.{rising_low, stated_on, length_all}
use Rattle.smv_rows.specs.Numbered.{values_or_none, set_by}
use Rattle.smv_rows.proofs.Numbered.{set_as_stated}
use Rattle.smv_judge.specs.declared.stated.Stated.{Stated}
use Rattle.smv_judge.specs.declared.stated.Stated.TheVariants.{Named, Numbered}
use Rattle.smv_judge.specs.Labels.{first_value, given_first, first_label}
use Rattle.smv_judge.specs.Models.{step_clauses}
use Rattle.smv_judge.specs.Stated.{list_at, end_before, IsCarried, judged_from}

-- ---- numbers of states and labels

pub states_long : (items : List PlainFlatItem) (cs : List Change) (ns : List ℕ) → length (states_of items cs ns) ≡ length ns
states_long items cs ns = length-map ns (state_at items cs)

at_map : (f : ℕ → List Given) (ns : List ℕ) (k : ℕ) → k < length ns → list_at (map f ns) k ≡ f (get_or ns k 0)
at_map f [] k l = absurd (omega (arith, l))
at_map f (n ∷ ns) zero l = refl
at_map f (n ∷ ns) (suc k) l = at_map f ns k (omega (arith, l))

pub state_here : (items : List PlainFlatItem) (cs : List Change) (ns : List ℕ) (k : ℕ) → k < length ns → list_at (states_of items cs ns) k ≡ state_at items cs (end_before (k + 1) ns)
state_here items cs ns k l = at_map (state_at items cs) ns k l ∙ ap (λ i. state_at items cs (get_or (0 ∷ ns) i 0)) (sym (add-one k))

pub label_here : (items : List PlainFlatItem) (cs : List Change) (ns : List ℕ) (k : ℕ) → k < length (labels_of items cs ns) → list_at (labels_of items cs ns) k ≡ label_at items cs (end_before ((k + 1) + 1) ns)
label_here items cs [] k l = absurd (omega (arith, l))
label_here items cs (n ∷ ns) k l =
    let two : (k + 1) + 1 ≡ suc (suc k) = omega arith in
    at_map (label_at items cs) ns k (omega (arith, l, length-map ns (label_at items cs))) ∙ ap (λ i. label_at items cs (get_or (0 ∷ n ∷ ns) i 0)) (sym two)

-- ---- ends

rising_at : (low : ℕ) (ns : List ℕ) (high : ℕ) → IsRising low ns high → (k : ℕ) → k < length ns → (get_or (low ∷ ns) k 0 ≤ get_or ns k 0) × (get_or ns k 0 ≤ high)
rising_at low [] high h k l = absurd (omega (arith, l))
rising_at low (n ∷ ns) high h zero l = (h.0, rising_low n ns high h.1)
rising_at low (n ∷ ns) high h (suc k) l = rising_at n ns high h.1 k (omega (arith, l))

pub ends_rise : (ns : List ℕ) (high k : ℕ) → IsRising 0 ns high → k < length ns → (end_before k ns ≤ end_before (k + 1) ns) × (end_before (k + 1) ns ≤ high)
ends_rise ns high k h l =
    let e : suc k ≡ k + 1 = sym (add-one k) in
    subst (λ (i : ℕ). (end_before k ns ≤ get_or (0 ∷ ns) i 0) × (get_or (0 ∷ ns) i 0 ≤ high)) e (rising_at 0 ns high h k l)

-- ---- values that are carried forward

pub carried_on : (items : List PlainFlatItem) (all cs part : List Change) (low high : ℕ) (old new : List Value) → low ≤ high → all ≡ cs → part ≡ take (high - low) (drop low all) → new ≡ set_by old part
    → old ≡ values_or_none (stated_at items cs low) → new ≡ values_or_none (stated_at items cs high)
carried_on items all cs part low high old new l e f g h =
    g ∙ ap (λ vs. set_by vs part) h ∙ ap (set_by (values_or_none (stated_at items cs low))) (f ∙ ap (λ xs. take (high - low) (drop low xs)) e)
    ∙ set_as_stated (stated_at items cs low) (take (high - low) (drop low cs)) ∙ ap values_or_none (stated_on items cs low high l)

none_are : {X : Type 0} (xs : List X) → values_or_none (nothing_stated xs) ≡ replicate (length xs) no_value
none_are [] = refl
none_are (x ∷ xs) = ap (λ vs. no_value ∷ vs) (none_are xs)

pub carried_first : (items : List PlainFlatItem) (run : Stated) (n : ℕ) (carried : List Value) → n ≡ length items → carried ≡ replicate n no_value → IsCarried items run 0 carried
carried_first items (Named run label) n carried l e = tt
carried_first items (Numbered run firsts) n carried l e = e ∙ ap (λ k. replicate k no_value) l ∙ sym (none_are items)

pub numbered_carried : (items : List PlainFlatItem) (run : Stated) (numbered : Bor NumberedRun) (firsts : Bor (List Value)) (k : ℕ) (carried : List Value) → run ≡ Numbered numbered firsts → IsCarried items run k carried
    → carried ≡ values_or_none (stated_at items numbered.now.changes (end_before k numbered.now.ends))
numbered_carried items run numbered firsts k carried is h = subst (λ (r : Stated). IsCarried items r k carried) is h

pub stated_long : (flat : FlatParts) (cs : List Change) (n : ℕ) → length (stated_at (parts_plain flat).items cs n) ≡ length flat.items.now
stated_long flat cs n = length_all (parts_plain flat).items (take n cs) ∙ length-map flat.items.now item_plain

-- ---- first values

abbrev pub firsts_of : List PlainFlatItem → List (Option Value)
firsts_of items = map (λ m. Some (first_value m.type m.members)) items

pub firsts_long : (flat : FlatParts) → length (firsts_of (parts_plain flat).items) ≡ length flat.items.now
firsts_long flat = length-map (parts_plain flat).items (λ m. Some (first_value m.type m.members)) ∙ length-map flat.items.now item_plain

pub firsts_are : (items : List PlainFlatItem) → map (λ m. first_value m.type m.members) items ≡ values_or_none (firsts_of items)
firsts_are [] = refl
firsts_are (m ∷ ms) = ap (λ vs. first_value m.type m.members ∷ vs) (firsts_are ms)

first_given : (m : PlainFlatItem) (kind : ItemKind) → given_if (picks heading.Input kind) m.name (Some (first_value m.type m.members)) ≡ given_first m kind
first_given m State = refl
first_given m Frozen = refl
first_given m Input = refl
first_given m Define = refl
first_given m Actual = refl

pub label_is : (items : List PlainFlatItem) → values_of heading.Input items (firsts_of items) ≡ first_label items
label_is [] = refl
label_is (m ∷ ms) = ap (λ zs. zs ++ values_of heading.Input ms (firsts_of ms)) (first_given m m.kind) ∙ ap (λ zs. given_first m m.kind ++ zs) (label_is ms)

-- ---- lists from a number on

pub list_on : (xs : List (List Given)) (k : ℕ) → k < length xs → drop k xs ≡ list_at xs k ∷ drop (k + 1) xs
list_on xs k l = drop_more xs k [] l

pub read_at : (xs : List (List Given)) (k : ℕ) (x : List Given) → k < length xs → x ≡ get_or xs k x → x ≡ list_at xs k
read_at xs k x l e = e ∙ get_or_default xs k x [] l

pub some_left : (xs : List (List Given)) (k : ℕ) → k < length xs → (length (drop k xs) == 0) ≡ false
some_left xs k l = ap (λ (ys : List (List Given)). length ys == 0) (list_on xs k l) ∙ (grind (arith, nat_tests))

pub none_left : (xs : List (List Given)) (k : ℕ) → length xs ≤ k → drop k xs ≡ []
none_left xs k l = drop_all k xs l

-- a state without a label
pub unlabelled : (t : List Instance) (j n : ℕ) (s : Valuation) (u : List Given) (us states labels : List (List Given)) (target : Verdict) → states ≡ u ∷ us → labels ≡ []
    → judged_after t j n s (map given states) (map given labels) ≡ target → No (n + 1) ValueOutside ≡ target
unlabelled t j n s u us states labels target e f h =
    sym (ap (λ (xs : List (List Given)). judged_after t j n s (map given xs) (map given labels)) e ∙ ap (λ (xs : List (List Given)). judged_after t j n s (map given (u ∷ us)) (map given xs)) f) ∙ h

-- a step whose state and label are there
pub step_on : (t : List Instance) (j k : ℕ) (states labels : List (List Given)) → k + 1 < length states → k < length labels
    → judged_from t j k states labels ≡ unless_fails (k + 1) (step_clauses t (given (list_at states k)) (given (list_at labels k)) (given (list_at states (k + 1)))) (judged_from t j (k + 1) states labels)
step_on t j k states labels a b =
    let s = given (list_at states k) in
    ap (λ (xs : List (List Given)). judged_after t j k s (map given xs) (map given (drop k labels))) (list_on states (k + 1) a)
    ∙ ap (λ (xs : List (List Given)). judged_after t j k s (map given (list_at states (k + 1) ∷ drop ((k + 1) + 1) states)) (map given xs)) (list_on labels k b)

pub none_length : (xs : List (List Given)) (k : ℕ) → length xs ≤ k → length (drop k xs) ≡ 0
none_length xs k l = ap length (none_left xs k l)

pub none_zero : (xs : List (List Given)) (k : ℕ) → length xs ≤ k → (length (drop k xs) == 0) ≡ true
none_zero xs k l = ap (λ (ys : List (List Given)). length ys == 0) (none_left xs k l)

pub no_states : (source : PlainSource) (j : ℕ) (states labels : List (List Given)) → length states ≡ 0 → No 0 ValueOutside ≡ judged_smv source j (map given states) (map given labels)
no_states source j [] labels e = refl
no_states source j (x ∷ xs) labels e = absurd (omega (arith, e))

-- ---- the code's ends

pub end_is : (ns : List ℕ) (k x : ℕ) → 0 < k → k < length ns + 1 → x ≡ get_or ns (k - 1) x → x ≡ end_before k ns
end_is ns zero x a b e = absurd (omega (arith, a))
end_is ns (suc k) x a b e =
    let f : suc k - 1 ≡ k = omega arith in
    let l : k < length ns = omega (arith, b) in
    e ∙ ap (λ i. get_or ns i x) f ∙ get_or_default ns k x 0 l

pub end_next : (ns : List ℕ) (k x : ℕ) → k < length ns → x ≡ get_or ns k x → x ≡ end_before (k + 1) ns
end_next ns k x l e = e ∙ get_or_default ns k x 0 l ∙ ap (λ i. get_or (0 ∷ ns) i 0) (sym (add-one k))
